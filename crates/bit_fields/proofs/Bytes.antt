-- The bits of a byte list: a byte is an 8-bit field, a list is made by its bits, and eight bits more are one byte more.
-- Assumes nothing.
use mathlib.Core.Path.{◌≡◌, refl, sym, ap, ap₂, ◌∙◌}
use mathlib.Core.List.{List, [], ◌∷◌, ◌++◌}
use mathlib.Core.Logic.{⊎_elim}
use Prim.Native.Nat.{ℕ, zero, suc, ◌+◌, ◌-◌, ◌*◌, ◌/◌, ◌%◌, ◌^◌, ◌≤◌, ◌<◌}
use native.Mathlib.Nat.{add-suc, add-zero, zero-add, suc-add, zero-div, mod-lt, mod-eq_of_lt, lt_of_lt_of_le}
use native.Mathlib.Omega.{arith}
use lib.Pow.{pow_mono}
use lib.ListN.{length, get_or, get_or-eq_default}
use lib.Seq.{ext_get_or}
use Rattle.bit_fields.specs.Bits.{bit, num, run, byte_of, bytes_of}
use Rattle.bit_fields.proofs.Cases.{le_or_lt}
use Rattle.bit_fields.proofs.Num.{Bits, num_lt, num_split, num_ext}
use Rattle.bit_fields.proofs.Digits.{digit_whole, digit_more, bit_of}

-- every element of the list is a byte
abbrev pub AreBytes : List ℕ → Type 0
AreBytes s = (i : ℕ) → get_or s i 0 < 256

pub bit_lt : (s : List ℕ) → Bits (bit s)
unfolding bit
bit_lt s k = mod-lt (get_or s (k / 8) 0 / 2 ^ (7 - k % 8)) (omega arith)

-- bit j of byte i
pub bit_at : (s : List ℕ) (i j : ℕ) → j < 8 → bit s (8 * i + j) ≡ get_or s i 0 / 2 ^ (7 - j) % 2
unfolding bit
bit_at s i j h =
    let p : (8 * i + j) / 8 ≡ i = omega arith in
    let q : (8 * i + j) % 8 ≡ j = omega arith in
    ap₂ (λ (m n : ℕ). get_or s m 0 / 2 ^ (7 - n) % 2) p q

-- past the end every bit is 0
pub bit_past : (s : List ℕ) (k : ℕ) → 8 * length s ≤ k → bit s k ≡ 0
unfolding bit
bit_past s k h = rw (get_or-eq_default s 0 {n = k / 8} (omega arith), zero-div)

-- ---- bytes as digits of eight bits

digit_at : (s : List ℕ) (i j : ℕ) → j < 8 → bit s (8 * i + j) ≡ get_or s i 0 / 2 ^ (8 - (j + 1)) % 2
digit_at s i j h = bit_at s i j h ∙ ap (λ (x : ℕ). get_or s i 0 / 2 ^ x % 2) (omega arith)

pub byte_whole : (s : List ℕ) (i : ℕ) → num (bit s) (8 * i) 8 ≡ get_or s i 0 % 256
byte_whole s = digit_whole 8 (bit s) (λ (i : ℕ). get_or s i 0) (digit_at s)

-- eight bits more are one byte more
pub byte_more : (s : List ℕ) (i n : ℕ) → num (bit s) (8 * i) (8 * n + 8) ≡ num (bit s) (8 * i) (8 * n) * 256 + get_or s (i + n) 0 % 256
byte_more s = digit_more 8 (bit s) (λ (i : ℕ). get_or s i 0) (digit_at s)

-- the same of elements that are bytes
pub byte_field : (s : List ℕ) (i : ℕ) → get_or s i 0 < 256 → num (bit s) (8 * i) 8 ≡ get_or s i 0
byte_field s i h = byte_whole s i ∙ mod-eq_of_lt h

pub num_byte : (s : List ℕ) (i n : ℕ) → get_or s (i + n) 0 < 256
    → num (bit s) (8 * i) (8 * n + 8) ≡ num (bit s) (8 * i) (8 * n) * 256 + get_or s (i + n) 0
num_byte s i n h = byte_more s i n ∙ ap (λ (x : ℕ). num (bit s) (8 * i) (8 * n) * 256 + x) (mod-eq_of_lt h)

-- the number that two bytes make, and the one that the last twelve of their bits make
pub num_pair : (s : List ℕ) → AreBytes s → (i : ℕ) → num (bit s) (8 * i) 16 ≡ 256 * get_or s i 0 + get_or s (i + 1) 0
num_pair s h i = omega (arith, byte_field s i (h i), num_byte s i 1 (h (i + 1)))

pub num_twelve : (s : List ℕ) → AreBytes s → (i : ℕ) → num (bit s) (8 * i + 4) 12 ≡ get_or s i 0 % 16 * 256 + get_or s (i + 1) 0
num_twelve s h i =
    omega (arith, num_pair s h i, num_split (bit s) (8 * i) 4 12, num_lt (bit s) (bit_lt s) (8 * i + 4) 12, h (i + 1))

-- the number that four bytes make, most significant first
abbrev pub word : ℕ → ℕ → ℕ → ℕ → ℕ
word a b c d = ((a * 256 + b) * 256 + c) * 256 + d

pub num_word : (s : List ℕ) → AreBytes s → (i : ℕ)
    → num (bit s) (8 * i) 32 ≡ word (get_or s i 0) (get_or s (i + 1) 0) (get_or s (i + 2) 0) (get_or s (i + 3) 0)
num_word s h i =
    omega (arith, byte_field s i (h i), num_byte s i 1 (h (i + 1)), num_byte s i 2 (h (i + 2)), num_byte s i 3 (h (i + 3)))

-- fewer than eight bytes leave room for one more in 64 bits
pub num_room : (s : List ℕ) (k n : ℕ) → n < 8 → num (bit s) k (8 * n) < 2 ^ 56
num_room s k n h =
    let few : 8 * n ≤ 56 = omega arith in
    lt_of_lt_of_le (num_lt (bit s) (bit_lt s) k (8 * n)) (pow_mono few)

-- ---- runs

pub length_run : (g : ℕ → ℕ) (i n : ℕ) → length (run g i n) ≡ n
unfolding run
length_run g i zero = refl
length_run g i (suc n) = ap suc (length_run g (suc i) n)

pub get_d_run : (g : ℕ → ℕ) (i n k : ℕ) → k < n → get_or (run g i n) k 0 ≡ g (i + k)
unfolding run
get_d_run g i (suc n) zero h = ap g (sym (add-zero i))
get_d_run g i (suc n) (suc k) h = get_d_run g (suc i) n k (omega arith) ∙ ap g (suc-add i k ∙ sym (add-suc i k))
get_d_run g i zero k h = absurd (omega arith)

-- a list is the run of a function that gives each of its elements
pub is_run : (g : ℕ → ℕ) (s : List ℕ) (n : ℕ) → length s ≡ n → ((k : ℕ) → k < n → get_or s k 0 ≡ g k) → s ≡ run g 0 n
is_run g s n e h =
    ext_get_or 0 s (run g 0 n) (e ∙ sym (length_run g 0 n))
    (λ k m.
    let m' : k < n = omega (arith, e) in
    h k m' ∙ ap g (sym (zero-add k)) ∙ sym (get_d_run g 0 n k m'))

-- one value more, at the end
pub run_more : (g : ℕ → ℕ) (i n : ℕ) → run g i (n + 1) ≡ run g i n ++ (g (i + n) ∷ [])
unfolding run
run_more g i zero = ap (λ (k : ℕ). g k ∷ []) (sym (add-zero i))
run_more g i (suc n) =
    ap (run g i) (suc-add n 1)
    ∙ ap (λ (l : List ℕ). g i ∷ l) (run_more g (suc i) n)
    ∙ ap (λ (k : ℕ). g i ∷ (run g (suc i) n ++ (g k ∷ []))) (omega arith)

-- ---- the bytes that bits make

pub length_bytes_of : (f : ℕ → ℕ) (n : ℕ) → length (bytes_of f n) ≡ n
unfolding bytes_of
length_bytes_of f n = length_run (byte_of f) 0 n

pub get_d_bytes_of : (f : ℕ → ℕ) (n i : ℕ) → i < n → get_or (bytes_of f n) i 0 ≡ num f (8 * i) 8
unfolding bytes_of byte_of
get_d_bytes_of f n i h = get_d_run (byte_of f) 0 n i h ∙ ap (byte_of f) (zero-add i)

-- the bits of the bytes that bits make are those bits
pub bit_bytes_of : (f : ℕ → ℕ) → Bits f → (n k : ℕ) → k < 8 * n → bit (bytes_of f n) k ≡ f k
bit_bytes_of f h n k m =
    let i : ℕ = k / 8 in
    let j : ℕ = k % 8 in
    let here : 8 * i + j ≡ k = omega arith in
    ap (bit (bytes_of f n)) (sym here)
    ∙ digit_at (bytes_of f n) i j (omega arith)
    ∙ ap (λ (x : ℕ). x / 2 ^ (8 - (j + 1)) % 2) (get_d_bytes_of f n i (omega arith))
    ∙ bit_of f h (8 * i) 8 j (omega arith)
    ∙ ap f here

-- what bits make are bytes
pub are_bytes_of : (f : ℕ → ℕ) → Bits f → (n : ℕ) → AreBytes (bytes_of f n)
are_bytes_of f h n i = ⊎_elim past inside (le_or_lt n i)
  where
    inside : i < n → get_or (bytes_of f n) i 0 < 256
    inside m = rw (get_d_bytes_of f n i m) (num_lt f h (8 * i) 8)

    past : n ≤ i → get_or (bytes_of f n) i 0 < 256
    past m =
        let short : length (bytes_of f n) ≤ i = rw length_bytes_of m in
        rw (get_or-eq_default (bytes_of f n) 0 short) (omega arith)

-- a list of bytes is made by its own bits
pub bytes_of_bit : (s : List ℕ) → AreBytes s → bytes_of (bit s) (length s) ≡ s
unfolding bytes_of byte_of
bytes_of_bit s h = sym (is_run (byte_of (bit s)) s (length s) refl (λ k m. sym (byte_field s k (h k))))

-- bits that agree make the same bytes
pub bytes_of_ext : (f g : ℕ → ℕ) (n : ℕ) → ((k : ℕ) → k < 8 * n → f k ≡ g k) → bytes_of f n ≡ bytes_of g n
unfolding bytes_of byte_of
bytes_of_ext f g n h =
    is_run (byte_of g) (bytes_of f n) n (length_bytes_of f n)
    (λ k m. get_d_bytes_of f n k m ∙ num_ext f g (8 * k) (8 * k) 8 (λ i l. h (8 * k + i) (omega arith)))

-- two lists of bytes of one length are equal where their bits are
pub bits_ext : (s t : List ℕ) → AreBytes s → AreBytes t → length s ≡ length t → ((k : ℕ) → k < 8 * length s → bit s k ≡ bit t k) → s ≡ t
bits_ext s t hs ht e h =
    sym (bytes_of_bit s hs) ∙ bytes_of_ext (bit s) (bit t) (length s) h ∙ ap (bytes_of (bit t)) e ∙ bytes_of_bit t ht
