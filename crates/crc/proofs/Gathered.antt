-- The first eight bytes as a number: gathered from the first on, and put together from the last on.
-- Assumes nothing.
use mathlib.Core.Path.{◌≡◌, refl, sym, ap, ap₂, ◌∙◌}
use mathlib.Core.List.{List}
use Prim.Native.Nat.{ℕ, ◌+◌, ◌*◌, ◌/◌, ◌%◌, ◌^◌, ◌<◌}
use native.Mathlib.Nat.{mod-eq_of_lt}
use native.Mathlib.Omega.{arith}
use lib.ListN.{length, get_or}
use lib.Pow.{high}
use Rattle.bits.specs.Bits.{bit, num}
use Rattle.bits.proofs.Num.{num_lt, num_split}
use Rattle.bits.proofs.Digits.{zeros}
use Rattle.bits.proofs.Bytes.{AreBytes, bit_lt, bit_past, byte_field, num_byte, word, num_word}

-- one byte more
pub next : {a b x y : ℕ} → a ≡ b → x ≡ y → a * 256 + x ≡ b * 256 + y
next e f = ap₂ (λ (a x : ℕ). a * 256 + x) e f

pub num_eight : (s : List ℕ) → AreBytes s
    → num (bit s) 0 64
    ≡ (((word (get_or s 0 0) (get_or s 1 0) (get_or s 2 0) (get_or s 3 0) * 256 + get_or s 4 0) * 256 + get_or s 5 0) * 256 + get_or s 6 0) * 256 + get_or s 7 0
num_eight s h =
    num_byte s 0 7 (h 7)
    ∙ next (num_byte s 0 6 (h 6) ∙ next (num_byte s 0 5 (h 5) ∙ next (num_byte s 0 4 (h 4) ∙ next (num_word s h 0) refl) refl) refl) refl

-- past the end
pub none : (s : List ℕ) → 0 ≡ num (bit s) (8 * length s) 64
none s = sym (zeros (bit s) (8 * length s) 64 (λ j h. bit_past s (8 * length s + j) (omega arith)))

-- one byte before, for which there is room
pub room : (s : List ℕ) (i x b : ℕ) → x ≡ num (bit s) (8 * i) 64 → b < 256 → x / 2 ^ 8 + b * 2 ^ 56 % 2 ^ 64 < 2 ^ 64
room s i x b e l =
    let up : b * 2 ^ 56 % 2 ^ 64 ≡ b * 2 ^ 56 = mod-eq_of_lt (omega arith) in
    let small : x < 2 ^ 64 = rw e (num_lt (bit s) (bit_lt s) (8 * i) 64) in
    let down : x / 2 ^ 8 < 2 ^ 56 = omega (arith, small) in
    rw up (omega (arith, down, l))

pub before : (s : List ℕ) (i x b : ℕ) → x ≡ num (bit s) (8 * (i + 1)) 64 → b ≡ get_or s i 0 → b < 256
    → x / 2 ^ 8 + b * 2 ^ 56 % 2 ^ 64 ≡ num (bit s) (8 * i) 64
before s i x b e d l =
    let place : 8 * (i + 1) ≡ 8 * i + 8 = omega arith in
    let rest = num (bit s) (8 * i + 8) 56 in
    let down : x / 2 ^ 8 ≡ rest =
    ap (λ (y : ℕ). y / 2 ^ 8) (e ∙ ap (λ (k : ℕ). num (bit s) k 64) place ∙ num_split (bit s) (8 * i + 8) 56 8)
    ∙ high rest 8 (num_lt (bit s) (bit_lt s) (8 * i + 8 + 56) 8) in
    let field : num (bit s) (8 * i) 8 ≡ b = byte_field s i (rw (← d) l) ∙ sym d in
    let up : b * 2 ^ 56 % 2 ^ 64 ≡ b * 2 ^ 56 = mod-eq_of_lt (omega arith) in
    omega (arith, down, up, field, num_split (bit s) (8 * i) 8 56)
