-- The bytes that a field touches, as one number: with a value in the field's place, and stored.
-- Assumes nothing.
use mathlib.Core.Path.{◌≡◌, refl, sym, ap, ◌∙◌}
use mathlib.Core.Bool.{Bool, true, false, cond}
use mathlib.Core.List.{List}
use mathlib.Core.Logic.{⊎_elim}
use Prim.Native.Nat.{ℕ, ◌+◌, ◌-◌, ◌*◌, ◌/◌, ◌%◌, ◌^◌, ◌≤◌, ◌<◌}
use native.Mathlib.Nat.{mod-lt, one-mul}
use native.Mathlib.Omega.{arith}
use lib.Arith.{digits_lt}
use lib.Dec.{lit<}
use lib.Pow.{pow_pos, pow-add, high, low, shr_lt, shl_exact}
use lib.ListN.{length, get_or}
use Rattle.bit_fields.specs.Bits.{bit, num, patched, bytes_of, byte_of, writable, written_of}
use Rattle.bit_fields.proofs.Cases.{le_or_lt}
use Rattle.bit_fields.proofs.Num.{num_lt, num_split, num_three, num_part}
use Rattle.bit_fields.proofs.Bytes.{AreBytes, bit_lt, byte_field, is_run, bytes_of_bit, bytes_of_ext}
use Rattle.bit_fields.proofs.Patch.{patched_bits, patched_before, patched_after, num_here, num_before, num_after}
use Rattle.bits_writing.specs.Scattered.{Scattered}

-- the first a bits of a byte, and its last b
byte_parts : (s : List ℕ) (i a b : ℕ) → get_or s i 0 < 256 → a + b ≡ 8 → get_or s i 0 ≡ num (bit s) (8 * i) a * 2 ^ b + num (bit s) (8 * i + a) b
byte_parts s i a b h e = sym (byte_field s i h) ∙ ap (num (bit s) (8 * i)) (sym e) ∙ num_split (bit s) (8 * i) a b

byte_first : (s : List ℕ) (i a b : ℕ) → get_or s i 0 < 256 → a + b ≡ 8 → num (bit s) (8 * i) a ≡ get_or s i 0 / 2 ^ b
byte_first s i a b h e =
    sym (ap (λ (x : ℕ). x / 2 ^ b) (byte_parts s i a b h e) ∙ high (num (bit s) (8 * i) a) b (num_lt (bit s) (bit_lt s) (8 * i + a) b))

byte_last : (s : List ℕ) (i a b : ℕ) → get_or s i 0 < 256 → a + b ≡ 8 → num (bit s) (8 * i + a) b ≡ get_or s i 0 % 2 ^ b
byte_last s i a b h e =
    sym (ap (λ (x : ℕ). x % 2 ^ b) (byte_parts s i a b h e) ∙ low (num (bit s) (8 * i) a) b (num_lt (bit s) (bit_lt s) (8 * i + a) b))

-- a field of w bits, with a bits before it in its first byte and b bits after it in its last: the n bytes with the value in its place
word_of : (s : List ℕ) → AreBytes s → (i n a w b v : ℕ) → a + w + b ≡ 8 * n → a ≤ 8 → b ≤ 8 → 0 < n → v < 2 ^ w
    → num (patched (bit s) (8 * i + a) w v) (8 * i) (8 * n)
    ≡ (get_or s i 0 / 2 ^ (8 - a) * 2 ^ w + v) * 2 ^ b + get_or s (i + (n - 1)) 0 % 2 ^ b
word_of s hs i n a w b v e ha hb hn hv =
    let f = bit s in
    let at = 8 * i + a in
    let j = i + (n - 1) in
    let whole : 8 * n ≡ a + (w + b) = omega arith in
    let end : at + w ≡ 8 * j + (8 - b) = omega arith in
    ap (num (patched f at w v) (8 * i)) whole
    ∙ num_three (patched f at w v) (8 * i) a w b
    ∙ rw (
      num_before f at w v (8 * i) a (omega arith),
      num_here f at w v hv,
      num_after f at w v (at + w) b (omega arith),
      byte_first s i a (8 - a) (hs i) (omega arith),
      end,
      byte_last s j (8 - b) b (hs j) (omega arith),
      pow-add 2 w b,
    )
    (omega arith)

-- the same of a field at place `at`, as the code counts its bits and bytes
pub word_at : (s : List ℕ) → AreBytes s → (at w v : ℕ) → 0 < w → v < 2 ^ w
    → num (patched (bit s) at w v) (8 * (at / 8)) (8 * ((at % 8 + w + 7) / 8))
    ≡ (get_or s (at / 8) 0 / 2 ^ (8 - at % 8) * 2 ^ w + v) * 2 ^ (8 * ((at % 8 + w + 7) / 8) - at % 8 - w)
    + get_or s (at / 8 + ((at % 8 + w + 7) / 8 - 1)) 0 % 2 ^ (8 * ((at % 8 + w + 7) / 8) - at % 8 - w)
word_at s hs at w v some small =
    let n = (at % 8 + w + 7) / 8 in
    let here : at ≡ 8 * (at / 8) + at % 8 = omega arith in
    ap (λ (x : ℕ). num (patched (bit s) x w v) (8 * (at / 8)) (8 * n)) here
    ∙ word_of s hs (at / 8) n (at % 8) w (8 * n - at % 8 - w) v (omega arith) (omega arith) (omega arith) (omega arith) small

-- ---- as the code computes it: no bit is shifted out

join_lt : (i j : ℕ) {x y : ℕ} → x < 2 ^ i → y < 2 ^ j → x * 2 ^ j + y < 2 ^ (i + j)
join_lt i j hx hy = rw pow-add (digits_lt hx hy)

module _ (x a v w : ℕ) (byte : x < 256) (ha : a ≤ 8) (hv : v < 2 ^ w) where
  first_lt : x / 2 ^ (8 - a) < 2 ^ a
  first_lt =
      let e : a + (8 - a) ≡ 8 = omega arith in
      shr_lt a (8 - a) (rw e byte)

  pub first_kept : a + w ≤ 64 → x / 2 ^ (8 - a) * 2 ^ w % 2 ^ 64 ≡ x / 2 ^ (8 - a) * 2 ^ w
  first_kept = shl_exact a w 64 first_lt

  pub two_lt : x / 2 ^ (8 - a) * 2 ^ w + v < 2 ^ (a + w)
  two_lt = join_lt a w first_lt hv

  pub two_kept : (b : ℕ) → a + w + b ≤ 64 → (x / 2 ^ (8 - a) * 2 ^ w + v) * 2 ^ b % 2 ^ 64 ≡ (x / 2 ^ (8 - a) * 2 ^ w + v) * 2 ^ b
  two_kept b = shl_exact (a + w) b 64 two_lt

  pub three_lt : (b y : ℕ) → (x / 2 ^ (8 - a) * 2 ^ w + v) * 2 ^ b + y % 2 ^ b < 2 ^ (a + w + b)
  three_lt b y = join_lt (a + w) b two_lt (mod-lt y (pow_pos b))

pub one_kept : (b : ℕ) → b ≤ 63 → 1 * 2 ^ b % 2 ^ 64 ≡ 2 ^ b
one_kept b h = shl_exact 1 b 64 (lit< tt) (omega arith) ∙ one-mul (2 ^ b)

-- ---- stored

-- bytes of which some were stored from a word of patched bits are the bytes of the patched bits
pub scattered : (s : List ℕ) (at w v i n : ℕ) (t : List ℕ) → AreBytes s
    → Scattered s i n (num (patched (bit s) at w v) (8 * i) (8 * n)) t
    → 8 * i ≤ at → at + w ≤ 8 * (i + n)
    → t ≡ bytes_of (patched (bit s) at w v) (length s)
unfolding bytes_of byte_of
scattered s at w v i n t hs known start end =
    is_run (byte_of (patched (bit s) at w v)) t (length s) known.long
    (λ m l. ⊎_elim (λ p. ⊎_elim (after m) (here m p) (le_or_lt (i + n) m)) (before m) (le_or_lt i m))
  where
    before : (m : ℕ) → m < i → get_or t m 0 ≡ num (patched (bit s) at w v) (8 * m) 8
    before m p =
        known.before m p ∙ sym (byte_field s m (hs m)) ∙ sym (num_before (bit s) at w v (8 * m) 8 (omega arith))

    after : (m : ℕ) → i + n ≤ m → get_or t m 0 ≡ num (patched (bit s) at w v) (8 * m) 8
    after m p =
        known.after m p ∙ sym (byte_field s m (hs m)) ∙ sym (num_after (bit s) at w v (8 * m) 8 (omega arith))

    here : (m : ℕ) → i ≤ m → m < i + n → get_or t m 0 ≡ num (patched (bit s) at w v) (8 * m) 8
    here m p q =
        let d : ℕ = m - i in
        let there : i + d ≡ m = omega arith in
        let rest : ℕ = 8 * (n - 1 - d) in
        let whole : 8 * d + 8 + rest ≡ 8 * n = omega arith in
        let place : 8 * i + 8 * d ≡ 8 * m = omega arith in
        ap (λ (x : ℕ). get_or t x 0) (sym there)
        ∙ known.here d (omega arith)
        ∙ ap (λ (x : ℕ). num (patched (bit s) at w v) (8 * i) x / 2 ^ rest % 2 ^ 8) (sym whole)
        ∙ num_part (patched (bit s) at w v) (patched_bits (bit s) at w v (bit_lt s)) (8 * i) (8 * d) 8 rest
        ∙ ap (λ (x : ℕ). num (patched (bit s) at w v) x 8) place

-- a field of no bits changes nothing
pub written_none : (s : List ℕ) (at w v : ℕ) → AreBytes s → w ≡ 0 → written_of s at w v ≡ s
unfolding written_of
written_none s at w v hs none = go (writable s at w v)
  where
    same : bytes_of (patched (bit s) at w v) (length s) ≡ s
    same =
        bytes_of_ext (patched (bit s) at w v) (bit s) (length s)
        (λ k m. ⊎_elim (λ l. patched_after (bit s) at w v k (omega arith)) (λ l. patched_before (bit s) at w v k l) (le_or_lt at k))
        ∙ bytes_of_bit s hs

    go : (t : Bool) → cond t (bytes_of (patched (bit s) at w v) (length s)) s ≡ s
    go true = same
    go false = refl
