-- Bytes that end in their own CRC have the CRC 0, and no other four bytes at the end do that.
-- Assumes nothing.
use mathlib.Core.Path.{◌≡◌, refl, sym, ap, ap₂, ◌∙◌}
use mathlib.Core.List.{List, [], ◌∷◌, ◌++◌}
use Prim.Native.Nat.{ℕ, zero, suc, ◌+◌, ◌-◌, ◌*◌, ◌/◌, ◌%◌, ◌^◌, ◌≤◌, ◌<◌}
use native.Mathlib.Nat.{zero-add}
use native.Mathlib.Omega.{arith}
use lib.Dec.{lit<}
use lib.ListN.{length, take, drop, length-append, length-drop, take-append-drop}
use lib.Seq.{get_or-drop}
use lib.Pow.{shr-shr}
use lib.Bits.{bit_xor, xor_self, xor_lt}
use Rattle.bits.specs.Bits.{bit, num}
use Rattle.bits.proofs.Num.{num_lt, num_ext}
use Rattle.bits.proofs.Bytes.{AreBytes, bit_lt, word, num_word}
use Rattle.bits.proofs.Parts.{bit_left, bit_right}
use Rattle.crc_steps.specs.Steps.{zeros}
use Rattle.crc_steps.proofs.Xor.{xor_zero}
use Rattle.crc.specs.Crc.{register, crc32, be32}
use Rattle.crc.proofs.Register.{zeros_zero, zeros_back, register_ext, register_lt}
use Rattle.crc.proofs.Words.{four_turn}

pub crc32_lt : (s : List ℕ) → crc32 s < 2 ^ 32
unfolding crc32
crc32_lt s = register_lt (bit s) (bit_lt s) (8 * length s)

-- ---- bytes at the end

-- the CRC after four more bytes
four_more : (xs ys : List ℕ) → length ys ≡ 4 → crc32 (xs ++ ys) ≡ zeros 32 (bit_xor (crc32 xs) (num (bit ys) 0 32))
unfolding crc32
four_more xs ys e =
    let n : length (xs ++ ys) ≡ length xs + 4 = omega (arith, length-append xs ys) in
    ap (λ (k : ℕ). register (bit (xs ++ ys)) (8 * k)) n ∙ four_turn (xs ++ ys) (length xs)
    ∙ ap (zeros 32)
    (ap₂ bit_xor (register_ext (bit (xs ++ ys)) (bit xs) (8 * length xs) (bit_left xs ys))
    (num_ext (bit (xs ++ ys)) (bit ys) (8 * length xs) 0 32 (λ i m. rw zero-add (bit_right xs ys i))))

-- ---- the four bytes of a number

pub be32_word : (a b c d : ℕ) → a < 256 → b < 256 → c < 256 → d < 256 → be32 (word a b c d) ≡ a ∷ b ∷ c ∷ d ∷ []
unfolding be32
be32_word a b c d ha hb hc hd =
    let p : word a b c d / 2 ^ 24 % 256 ≡ a = omega arith in
    let q : word a b c d / 2 ^ 16 % 256 ≡ b = omega arith in
    let r : word a b c d / 2 ^ 8 % 256 ≡ c = omega arith in
    let t : word a b c d % 256 ≡ d = omega arith in
    rw (p, q, r, t)

pub be32_bytes : (n : ℕ) → AreBytes (be32 n)
unfolding be32
be32_bytes n zero = omega arith
be32_bytes n (suc zero) = omega arith
be32_bytes n (suc (suc zero)) = omega arith
be32_bytes n (suc (suc (suc zero))) = omega arith
be32_bytes n (suc (suc (suc (suc i)))) = lit< tt

pub be32_num : (n : ℕ) → n < 2 ^ 32 → num (bit (be32 n)) 0 32 ≡ n
unfolding be32
be32_num n h =
    let a : n / 2 ^ 24 % 256 ≡ n / 2 ^ 24 = omega arith in
    let b : n / 2 ^ 24 * 256 + n / 2 ^ 16 % 256 ≡ n / 2 ^ 16 = omega (arith, shr-shr n 16 8) in
    let c : n / 2 ^ 16 * 256 + n / 2 ^ 8 % 256 ≡ n / 2 ^ 8 = omega (arith, shr-shr n 8 8) in
    num_word (be32 n) (be32_bytes n) 0 ∙ omega arith

-- ---- the laws

pub residue : (xs : List ℕ) → crc32 (xs ++ be32 (crc32 xs)) ≡ 0
unfolding be32
residue xs =
    four_more xs (be32 (crc32 xs)) refl
    ∙ ap (λ (x : ℕ). zeros 32 (bit_xor (crc32 xs) x)) (be32_num (crc32 xs) (crc32_lt xs))
    ∙ ap (zeros 32) (xor_self (crc32 xs)) ∙ zeros_zero 32

-- the number that the last four bytes make is the CRC of the rest
last_num : (xs ys : List ℕ) → length ys ≡ 4 → crc32 (xs ++ ys) ≡ 0 → crc32 xs ≡ num (bit ys) 0 32
last_num xs ys e z =
    let w = num (bit ys) 0 32 in
    xor_zero (crc32 xs) w
    (zeros_back 32 (bit_xor (crc32 xs) w) (xor_lt 32 (crc32 xs) w (crc32_lt xs) (num_lt (bit ys) (bit_lt ys) 0 32))
    (sym (four_more xs ys e) ∙ z))

pub residue_only : (xs ys : List ℕ) → length ys ≡ 4 → AreBytes ys → crc32 (xs ++ ys) ≡ 0 → ys ≡ be32 (crc32 xs)
residue_only xs (a ∷ b ∷ c ∷ d ∷ []) e h z =
    sym
    (ap be32 (last_num xs (a ∷ b ∷ c ∷ d ∷ []) e z ∙ num_word (a ∷ b ∷ c ∷ d ∷ []) h 0)
    ∙ be32_word a b c d (h 0) (h 1) (h 2) (h 3))
residue_only xs [] e h z = absurd (omega arith)
residue_only xs (a ∷ []) e h z = absurd (omega arith)
residue_only xs (a ∷ b ∷ []) e h z = absurd (omega arith)
residue_only xs (a ∷ b ∷ c ∷ []) e h z = absurd (omega arith)
residue_only xs (a ∷ b ∷ c ∷ d ∷ x ∷ ys) e h z = absurd (omega arith)

-- the same of bytes that are not taken apart: the last four are the CRC of those before, and conversely
pub last_four : (s : List ℕ) → AreBytes s → 4 ≤ length s → crc32 s ≡ 0
    → drop (length s - 4) s ≡ be32 (crc32 (take (length s - 4) s))
last_four s h l z =
    let n = length s - 4 in
    residue_only (take n s) (drop n s) (simp length-drop (omega arith)) (λ i. rw get_or-drop (h (n + i)))
    (rw take-append-drop z)

pub residue_at : (s : List ℕ) (n : ℕ) → drop n s ≡ be32 (crc32 (take n s)) → crc32 s ≡ 0
residue_at s n e = ap crc32 (sym (take-append-drop n s) ∙ ap (λ (t : List ℕ). take n s ++ t) e) ∙ residue (take n s)
