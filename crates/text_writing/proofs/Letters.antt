-- The four characters of three bytes, each by the bytes that it lies in.
-- Assumes nothing.
use mathlib.Core.Path.{◌≡◌, refl, sym, ap, ◌∙◌}
use mathlib.Core.Bool.{cond}
use mathlib.Core.List.{List}
use Prim.Native.Nat.{ℕ, ◌+◌, ◌*◌, ◌/◌, ◌%◌, ◌<◌}
use native.Mathlib.Decide.{dec_lt}
use native.Mathlib.Omega.{arith}
use lib.Dec.{ltb}
use lib.ListN.{length, get_or, get_or-eq_default}
use borrow.Author.Tests.{lt-ltb, le-ltb}
use Rattle.bits.specs.Bits.{bit, num}
use Rattle.base64_rules.specs.Base64.{character, character_at}
use Rattle.base64_rules.proofs.TextBits.{byte_group, letter_cut, character_at_past}

module _ (s : List ℕ) (q : ℕ) where
  v : ℕ
  v = num (bit s) (8 * (3 * q)) 24

  pub first_letter : (a : ℕ) → a ≡ get_or s (3 * q) 0 → a < 256 → 3 * q < length s
      → character (a / 4) ≡ character_at s (4 * q)
  unfolding v
  first_letter a ea la h =
      let cut : a / 4 ≡ v / 262144 % 64 = omega (arith, byte_group s (3 * q), ea) in
      ap character cut ∙ letter_cut s q v (4 * q) 0 18 (v / 262144) refl refl (omega arith) (omega arith) refl

  pub second_letter : (a b : ℕ) → a ≡ get_or s (3 * q) 0 → b ≡ get_or s (3 * q + 1) 0 → a < 256 → b < 256 → 3 * q < length s
      → character (a % 4 * 16 + b / 16) ≡ character_at s (4 * q + 1)
  unfolding v
  second_letter a b ea eb la lb h =
      let cut : a % 4 * 16 + b / 16 ≡ v / 4096 % 64 = omega (arith, byte_group s (3 * q), ea, eb) in
      ap character cut ∙ letter_cut s q v (4 * q + 1) 6 12 (v / 4096) refl refl (omega arith) (omega arith) refl

  pub third_letter : (b c : ℕ) → b ≡ get_or s (3 * q + 1) 0 → c ≡ get_or s (3 * q + 2) 0 → b < 256 → c < 256 → 3 * q + 1 < length s
      → character (b % 16 * 4 + c / 64) ≡ character_at s (4 * q + 2)
  unfolding v
  third_letter b c eb ec lb lc h =
      let cut : b % 16 * 4 + c / 64 ≡ v / 64 % 64 = omega (arith, byte_group s (3 * q), eb, ec) in
      ap character cut ∙ letter_cut s q v (4 * q + 2) 12 6 (v / 64) refl refl (omega arith) (omega arith) refl

  pub fourth_letter : (c : ℕ) → c ≡ get_or s (3 * q + 2) 0 → c < 256 → 3 * q + 2 < length s
      → character (c % 64) ≡ character_at s (4 * q + 3)
  unfolding v
  fourth_letter c ec lc h =
      let cut : c % 64 ≡ v % 64 = omega (arith, byte_group s (3 * q), ec) in
      ap character cut ∙ letter_cut s q v (4 * q + 3) 18 0 v refl refl (omega arith) (omega arith) (omega arith)

  -- of a last group of r bytes, whose third byte is past the end
  pub last_letter : (b r : ℕ) → b ≡ get_or s (3 * q + 1) 0 → b < 256 → length s ≡ 3 * q + r → r < 3
      → cond (ltb 1 r) (character (b % 16 * 4)) 61 ≡ character_at s (4 * q + 2)
  last_letter b r eb lb n h =
      let past : get_or s (3 * q + 2) 0 ≡ 0 = get_or-eq_default s 0 (omega arith) in
      elim (dec_lt 1 r) [
        | yes two ↦ rw (lt-ltb 1 r two) (ap character (omega arith) ∙ third_letter b 0 eb (sym past) lb (omega arith) (omega arith))
        | no one ↦ rw (le-ltb 1 r (omega arith)) (sym (character_at_past s (4 * q + 2) (omega arith)))
      ]
