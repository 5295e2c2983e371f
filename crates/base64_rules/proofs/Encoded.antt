-- The text of a byte list, seen as a text: its length, its characters, its padding, and its bits, which are those of the bytes.
-- Assumes nothing.
use mathlib.Core.Path.{◌≡◌, ap, ap₂, ◌∙◌}
use mathlib.Core.List.{List}
use Prim.Native.Nat.{ℕ, ◌+◌, ◌-◌, ◌*◌, ◌/◌, ◌%◌, ◌^◌, ◌<◌, ◌≤◌}
use native.Mathlib.Nat.{zero-add}
use native.Mathlib.Decide.{ℕ_discrete}
use native.Mathlib.Omega.{arith}
use lib.ListN.{length, get_or}
use Rattle.bits.specs.Bits.{bit, num}
use Rattle.bits.proofs.Num.{num_lt}
use Rattle.bits.proofs.Digits.{bit_of}
use Rattle.bits.proofs.Bytes.{bit_lt, length_run, get_d_run}
use Rattle.base64_rules.specs.Base64.{sextet, padding, before, text_bit, count, text_length, character_at, encoded}
use Rattle.base64_rules.proofs.Alphabet.{sextet_character, outside}
use Rattle.base64_rules.proofs.Counts.{count_is, inside}
use Rattle.base64_rules.proofs.Padding.{padding_none, padding_one, padding_two, padding_empty}
use Rattle.base64_rules.proofs.TextBits.{character_at_in, character_at_past}

module _ (s : List ℕ) where
  pub length_encoded : length (encoded s) ≡ text_length s
  unfolding encoded
  length_encoded = length_run (character_at s) 0 (text_length s)

  pub encoded_at : (i : ℕ) → i < length (encoded s) → get_or (encoded s) i 0 ≡ character_at s i
  unfolding encoded
  encoded_at i h =
      get_d_run (character_at s) 0 (text_length s) i (omega (arith, length_encoded)) ∙ ap (character_at s) (zero-add i)

  pub encoded_whole : length (encoded s) % 4 ≡ 0
  unfolding text_length
  encoded_whole = omega (arith, length_encoded)

  -- a character that starts within the bytes stands for six of their bits
  pub sextet_of : (i : ℕ) → i < length (encoded s) → 6 * i < 8 * length s
      → sextet (get_or (encoded s) i 0) ≡ num (bit s) (6 * i) 6
  sextet_of i l h =
      ap sextet (encoded_at i l ∙ character_at_in s i h)
      ∙ sextet_character (num (bit s) (6 * i) 6) (num_lt (bit s) (bit_lt s) (6 * i) 6)

  -- such a character is no `=`
  letter : (i : ℕ) → i < length (encoded s) → 6 * i < 8 * length s → get_or (encoded s) i 0 ≡ 61 → ⊥
  letter i l h e =
      omega (arith, sextet_of i l h, ap sextet e, outside 61 (omega arith), num_lt (bit s) (bit_lt s) (6 * i) 6)

  pad : (i : ℕ) → i < length (encoded s) → 8 * length s ≤ 6 * i → get_or (encoded s) i 0 ≡ 61
  pad i l h = encoded_at i l ∙ character_at_past s i h

  -- the padding fills the last group up to three bytes
  padding_encoded : padding (encoded s) + length s ≡ 3 * ((length s + 2) / 3)
  unfolding text_length
  padding_encoded =
      let t = encoded s in
      let long : length t ≡ (length s + 2) / 3 * 4 = length_encoded in
      elim (ℕ_discrete (length s) 0) [
        | yes z ↦ omega (arith, padding_empty t (omega arith))
        | no some ↦
            elim (ℕ_discrete (length s % 3) 0) [
              | yes r ↦ omega (arith, padding_none t (letter (length t - 1) (omega arith) (omega arith)))
              | no more ↦
                  elim (ℕ_discrete (length s % 3) 1) [
                    | yes r ↦
                        omega
                        (arith, padding_two t (pad (length t - 1) (omega arith) (omega arith)) (pad (length t - 2) (omega arith) (omega arith)))
                    | no r ↦
                        omega
                        (arith, padding_one t (pad (length t - 1) (omega arith) (omega arith)) (letter (length t - 2) (omega arith) (omega arith)))
                  ]
            ]
      ]

  pub count_encoded : count (encoded s) ≡ length s
  unfolding text_length
  count_encoded = omega (arith, count_is (encoded s) encoded_whole, padding_encoded, length_encoded)

  -- a bit of a character before the padding is that of the bytes, and 0 past their end
  pub encoded_bits : (k : ℕ) → k < 6 * before (encoded s) → text_bit (encoded s) k ≡ bit s k
  unfolding before text_bit
  encoded_bits k h =
      let i = k / 6 in
      let within : 6 * i < 8 * length s = omega (arith, inside (encoded s) encoded_whole i (omega arith), count_encoded) in
      ap₂ (λ (x y : ℕ). x / 2 ^ y % 2) {v = 6 - (k % 6 + 1)} (sextet_of i (omega arith) within) (omega arith)
      ∙ bit_of (bit s) (bit_lt s) (6 * i) 6 (k % 6) (omega arith)
      ∙ ap (bit s) (omega arith)
