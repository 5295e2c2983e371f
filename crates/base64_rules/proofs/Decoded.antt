-- The bytes of a text, seen as a byte list: their number, and their bits, which are those of the text.
-- Assumes nothing.
use mathlib.Core.Path.{◌≡◌, sym, ap, ◌∙◌}
use mathlib.Core.List.{List}
use Prim.Native.Nat.{ℕ, ◌+◌, ◌-◌, ◌*◌, ◌%◌, ◌<◌}
use native.Mathlib.Decide.{dec_lt}
use native.Mathlib.Omega.{arith}
use lib.ListN.{length}
use Rattle.bits.specs.Bits.{bit}
use Rattle.bits.proofs.Digits.{zero_each}
use Rattle.bits.proofs.Bytes.{bit_past, length_bytes_of, bit_bytes_of}
use Rattle.base64_rules.specs.Base64.{before, text_bit, count, decoded, spare}
use Rattle.base64_rules.proofs.Counts.{all_bits}
use Rattle.base64_rules.proofs.TextBits.{text_bit_bits}

module _ (t : List ℕ) where
  pub length_decoded : length (decoded t) ≡ count t
  unfolding decoded
  length_decoded = length_bytes_of (text_bit t) (count t)

  within : (k : ℕ) → k < 8 * count t → bit (decoded t) k ≡ text_bit t k
  unfolding decoded
  within = bit_bytes_of (text_bit t) (text_bit_bits t) (count t)

  past : spare t ≡ 0 → (j : ℕ) → j < 6 * before t % 8 → text_bit t (8 * count t + j) ≡ 0
  unfolding spare
  past = zero_each (text_bit t) (8 * count t) (6 * before t % 8)

  -- a bit before the padding is that of the bytes, where the spare bits are 0
  pub decoded_bits : spare t ≡ 0 → (k : ℕ) → k < 6 * before t → bit (decoded t) k ≡ text_bit t k
  decoded_bits clean k h =
      elim (dec_lt k (8 * count t)) [
        | yes l ↦ within k l
        | no l ↦
            bit_past (decoded t) k (omega (arith, length_decoded))
            ∙ sym (past clean (k - 8 * count t) (omega (arith, all_bits t)))
            ∙ ap (text_bit t) (omega arith)
      ]
