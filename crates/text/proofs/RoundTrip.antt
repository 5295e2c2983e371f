-- What one direction writes the other reads back: the text of a byte list gives those bytes again,
-- and a text that is not refused is the text of the bytes that it gives.
-- Assumes nothing.
use mathlib.Core.Path.{◌≡◌, sym, ap, ◌∙◌}
use mathlib.Core.List.{List, ◌++◌}
use Prim.Native.Nat.{ℕ, ◌+◌, ◌*◌, ◌%◌, ◌<◌, ◌≤◌}
use native.Mathlib.Decide.{dec_lt}
use native.Mathlib.Omega.{arith}
use lib.ListN.{length, get_or, take, drop}
use lib.Seq.{ext_get_or, take_at}
use Rattle.bits.specs.Bits.{bit, bytes_of}
use Rattle.bits.proofs.Num.{num_lt, num_ext}
use Rattle.bits.proofs.Digits.{zeros}
use Rattle.bits.proofs.Bytes.{AreBytes, bit_lt, bit_past, bytes_of_bit, bytes_of_ext}
use Rattle.std.specs.Prelude.{Ok}
use Rattle.text.specs.Text.{character, before, text_bit, count, decoded, spare, read_row, read, read_into, text_length, encoded, write, write_into}
use Rattle.base64_rules.proofs.Alphabet.{character_sextet}
use Rattle.base64_rules.proofs.AllOf.{all_each, all_at}
use Rattle.base64_rules.proofs.Counts.{inside, as_long, all_bits, before_le}
use Rattle.base64_rules.proofs.Decoded.{length_decoded, decoded_bits}
use Rattle.base64_rules.proofs.Encoded.{length_encoded, encoded_at, encoded_whole, sextet_of, count_encoded, encoded_bits}
use Rattle.base64_rules.proofs.Padding.{padding_at}
use Rattle.text_writing.proofs.WriteRows.{writes_as, row_written}
use Rattle.text.proofs.Rows.{Accepted, row_none, accepted, reads_as}
use Rattle.base64_rules.proofs.TextBits.{sextet_whole, character_at_in, character_at_past}

-- the bytes of the text of s are s
pub decoded_encoded : (s : List ℕ) → AreBytes s → decoded (encoded s) ≡ s
unfolding decoded
decoded_encoded s small =
    let t = encoded s in
    bytes_of_ext (text_bit t) (bit s) (count t) (λ k l. encoded_bits s k (omega (arith, all_bits t)))
    ∙ ap (bytes_of (bit s)) (count_encoded s)
    ∙ bytes_of_bit s small

-- that text is accepted, where it is not too long
pub encoded_accepted : (s : List ℕ) → length s ≤ 4096 → Accepted (encoded s)
unfolding spare text_length
encoded_accepted s short =
    let t = encoded s in
    record {
      whole = encoded_whole s;
      short = omega (arith, length_encoded s);
      letters =
          all_each t (before t) (before_le t)
          (λ i h.
          let within : 6 * i < 8 * length s = omega (arith, inside t (encoded_whole s) i h, count_encoded s) in
          omega (arith, sextet_of s i (omega (arith, before_le t)) within, num_lt (bit s) (bit_lt s) (6 * i) 6));
      clean =
          zeros (text_bit t) (8 * count t) (6 * before t % 8)
          (λ j h.
          encoded_bits s (8 * count t + j) (omega (arith, all_bits t))
          ∙ bit_past s (8 * count t + j) (omega (arith, count_encoded s)));
    }

pub encoded_read : (s : List ℕ) (room : ℕ) → length s ≤ 4096 → length s ≤ room → read_row (encoded s) room ≡ 0
encoded_read s room short fits = row_none (encoded s) room (encoded_accepted s short) (omega (arith, count_encoded s))

text_again : (t : List ℕ) → Accepted t → encoded (decoded t) ≡ t
unfolding text_length
text_again t a =
    let s = decoded t in
    let long : length s ≡ count t = length_decoded t in
    ext_get_or 0 (encoded s) t (omega (arith, length_encoded s, as_long t a.whole))
    (λ i h.
    encoded_at s i h
    ∙ elim (dec_lt i (before t)) [
      | yes l ↦
          let in-alphabet = all_at t (before t) i l (before_le t) a.letters in
          character_at_in s i (omega (arith, inside t a.whole i l))
          ∙ ap character
          (num_ext (bit s) (text_bit t) (6 * i) (6 * i) 6 (λ j m. decoded_bits t a.clean (6 * i + j) (omega arith))
          ∙ sextet_whole t i
          ∙ omega arith)
          ∙ character_sextet (get_or t i 0) in-alphabet
      | no l ↦
          character_at_past s i (omega (arith, all_bits t))
          ∙ sym (padding_at t i (omega arith) (omega (arith, length_encoded s, as_long t a.whole)))
    ])

-- a text that is not refused is the text of the bytes that it gives
pub encoded_decoded : (t : List ℕ) (room : ℕ) → read_row t room ≡ 0 → encoded (decoded t) ≡ t
encoded_decoded t room e = text_again t (accepted t room e)

-- so no two texts that are not refused give the same bytes
pub decoded_once : (t u : List ℕ) (room room' : ℕ) → read_row t room ≡ 0 → read_row u room' ≡ 0 → decoded t ≡ decoded u → t ≡ u
decoded_once t u room room' a b e = sym (encoded_decoded t room a) ∙ ap encoded e ∙ encoded_decoded u room' b

-- ---- over what the two functions answer and leave in lent memory

-- what is written as text is read back as the same bytes
pub reads_back : (s out back : List ℕ) → AreBytes s → length s ≤ 4096 → text_length s ≤ length out → length s ≤ length back
    → let t = take (text_length s) (write_into s out) in
    (write s out ≡ Ok (text_length s)) × (read t back ≡ Ok (length s)) × (read_into t back ≡ s ++ drop (length s) back)
reads_back s out back small short room fits =
    let written = writes_as s out 0 (row_written s (length out) short room) in
    let taken : take (text_length s) (write_into s out) ≡ encoded s =
    ap (take (text_length s)) (sym written.1) ∙ take_at (encoded s) _ (text_length s) (length_encoded s) in
    let done = reads_as (encoded s) back 0 (encoded_read s (length back) short fits) in (
      sym written.0,
      rw taken (sym done.0 ∙ ap Ok (count_encoded s)),
      rw taken (sym done.1 ∙ ap (λ (b : List ℕ). b ++ drop (length b) back) (decoded_encoded s small)),
    )

-- what is read from a text is written as the same text
pub writes_back : (t out back : List ℕ) → read_row t (length out) ≡ 0 → count t ≤ 4096 → length t ≤ length back
    → let s = take (count t) (read_into t out) in
    (read t out ≡ Ok (count t)) × (write s back ≡ Ok (length t)) × (write_into s back ≡ t ++ drop (length t) back)
writes_back t out back fine short fits =
    let again = encoded_decoded t (length out) fine in
    let long : text_length (decoded t) ≡ length t = sym (length_encoded (decoded t)) ∙ ap length again in
    let given = reads_as t out 0 fine in
    let taken : take (count t) (read_into t out) ≡ decoded t =
    ap (take (count t)) (sym given.1) ∙ take_at (decoded t) _ (count t) (length_decoded t) in
    let row = row_written (decoded t) (length back) (omega (arith, length_decoded t)) (omega arith) in
    let done = writes_as (decoded t) back 0 row in (
      sym given.0,
      rw taken (sym done.0 ∙ ap Ok long),
      rw taken (sym done.1 ∙ ap (λ (u : List ℕ). u ++ drop (length u) back) again),
    )
