-- The row that applies to bytes of which the text is written, from the facts that settle it.
-- Assumes nothing.
use mathlib.Core.Path.{◌≡◌, sym, ap}
use mathlib.Core.List.{List}
use Prim.Native.Nat.{ℕ, ◌<◌, ◌≤◌}
use lib.ListN.{length}
use borrow.Author.Tests.{lt-ltb, le-ltb}
use Rattle.units.specs.Answers.{answer, memory}
use Rattle.base64_rules.specs.Base64.{text_length, encoded}
use Rattle.text_writing.specs.Writing.{write_row, write, write_into}

-- the row that applies settles the answer and the lent memory
pub writes_as : (s out : List ℕ) (row : ℕ) → write_row s (length out) ≡ row
    → (answer row (text_length s) ≡ write s out) × (memory row (encoded s) out ≡ write_into s out)
unfolding write write_into
writes_as s out row e = (ap (λ (r : ℕ). answer r (text_length s)) (sym e), ap (λ (r : ℕ). memory r (encoded s) out) (sym e))

module _ (s : List ℕ) (room : ℕ) where
  pub row_size : 4096 < length s → write_row s room ≡ 4
  unfolding write_row
  row_size h = rw (lt-ltb 4096 (length s) h)

  pub row_no_room : length s ≤ 4096 → room < text_length s → write_row s room ≡ 11
  unfolding write_row
  row_no_room l h = rw (le-ltb 4096 (length s) l, lt-ltb room (text_length s) h)

  pub row_written : length s ≤ 4096 → text_length s ≤ room → write_row s room ≡ 0
  unfolding write_row
  row_written l h = rw (le-ltb 4096 (length s) l, le-ltb room (text_length s) h)
