-- The way from bytes to text, with the rows of paper 01 that refuse.
-- Assumes nothing.
use Rattle.std.specs.Prelude.{ℕ, List, [], ◌∷◌, length, ltb, Result}
use Rattle.units.specs.declared.refusals.Refusal.{Refusal}
use Rattle.units.specs.Refusals.{first}
use Rattle.units.specs.Answers.{answer, memory}
use Rattle.base64_rules.specs.Base64.{text_length, encoded}

-- the first row that applies to writing the text of s into a room of that many characters, 0 where none does
unfoldable pub write_row : List ℕ → ℕ → ℕ
write_row s room =
    first
    ((ltb 4096 (length s), 4)  -- SIZE
    ∷ (ltb room (text_length s), 11)  -- ROOM
    ∷ [])

-- what writing the text answers
unfoldable pub write : List ℕ → List ℕ → Result ℕ Refusal
write s out = answer (write_row s (length out)) (text_length s)

-- what the lent memory then holds
unfoldable pub write_into : List ℕ → List ℕ → List ℕ
write_into s out = memory (write_row s (length out)) (encoded s) out
