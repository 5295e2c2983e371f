-- The way from text to bytes, with the rows of paper 01 that refuse; and, passed on, base64 and the way from bytes to text.
-- Assumes nothing.
unfoldable pub use Rattle.base64_rules.specs.Base64.{character, sextet, padding, before, text_bit, count, decoded, all_of, spare, text_length, character_at, encoded}
unfoldable pub use Rattle.text_writing.specs.Writing.{write_row, write, write_into}
use Rattle.std.specs.Prelude.{ℕ, ◌%◌, not, ◌||◌, List, [], ◌∷◌, length, take, ltb, eqb, Result}
use Rattle.units.specs.declared.refusals.Refusal.{Refusal}
use Rattle.units.specs.Refusals.{first}
use Rattle.units.specs.Answers.{answer, memory}

-- the first row that applies to reading the text t into a room of that many bytes, 0 where none does
unfoldable pub read_row : List ℕ → ℕ → ℕ
read_row t room =
    first
    ((not (eqb (length t % 4) 0) || ltb 5464 (length t), 12)  -- TEXTLEN
    ∷ (not (all_of (take (before t) t)), 13)  -- TEXTCHAR
    ∷ (not (eqb (spare t) 0), 14)  -- TEXTBITS
    ∷ (ltb room (count t), 11)  -- ROOM
    ∷ [])

-- what reading the text answers
unfoldable pub read : List ℕ → List ℕ → Result ℕ Refusal
read t out = answer (read_row t (length out)) (count t)

-- what the lent memory then holds
unfoldable pub read_into : List ℕ → List ℕ → List ℕ
read_into t out = memory (read_row t (length out)) (decoded t) out
