-- How an answer line is spelled.
-- Assumes nothing.
use Rattle.std.specs.Prelude.{ℕ, zero, suc, ◌+◌, ◌/◌, ◌%◌, cond, List, [], ◌∷◌, ◌++◌, length, ltb, Result}
use Rattle.units.specs.declared.refusals.Refusal.{Refusal}
use Rattle.units.specs.Refusals.{number_of}
use Rattle.units.specs.Answers.{answer, memory}
use Rattle.spelling.specs.declared.Line.{Line}

-- the decimal digits of n, without zeros in front: so many at most
unfoldable pub digits : ℕ → ℕ → List ℕ
digits zero n = []
digits (suc k) n = cond (ltb n 10) ((n + 48) ∷ []) (digits k (n / 10) ++ ((n % 10 + 48) ∷ []))

-- a letter and a newline; a letter, a blank, a number of at most twenty digits and a newline
abbrev pub lettered : ℕ → List ℕ
lettered letter = letter ∷ 10 ∷ []

abbrev pub numbered : ℕ → ℕ → List ℕ
numbered letter n = letter ∷ 32 ∷ digits 20 n ++ (10 ∷ [])

-- `A m`, `B`, `N`, `X` and `R n`
abbrev pub spelled : Line → List ℕ
spelled (Line.Measured m) = numbered 65 m.0
spelled Line.Unmeasured = lettered 66
spelled Line.None = lettered 78
spelled Line.Unread = lettered 88
spelled (Line.Refused r) = numbered 82 (number_of r)

-- ROOM where the memory is shorter than the line
unfoldable pub spell_row : Line → List ℕ → ℕ
spell_row line out = cond (ltb (length out) (length (spelled line))) 11 0

-- what spelling the line answers
unfoldable pub spell_answer : Line → List ℕ → Result ℕ Refusal
spell_answer line out = answer (spell_row line out) (length (spelled line))

-- what the lent memory then holds
unfoldable pub spell_into : Line → List ℕ → List ℕ
spell_into line out = memory (spell_row line out) (spelled line) out
