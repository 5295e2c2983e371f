-- What is handed on from turn to turn over a stream of lines, as numbers.
-- Assumes nothing.
use Rattle.std.specs.Prelude.{ℕ, cond, List, [], ◌∷◌, length, leb, ltb, Result, Ok, Err}
use Rattle.units.specs.declared.refusals.Refusal.{Refusal}
use Rattle.units.specs.Refusals.{number_of}
use Rattle.wire.specs.Given.{Numbers, refused, these}
use Rattle.lines.specs.declared.answers.Held.{Held}
use Rattle.lines.specs.declared.answers.Turn.{Turn}

-- how many characters are held, at most 5,464; any larger number says that the line is too long
abbrev pub held_of : ℕ → Held
held_of n = cond (leb n 5464) (Held.Characters n) Held.TooLong

-- the same back
abbrev pub held_number : Held → ℕ
held_number (Held.Characters n) = n
held_number Held.TooLong = 5465

-- what is held then, how much of the input was taken, and how much of the output was written
abbrev pub turn_numbers : Result Turn Refusal → Numbers
turn_numbers (Ok turn) = these (held_number turn.held ∷ turn.taken ∷ turn.written ∷ [])
turn_numbers (Err r) = refused (number_of r)

-- where these three numbers have no room, lent memory stays as it was
abbrev pub with_room : List ℕ → List ℕ → List ℕ → List ℕ
with_room turn lent new = cond (ltb (length turn) 3) lent new
