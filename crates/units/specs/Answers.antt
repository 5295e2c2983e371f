-- What a function that writes into lent memory answers, and what the memory then holds.
-- Assumes nothing.
use Rattle.std.specs.Prelude.{ℕ, zero, suc, List, ◌++◌, length, drop, Result, Ok, Err}
use Rattle.units.specs.declared.refusals.Refusal.{Refusal}
use Rattle.units.specs.Refusals.{named}

-- the answer for a row of the paper's table: no row, 0, is the count written; any other is the refusal of that number
abbrev pub answer : ℕ → ℕ → Result ℕ Refusal
answer zero n = Ok n
answer (suc row) n = Err (named (suc row))

-- what lent memory holds after that answer: what was written and then everything after it as it was; all as it was after a refusal
abbrev pub memory : ℕ → List ℕ → List ℕ → List ℕ
memory zero written lent = written ++ drop (length written) lent
memory (suc row) written lent = lent
