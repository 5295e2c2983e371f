-- The verdict on a section as one number.
-- Assumes nothing.
use Rattle.std.specs.Prelude.{ℕ, Result, Ok, Err}
use Rattle.units.specs.declared.refusals.Refusal.{Refusal}
use Rattle.units.specs.Refusals.{number_of}

-- 0 for an accepted section, or the paper's number of the row that refuses it
abbrev pub row_number : Result (Unit {0}) Refusal → ℕ
row_number (Ok _) = 0
row_number (Err r) = number_of r
