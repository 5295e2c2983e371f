-- An answer as one number, for callers in other languages, a flag as a number, and what a cue is about as numbers.
-- Assumes nothing.
use Rattle.std.specs.Prelude.{ℕ, ◌+◌, ◌^◌, Bool, cond, List, [], ◌∷◌, Result, Ok, Err}
use Rattle.units.specs.declared.refusals.Refusal.{Refusal}
use Rattle.units.specs.declared.mode.Mode.{Mode}
use Rattle.units.specs.Refusals.{number_of}

-- the count written, or the paper's number of the refusal with the top bit of 64 set
abbrev pub wire : Result ℕ Refusal → ℕ
wire (Ok n) = n
wire (Err r) = 2 ^ 63 + number_of r

-- a flag is 0 or 1
abbrev pub flag_number : Bool → ℕ
flag_number b = cond b 1 0

-- the whole program, or so many components
abbrev pub mode_numbers : Mode → List ℕ
mode_numbers Mode.Program = 0 ∷ []
mode_numbers (Mode.Components n) = 1 ∷ n ∷ []
