-- The parts that several answers on commands share as flat lists of numbers: where a part has cases, the number of the case and then
-- its values; a value that is absent has no number.
-- Assumes nothing.
use Rattle.std.specs.Prelude.{ℕ, List, [], ◌∷◌, ◌++◌, Option, Some, None}
use Rattle.command_reading.specs.declared.answers.SpliceTime.{SpliceTime}
use Rattle.command_reading.specs.declared.answers.BreakDuration.{BreakDuration}
use Rattle.command_reading.specs.declared.answers.Avails.{Avails}
use Rattle.wire.specs.Wire.{flag_number}

-- immediate, not given, or given in ticks
abbrev pub time_numbers : SpliceTime → List ℕ
time_numbers SpliceTime.Immediate = 0 ∷ []
time_numbers SpliceTime.NotGiven = 1 ∷ []
time_numbers (SpliceTime.Given t) = 2 ∷ t.0 ∷ []

-- absent, or auto_return and the duration in ticks
abbrev pub break_numbers : Option BreakDuration → List ℕ
break_numbers None = 0 ∷ []
break_numbers (Some b) = 1 ∷ flag_number b.auto_return ∷ b.duration.0 ∷ []

-- the break, and the three numbers behind it
abbrev pub avails_numbers : Avails → List ℕ
avails_numbers a = break_numbers a.break_duration ++ (a.unique_program_id ∷ a.avail_num ∷ a.avails_expected ∷ [])
