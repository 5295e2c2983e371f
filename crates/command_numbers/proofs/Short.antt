-- How many numbers a part has at most.
-- Assumes nothing.
use Prim.Native.Nat.{◌≤◌}
use native.Mathlib.Omega.{arith}
use lib.Dec.{lit≤}
use lib.ListN.{length, length-append}
use Rattle.std.specs.Prelude.{Option, Some, None}
use Rattle.command_reading.specs.declared.answers.SpliceTime.{SpliceTime}
use Rattle.command_reading.specs.declared.answers.BreakDuration.{BreakDuration}
use Rattle.command_reading.specs.declared.answers.Avails.{Avails}
use Rattle.command_numbers.specs.Numbers.{time_numbers, break_numbers, avails_numbers}

pub time_short : (t : SpliceTime) → length (time_numbers t) ≤ 2
time_short SpliceTime.Immediate = lit≤ tt
time_short SpliceTime.NotGiven = lit≤ tt
time_short (SpliceTime.Given t) = lit≤ tt

pub break_short : (x : Option BreakDuration) → length (break_numbers x) ≤ 3
break_short None = lit≤ tt
break_short (Some b) = lit≤ tt

pub avails_short : (x : Avails) → length (avails_numbers x) ≤ 6
avails_short x = simp length-append (omega (arith, break_short x.break_duration))
