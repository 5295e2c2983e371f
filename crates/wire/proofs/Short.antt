-- How many numbers a Mode has at most.
-- Assumes nothing.
use Prim.Native.Nat.{◌≤◌}
use lib.Dec.{lit≤}
use lib.ListN.{length}
use Rattle.units.specs.declared.mode.Mode.{Mode}
use Rattle.wire.specs.Wire.{mode_numbers}

pub mode_short : (x : Mode) → length (mode_numbers x) ≤ 2
mode_short Mode.Program = lit≤ tt
mode_short (Mode.Components n) = lit≤ tt
