use mathlib.Core.Path.{◌≡◌}
use Prim.Native.Nat.{◌-◌}
use lib.ListN.{length}
use Rattle.lines.proofs.Turning.{Going}
use Rattle.lines.proofs.turn.Given as goal

abbrev pub invariant-loop-section : goal.invariant-loop-section
invariant-loop-section l =
    (length l.section ≡ 4098) × Going l.initial.held l.input l.initial.carry l.initial.out l.held l.carry l.out l.taken l.written

abbrev pub decreases-loop-section : goal.decreases-loop-section
decreases-loop-section l = length l.input - l.taken
