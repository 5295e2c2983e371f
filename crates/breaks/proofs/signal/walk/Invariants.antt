use Prim.Native.Nat.{◌-◌, ◌≤◌}
use lib.ListN.{length}
use Rattle.descriptors.proofs.Filled.{Filled}
use Rattle.breaks.specs.Signals.{known_readings}
use Rattle.breaks.proofs.Left.{left}
use Rattle.breaks.proofs.Longest.{Found}
use Rattle.breaks.proofs.signal.walk.Given as goal

abbrev pub invariant-loop-at : goal.invariant-loop-at
invariant-loop-at l =
    (length l.s ≤ 4096)
    × Filled l.s (record { at = l.at; end = l.cursor.end })
    × Found (record { opened = l.opened; billed = l.billed; longest = l.longest }) (left l.s (record { at = l.at; end = l.cursor.end })) (known_readings l.s l.cursor)

abbrev pub decreases-loop-at : goal.decreases-loop-at
decreases-loop-at l = l.cursor.end - l.at
