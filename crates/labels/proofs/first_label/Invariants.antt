use mathlib.Core.Path.{◌≡◌}
use Prim.Native.Nat.{◌-◌, ◌≤◌}
use lib.ListN.{length}
use Rattle.known_walk.specs.Known.{known_cursors}
use Rattle.labels.specs.Labels.{label_at}
use Rattle.labels.proofs.Left.{label_left}
use Rattle.labels.proofs.first_label.Given as goal

abbrev pub invariant-loop-kind : goal.invariant-loop-kind
invariant-loop-kind l =
    (length l.s ≤ 4096) × (label_left l.s l.place ≡ label_at l.s (known_cursors l.s l.initial.place))

abbrev pub decreases-loop-kind : goal.decreases-loop-kind
decreases-loop-kind l = l.place.end - l.place.at
