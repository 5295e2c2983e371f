use mathlib.Core.Path.{◌≡◌}
use Prim.Native.Nat.{◌+◌, ◌-◌, ◌≤◌}
use lib.ListN.{length}
use Rattle.descriptors.specs.Loop.{walked}
use Rattle.known_walk.specs.Known.{known_among, known_cursors}
use Rattle.known_walk.proofs.walk.count.Given as goal

abbrev pub invariant-loop-kind : goal.invariant-loop-kind
invariant-loop-kind l =
    (length l.s ≤ 4096) × (l.found ≤ l.rest.at) × (l.found + length (known_among l.s (walked l.s l.rest)) ≡ length (known_cursors l.s l.initial.rest))

abbrev pub decreases-loop-kind : goal.decreases-loop-kind
decreases-loop-kind l = l.rest.end - l.rest.at
