use mathlib.Core.Path.{◌≡◌}
use Prim.Native.Nat.{◌-◌, ◌≤◌}
use lib.ListN.{length}
use Rattle.descriptors.specs.Loop.{walked}
use Rattle.known_walk.specs.Known.{known_among, known_cursors, numbered}
use Rattle.known_walk.proofs.walk.known.Given as goal

abbrev pub invariant-loop-kind : goal.invariant-loop-kind
invariant-loop-kind l =
    (length l.s ≤ 4096) × (numbered (known_among l.s (walked l.s l.place)) l.left ≡ numbered (known_cursors l.s l.initial.place) l.n)

abbrev pub decreases-loop-kind : goal.decreases-loop-kind
decreases-loop-kind l = l.place.end - l.place.at
