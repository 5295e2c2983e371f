use Rattle.std.proofs.Common.{◌≡◌, ℕ, ◌-◌, ◌≤◌, List, length}
use Rattle.tally.specs.Loop.{Taken}
use Rattle.tally.proofs.all.Given as goal

abbrev pub invariant-loop-at : goal.invariant-loop-at
invariant-loop-at g l =
    (l.at ≤ length l.input)
    × (5464 ≤ length l.carry)
    × (23 ≤ length l.out)
    × (length l.carry ≡ length l.initial.carry)
    × (length l.out ≡ length l.initial.out)
    × (answers : List ℕ)
    × Taken l.initial.held l.initial.carry l.input l.at l.held l.carry answers

abbrev pub decreases-loop-at : goal.decreases-loop-at
decreases-loop-at g l = length l.input - l.at
