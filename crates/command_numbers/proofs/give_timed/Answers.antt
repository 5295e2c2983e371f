-- `command_numbers::give_timed` meets its contract: the numbers stand in front of a list that has room for them.
-- Assumes nothing.
use mathlib.Core.Path.{◌≡◌, ap}
use mathlib.Core.List.{List, [], ◌∷◌}
use Prim.Native.Nat.{ℕ, ◌≤◌}
use native.Mathlib.Omega.{arith}
use lib.ListN.{length}
use Rattle.command_reading.specs.declared.answers.SpliceTime.{SpliceTime}
use Rattle.wire.specs.Given.{these}
use Rattle.wire.specs.Put.{put_place, put_into, Put}
use Rattle.wire.proofs.Placed.{stands, behind, front, front_inside, front_count}
use Rattle.wire.proofs.Given.{given_as}
use Rattle.command_numbers.specs.Numbers.{time_numbers}
use Rattle.command_numbers.proofs.Short.{time_short}
use Rattle.command_numbers.proofs.give_timed.Goals as goal

abbrev three : List ℕ
three = 0 ∷ 0 ∷ 0 ∷ []

short : (first : ℕ) (t : SpliceTime) → length (first ∷ time_numbers t) ≤ 3
short first t = omega (arith, time_short t)

-- a number and then a time, in a list of three
timed : (first : ℕ) (t : SpliceTime) {i j : ℕ} {l m : List ℕ} → (i ≡ put_place three 0 (first ∷ [])) × (l ≡ put_into three 0 (first ∷ []))
    → (j ≡ put_place l i (time_numbers t)) × (m ≡ put_into l i (time_numbers t)) → Put three 0 (first ∷ time_numbers t) j m
timed first t p q = behind (time_numbers t) (stands {m = three} (omega arith) p) (omega (arith, time_short t)) q

pub slice_bounds-list-end : goal.slice_bounds-list-end
slice_bounds-list-end c = front_inside (timed c.args.first c.args.x c.put-n.ensures c.time-n.ensures) (short c.args.first c.args.x)

pub slice_bounds-give-end : goal.slice_bounds-give-end
slice_bounds-give-end c = front_count (timed c.args.first c.args.x c.put-n.ensures c.time-n.ensures) (short c.args.first c.args.x)

pub returns : goal.returns
returns c = given_as _ (ap these (front (timed c.args.first c.args.x c.put-n.ensures c.time-n.ensures) (short c.args.first c.args.x))) c.give.ensures
