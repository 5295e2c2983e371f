-- `units::Ticks::clock_sum` meets its contract: the remainders' sum has the remainder of the sum.
-- Assumes nothing.
use mathlib.Core.Path.{◌≡◌, ap}
use Prim.Native.Nat.{◌+◌, ◌%◌, ◌^◌}
use native.Mathlib.Omega.{arith}
use Rattle.units.specs.Clock.{ticks}
use Rattle.units.proofs.clock.Ticks.clock_sum.Goals as goal

pub returns : goal.returns
returns c =
    let a = c.args in
    let wrapped : (a.self.0 % 2 ^ 33 + a.other.0 % 2 ^ 33) % 2 ^ 33 ≡ (a.self.0 + a.other.0) % 2 ^ 33 = omega arith in
    ap ticks wrapped
