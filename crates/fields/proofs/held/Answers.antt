-- `fields::held` meets its contract: a number is below 2 to the width exactly when no bit is left after the shift.
-- Assumes nothing.
use mathlib.Core.Path.{◌≡◌, sym, ap}
use mathlib.Core.Bool.{Bool, cond}
use Prim.Native.Nat.{ℕ, ◌^◌, ◌<◌}
use native.Mathlib.Nat.{lt_of_lt_of_le}
use lib.Pow.{pow_mono}
use borrow.Author.Tests.{lt-ltb, le-ltb}
use Rattle.bits.proofs.Cases.{small, large}
use Rattle.fields.specs.Fields.{held}
use Rattle.fields.proofs.held.Goals as goal

is_held : (x w : ℕ) → x < 2 ^ w → x ≡ held x w
unfolding held
is_held x w h = sym (ap (λ (b : Bool). cond b x 0) (lt-ltb x (2 ^ w) h))

pub returns-then-width-ge64 : goal.returns-then-width-ge64
returns-then-width-ge64 c =
    let a = c.args in
    is_held a.x a.width (lt_of_lt_of_le c.ranges.x.fits (pow_mono c.if-width-ge64.true))

pub returns-then-x-width-eq0 : goal.returns-then-x-width-eq0
returns-then-x-width-eq0 c =
    let a = c.args in
    is_held a.x a.width (small a.x a.width c.if-x-width-eq0.true)

pub returns-else-x-width-eq0 : goal.returns-else-x-width-eq0
unfolding held
returns-else-x-width-eq0 c =
    let a = c.args in
    sym (ap (λ (b : Bool). cond b a.x 0) (le-ltb a.x (2 ^ a.width) (large a.x a.width c.if-x-width-eq0.false)))
