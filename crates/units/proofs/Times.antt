-- Milliseconds are the only ones with 90 m ≤ t < 90 m + 90; the clock's sum is a sum of a clock of 2 ^ 33 ticks.
-- Assumes nothing.
use mathlib.Core.Path.{◌≡◌, ap}
use Prim.Native.Nat.{◌+◌, ◌*◌, ◌/◌, ◌%◌, ◌^◌, ◌≤◌, ◌<◌}
use native.Mathlib.Omega.{arith}
use Rattle.units.specs.declared.clock.Ticks.{Ticks}
use Rattle.units.specs.declared.clock.Millis.{Millis}
use Rattle.units.specs.Clock.{ticks, millis, millis_of, clock_sum}

pub millis_bounds : (t : Ticks) → (90 * (millis_of t).0 ≤ t.0) × (t.0 < 90 * (millis_of t).0 + 90)
millis_bounds t = omega arith

pub millis_only : (t : Ticks) (m : Millis) → 90 * m.0 ≤ t.0 → t.0 < 90 * m.0 + 90 → m ≡ millis_of t
millis_only t m low high =
    let same : m.0 ≡ t.0 / 90 = omega arith in
    ap millis same

pub clock_lt : (a b : Ticks) → (clock_sum a b).0 < 2 ^ 33
clock_lt a b = omega arith

pub clock_zero : (a : Ticks) → a.0 < 2 ^ 33 → clock_sum a (ticks 0) ≡ a
clock_zero a h =
    let same : (a.0 + 0) % 2 ^ 33 ≡ a.0 = omega arith in
    ap ticks same

pub clock_comm : (a b : Ticks) → clock_sum a b ≡ clock_sum b a
clock_comm a b =
    let same : (a.0 + b.0) % 2 ^ 33 ≡ (b.0 + a.0) % 2 ^ 33 = omega arith in
    ap ticks same

pub clock_assoc : (a b c : Ticks) → clock_sum (clock_sum a b) c ≡ clock_sum a (clock_sum b c)
clock_assoc a b c =
    let same : ((a.0 + b.0) % 2 ^ 33 + c.0) % 2 ^ 33 ≡ (a.0 + (b.0 + c.0) % 2 ^ 33) % 2 ^ 33 = omega arith in
    ap ticks same
