-- `breaks::signal::carried` meets its contract.
-- Assumes nothing.
use mathlib.Core.Path.{ap, ◌∙◌}
use Prim.Native.Nat.{ℕ, ◌*◌}
use native.Mathlib.Omega.{arith}
use Rattle.std.specs.Prelude.{Some}
use Rattle.bits.proofs.Fields.{field_lt}
use Rattle.units.specs.Clock.{event_id}
use Rattle.breaks.specs.Signals.{measure_of}
use Rattle.breaks.proofs.signal.carried.Goals as goal

pub overflow_cast-event : goal.overflow_cast-event
overflow_cast-event c =
    let a = c.args in
    omega (arith, c.quad.ensures, field_lt a.s.now (8 * a.at) 32)

pub returns : goal.returns
returns c =
    ap (λ (n : ℕ). Some (record { event = event_id n; ticks = c.in_ok-ticks.ticks })) c.quad.ensures
    ∙ ap (measure_of _) c.in_ok-ticks.ensures
