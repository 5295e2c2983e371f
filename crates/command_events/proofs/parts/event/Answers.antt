-- `command_events::parts::event` meets its contract: each part meets its own.
-- Assumes nothing.
use mathlib.Core.Path.{sym, ap, ◌∙◌}
use Prim.Native.Nat.{◌*◌}
use native.Mathlib.Omega.{arith}
use Rattle.units.specs.Clock.{event_id}
use Rattle.bits.proofs.Fields.{field_lt}
use Rattle.command_reading.specs.declared.answers.Event.{Event}
use Rattle.command_reading.specs.Places.{avails_at}
use Rattle.command_events.specs.Places.{event_at}
use Rattle.command_reading.proofs.EventEnd.{avails_from}
use Rattle.command_events.proofs.parts.event.Goals as goal

pub overflow_cast-splice_event_id : goal.overflow_cast-splice_event_id
overflow_cast-splice_event_id c =
    let a = c.args in
    omega (arith, field_lt a.s.now (8 * a.at) 32)

pub returns-then-splice_event_cancel_indicator : goal.returns-then-splice_event_cancel_indicator
unfolding event_at
returns-then-splice_event_cancel_indicator c =
    rw (sym c.flag-splice_event_cancel_indicator.ensures ∙ c.if-splice_event_cancel_indicator.true) (λ i. Event.Cancelled (event_id (c.quad.ensures i)))

pub returns : goal.returns
unfolding event_at
returns c =
    let a = c.args in
    rw (sym c.flag-splice_event_cancel_indicator.ensures ∙ c.if-splice_event_cancel_indicator.false)
    (λ i.
    Event.Scheduled
    (record {
      splice_event_id = event_id (c.quad.ensures i);
      out_of_network_indicator = c.flag-2.ensures i;
      time = c.event_time-time.ensures i;
      avails = (c.avails-avails.ensures ∙ avails_from a.s.now a.end _ (omega arith) (omega arith) ∙ ap (avails_at a.s.now a.end) c.flag.ensures) i;
    }))
