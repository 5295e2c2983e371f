-- `command_reading::parts::insert` meets its contract: each part meets its own.
-- Assumes nothing.
use mathlib.Core.Path.{sym, ap, ◌∙◌}
use native.Mathlib.Omega.{arith}
use Rattle.units.specs.Clock.{event_id}
use Rattle.bits.proofs.Fields.{field_lt}
use Rattle.command_reading.specs.declared.answers.Command.{Command}
use Rattle.command_reading.specs.Places.{avails_at, insert_at}
use Rattle.command_reading.proofs.EventEnd.{avails_from}
use Rattle.command_reading.proofs.parts.insert.Goals as goal

pub overflow_cast-splice_event_id : goal.overflow_cast-splice_event_id
overflow_cast-splice_event_id c = omega (arith, field_lt c.args.s.now 112 32)

pub returns-then-flag : goal.returns-then-flag
unfolding insert_at
returns-then-flag c =
    rw (sym c.flag.ensures ∙ c.if-flag.true) (λ i. Command.CancelledInsert (event_id (c.quad.ensures i)))

pub returns : goal.returns
unfolding insert_at
returns c =
    let a = c.args in
    rw (sym c.flag.ensures ∙ c.if-flag.false)
    (λ i.
    Command.Insert
    (record {
      splice_event_id = event_id (c.quad.ensures i);
      out_of_network_indicator = c.flag-3.ensures i;
      time = c.insert_time-time.ensures i;
      mode = c.insert_mode-mode.ensures i;
      avails = (c.avails-avails.ensures ∙ avails_from a.s.now a.end _ (omega arith) (omega arith) ∙ ap (avails_at a.s.now a.end) c.flag-2.ensures) i;
    }))
