-- `layout_commands::schedule_event` meets its contract: the flags, and unless the event is cancelled its times and numbers.
-- Assumes nothing.
use mathlib.Core.Path.{refl, sym, ◌∙◌}
use borrow.Author.Tests.{eq-eqb, ne_eqb}
use Rattle.grammar.specs.Tables.{schedule_event}
use Rattle.fields.proofs.Lays.{finished, pass, yes_last, no_last, called}
use Rattle.fields.proofs.Flags.{third}
use Rattle.layout_commands.proofs.schedule_event.Goals as goal

pub returns-then-cancelled-ne0-clause-lays : goal.returns-then-cancelled-ne0-clause-lays
unfolding schedule_event
returns-then-cancelled-ne0-clause-lays c =
    λ env end.
    pass c.lay.ensures.plan
    (no_last (ne_eqb _ 0 (λ q. c.if-cancelled-ne0.true (c.value-cancelled.ensures ∙ q))) (finished refl))

pub returns-clause-lays : goal.returns-clause-lays
unfolding schedule_event
returns-clause-lays c =
    λ env end.
    pass c.lay.ensures.plan
    (yes_last (eq-eqb _ 0 (sym c.value-cancelled.ensures ∙ c.if-cancelled-ne0.false))
    (pass c.lay-2.ensures.plan
    (called (c.schedule_times.ensures.lays _ end (sym c.value-program_splice_flag.ensures))
    (called (c.avails.ensures.lays _ _ end (third _ _ _ _ c.value-duration_flag.ensures)) (finished refl)))))
