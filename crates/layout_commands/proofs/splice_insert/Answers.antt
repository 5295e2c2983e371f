-- `layout_commands::splice_insert` meets its contract: the flags, and unless the event is cancelled its times and numbers.
-- Assumes nothing.
use mathlib.Core.Path.{refl, sym, ◌∙◌}
use borrow.Author.Tests.{eq-eqb, ne_eqb}
use Rattle.grammar.specs.Tables.{splice_insert}
use Rattle.fields.proofs.Lays.{finished, pass, yes_last, no_last, called}
use Rattle.fields.proofs.Flags.{third, fourth}
use Rattle.layout_commands.proofs.splice_insert.Goals as goal

pub returns-then-cancelled-ne0-clause-lays : goal.returns-then-cancelled-ne0-clause-lays
unfolding splice_insert
returns-then-cancelled-ne0-clause-lays c =
    λ env end.
    pass c.lay.ensures.plan
    (no_last (ne_eqb _ 0 (λ q. c.if-cancelled-ne0.true (c.value-cancelled.ensures ∙ q))) (finished refl))

pub returns-clause-lays : goal.returns-clause-lays
unfolding splice_insert
returns-clause-lays c =
    let program = sym c.value-program_splice_flag.ensures in
    let immediate = fourth _ _ _ _ c.value-splice_immediate_flag.ensures in
    λ env end.
    pass c.lay.ensures.plan
    (yes_last (eq-eqb _ 0 (sym c.value-cancelled.ensures ∙ c.if-cancelled-ne0.false))
    (pass c.lay-2.ensures.plan
    (called (c.insert_times.ensures.lays _ end program immediate)
    (called (c.avails.ensures.lays _ _ end (third _ _ _ _ c.value-duration_flag.ensures)) (finished refl)))))
