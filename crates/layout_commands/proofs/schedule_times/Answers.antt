-- `layout_commands::schedule_times` meets its contract: one time for all, or a tag and a time for each component.
-- Assumes nothing.
use mathlib.Core.Path.{refl, sym, ◌∙◌}
use borrow.Author.Tests.{eq-eqb, ne_eqb}
use Rattle.grammar.specs.Tables.{schedule_times}
use Rattle.fields.proofs.Lays.{finished, pass, pass_last, yes_last, no_last, many}
use Rattle.layout_commands.proofs.schedule_times.Goals as goal

pub returns-then-program_splice_flag-eq1-clause-lays : goal.returns-then-program_splice_flag-eq1-clause-lays
unfolding schedule_times
returns-then-program_splice_flag-eq1-clause-lays c =
    λ env end p. yes_last (eq-eqb _ 1 (p ∙ c.if-program_splice_flag-eq1.true)) (pass_last c.lay.ensures.plan)

pub returns-clause-lays : goal.returns-clause-lays
unfolding schedule_times
returns-clause-lays c =
    λ env end p.
    no_last (ne_eqb _ 1 (λ q. c.if-program_splice_flag-eq1.false (sym p ∙ q)))
    (pass c.lay-2.ensures.plan (many _ (sym c.value-component_count.ensures) c.groups.ensures.plan (finished refl)))
