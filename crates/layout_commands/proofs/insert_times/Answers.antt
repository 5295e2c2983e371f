-- `layout_commands::insert_times` meets its contract: one time for all, none, or the components.
-- Assumes nothing.
use mathlib.Core.Path.{refl, sym, ◌∙◌}
use borrow.Author.Tests.{eq-eqb, ne_eqb}
use Rattle.grammar.specs.Tables.{insert_times}
use Rattle.fields.proofs.Lays.{finished, pass, yes_last, no_last, repeated}
use Rattle.layout_commands.proofs.insert_times.Goals as goal

pub returns-then-splice_immediate_flag-eq0-clause-lays : goal.returns-then-splice_immediate_flag-eq0-clause-lays
unfolding insert_times
returns-then-splice_immediate_flag-eq0-clause-lays c =
    λ env end p i.
    yes_last (eq-eqb _ 1 (p ∙ c.if-program_splice_flag-eq1.true))
    (yes_last (eq-eqb _ 0 (i ∙ c.if-splice_immediate_flag-eq0.true)) (c.splice_time.ensures.lays env end))

pub returns-else-splice_immediate_flag-eq0-clause-lays : goal.returns-else-splice_immediate_flag-eq0-clause-lays
unfolding insert_times
returns-else-splice_immediate_flag-eq0-clause-lays c =
    λ env end p i.
    yes_last (eq-eqb _ 1 (p ∙ c.if-program_splice_flag-eq1.true))
    (no_last (ne_eqb _ 0 (λ q. c.if-splice_immediate_flag-eq0.false (sym i ∙ q))) (finished refl))

pub returns-clause-lays : goal.returns-clause-lays
unfolding insert_times
returns-clause-lays c =
    λ env end p i.
    no_last (ne_eqb _ 1 (λ q. c.if-program_splice_flag-eq1.false (sym p ∙ q)))
    (pass c.lay.ensures.plan
    (repeated _ (sym c.value-component_count.ensures) (c.insert_components.ensures.lays _ end i) (finished refl)))
