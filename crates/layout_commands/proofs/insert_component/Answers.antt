-- `layout_commands::insert_component` meets its contract: the tag, and a splice_time() unless the splice is immediate.
-- Assumes nothing.
use mathlib.Core.Path.{refl, sym, ◌∙◌}
use borrow.Author.Tests.{eq-eqb, ne_eqb}
use Rattle.grammar.specs.Tables.{insert_component}
use Rattle.fields.proofs.Lays.{finished, pass, yes_last, no_last}
use Rattle.layout_commands.proofs.insert_component.Goals as goal

pub returns-then-splice_immediate_flag-eq0-clause-lays : goal.returns-then-splice_immediate_flag-eq0-clause-lays
unfolding insert_component
returns-then-splice_immediate_flag-eq0-clause-lays c =
    λ env end e.
    pass c.lay.ensures.plan
    (yes_last (eq-eqb _ 0 (e ∙ c.if-splice_immediate_flag-eq0.true)) (c.splice_time.ensures.lays _ end))

pub returns-else-splice_immediate_flag-eq0-clause-lays : goal.returns-else-splice_immediate_flag-eq0-clause-lays
unfolding insert_component
returns-else-splice_immediate_flag-eq0-clause-lays c =
    λ env end e.
    pass c.lay.ensures.plan
    (no_last (ne_eqb _ 0 (λ q. c.if-splice_immediate_flag-eq0.false (sym e ∙ q))) (finished refl))
