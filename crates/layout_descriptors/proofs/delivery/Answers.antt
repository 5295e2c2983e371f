-- `layout_descriptors::delivery` meets its contract: each arm is a group.
-- Assumes nothing.
use mathlib.Core.Path.{sym, ◌∙◌}
use borrow.Author.Tests.{eq-eqb, ne_eqb}
use Rattle.grammar.specs.Tables.{delivery}
use Rattle.fields.proofs.Lays.{pass_last, yes_last, no_last}
use Rattle.layout_descriptors.proofs.delivery.Goals as goal

pub returns-then-delivery_not_restricted_flag-eq0-clause-lays : goal.returns-then-delivery_not_restricted_flag-eq0-clause-lays
unfolding delivery
returns-then-delivery_not_restricted_flag-eq0-clause-lays c =
    λ env v end e. yes_last (eq-eqb _ 0 (e ∙ c.if-delivery_not_restricted_flag-eq0.true)) (pass_last c.lay.ensures.plan)

pub returns-else-delivery_not_restricted_flag-eq0-clause-lays : goal.returns-else-delivery_not_restricted_flag-eq0-clause-lays
unfolding delivery
returns-else-delivery_not_restricted_flag-eq0-clause-lays c =
    let rest = c.lay-else-delivery_not_restricted_flag-eq0 in
    λ env v end e. no_last (ne_eqb _ 0 (λ q. c.if-delivery_not_restricted_flag-eq0.false (sym e ∙ q))) (pass_last rest.ensures.plan)
