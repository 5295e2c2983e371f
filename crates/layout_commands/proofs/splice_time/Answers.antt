-- `layout_commands::splice_time` meets its contract: the flag, then a time or reserved bits.
-- Assumes nothing.
use mathlib.Core.Path.{sym, ◌∙◌}
use borrow.Author.Tests.{eq-eqb, ne_eqb}
use Rattle.grammar.specs.Tables.{splice_time}
use Rattle.fields.proofs.Lays.{pass, pass_last, yes_last, no_last}
use Rattle.layout_commands.proofs.splice_time.Goals as goal

pub returns-then-time_specified_flag-eq1-clause-lays : goal.returns-then-time_specified_flag-eq1-clause-lays
unfolding splice_time
returns-then-time_specified_flag-eq1-clause-lays c =
    let flag = c.value-time_specified_flag in
    λ env end.
    pass c.lay.ensures.plan
    (yes_last (eq-eqb _ 1 (sym flag.ensures ∙ c.if-time_specified_flag-eq1.true)) (pass_last c.lay-then-time_specified_flag-eq1.ensures.plan))

pub returns-else-time_specified_flag-eq1-clause-lays : goal.returns-else-time_specified_flag-eq1-clause-lays
unfolding splice_time
returns-else-time_specified_flag-eq1-clause-lays c =
    let flag = c.value-time_specified_flag in
    λ env end.
    pass c.lay.ensures.plan
    (no_last (ne_eqb _ 1 (λ e. c.if-time_specified_flag-eq1.false (flag.ensures ∙ e))) (pass_last c.lay-else-time_specified_flag-eq1.ensures.plan))
