-- `layout_commands::avails` meets its contract: a break_duration() where the flag says so, then the numbers.
-- Assumes nothing.
use mathlib.Core.Path.{sym, ◌∙◌, ap}
use borrow.Author.Tests.{eq-eqb, ne_eqb}
use Rattle.grammar.specs.Tables.{break_duration, avail_numbers, avails}
use Rattle.fields.specs.SoFar.{so_far}
use Rattle.fields.proofs.Lays.{finished, pass_last, yes, no}
use Rattle.layout_commands.proofs.avails.Goals as goal
use Rattle.layout_commands.proofs.avails.Goals.{then-duration_flag-eq1, else-duration_flag-eq1}

pub returns-clause-lays : goal.returns-clause-lays
unfolding avail_numbers avails break_duration
returns-clause-lays c =
    λ env v end e.
    elim c.if-duration_flag-eq1.branch [
      | then-duration_flag-eq1 w ↦ yes (eq-eqb _ 1 (e ∙ w.if-duration_flag-eq1.true)) (pass_last (ap so_far w.fields-is ∙ w.lay.ensures.plan)) (pass_last c.lay-2.ensures.plan)
      | else-duration_flag-eq1 w ↦ no (ne_eqb _ 1 (λ q. w.if-duration_flag-eq1.false (sym e ∙ q))) (finished (sym (ap so_far w.fields-is))) (pass_last c.lay-2.ensures.plan)
    ]
