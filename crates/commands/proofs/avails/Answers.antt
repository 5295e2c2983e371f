-- `commands::avails` meets its contract: the duration where its flag is set, and then the numbers.
-- Assumes nothing.
use mathlib.Core.Path.{refl, sym, ◌∙◌}
use native.Mathlib.Omega.{arith}
use borrow.Author.Tests.{eq-eqb, ne_eqb}
use Rattle.grammar.specs.Tables.{avails, avail_numbers, break_duration}
use Rattle.grammar.proofs.Ending.{last_rows}
use Rattle.grammar.proofs.Run.{pass, short, yes, no, finished}
use Rattle.commands.proofs.avails.Goals as goal

pub returns-in_err-at : goal.returns-in_err-at
unfolding avails break_duration
returns-in_err-at c env e =
    rw c.from_residual.ensures (yes (eq-eqb _ 1 (e ∙ c.if-duration_flag-eq1.true)) (short (omega (arith, c.in_err-at.ensures.too_few))) refl)

pub returns-then-duration_flag-eq1 : goal.returns-then-duration_flag-eq1
unfolding avails avail_numbers break_duration
returns-then-duration_flag-eq1 c env e =
    let a = c.args.part in
    let duration = c.in_ok-at.ensures.there in
    yes (eq-eqb _ 1 (e ∙ c.if-duration_flag-eq1.true)) (pass (omega (arith, duration.0, duration.1)) (finished refl))
    (last_rows c.in_ok-at.at a.end 4 c.after-then-duration_flag-eq1.result c.after-then-duration_flag-eq1.ensures.there c.after-then-duration_flag-eq1.ensures.too_few (omega (arith, duration.0))).runs

pub returns : goal.returns
unfolding avails avail_numbers break_duration
returns c env e =
    let a = c.args.part in
    no (ne_eqb _ 1 (λ q. c.if-duration_flag-eq1.false (sym e ∙ q))) (finished refl)
    (last_rows a.at a.end 4 c.after-2.result c.after-2.ensures.there c.after-2.ensures.too_few (omega arith)).runs
