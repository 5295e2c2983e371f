-- `commands::schedule_times` meets its contract: one time for the program, or a tag and a time for each component.
-- Assumes nothing.
use mathlib.Core.Path.{refl, sym, ◌∙◌}
use Prim.Native.Nat.{◌+◌, ◌*◌, ◌<◌}
use native.Mathlib.Omega.{arith}
use lib.ListN.{get_or}
use borrow.Author.Tests.{eq-eqb, ne_eqb}
use Rattle.std.proofs.Common.{rules}
use Rattle.grammar.specs.Tables.{schedule_times}
use Rattle.grammar.proofs.Ending.{last_rows, last_repeat}
use Rattle.grammar.proofs.Run.{pass, short, yes_last, no_last}
use Rattle.grammar.proofs.Places.{octet}
use Rattle.commands.proofs.schedule_times.Goals as goal

pub returns-then-program_splice_flag-eq1 : goal.returns-then-program_splice_flag-eq1
unfolding schedule_times
returns-then-program_splice_flag-eq1 c env e =
    let a = c.args.part in
    yes_last (eq-eqb _ 1 (e ∙ c.if-program_splice_flag-eq1.true)) (last_rows a.at a.end 4 c.after.result c.after.ensures.there c.after.ensures.too_few (omega arith))

pub returns-in_err-after : goal.returns-in_err-after
unfolding schedule_times
returns-in_err-after c env e =
    rw c.from_residual.ensures
    (no_last (ne_eqb _ 1 (λ q. c.if-program_splice_flag-eq1.false (sym e ∙ q))) (short (omega (arith, c.in_err-after.ensures.too_few))))

pub returns : goal.returns
unfolding schedule_times
returns c env e =
    let a = c.args.part in
    let count = c.in_ok-after.ensures.there in
    let byte : get_or a.s.now a.at 0 < 256 = search rules in
    no_last (ne_eqb _ 1 (λ q. c.if-program_splice_flag-eq1.false (sym e ∙ q)))
    (pass (omega (arith, count.0, count.1))
    (last_repeat a.at a.end (1 + 5 * get_or a.s.now a.at 0) (get_or a.s.now a.at 0) c.after-3.result c.after-3.ensures.there c.after-3.ensures.too_few
    (octet a.s.now a.at (8 * a.at) byte refl) (omega (arith, count.0, count.1)) (omega arith)))
