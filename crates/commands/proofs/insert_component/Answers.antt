-- `commands::insert_component` meets its contract: its tag, and its time where the splice is not immediate.
-- Assumes nothing.
use mathlib.Core.Path.{◌≡◌, sym, ◌∙◌}
use Prim.Native.Nat.{◌+◌, ◌*◌}
use native.Mathlib.Omega.{arith}
use borrow.Author.Tests.{eq-eqb, ne_eqb}
use Rattle.grammar.specs.Tables.{insert_component}
use Rattle.grammar.proofs.Run.{pass, short, yes_last, no_last, finished, at_place}
use Rattle.commands.proofs.insert_component.Goals as goal

pub returns-in_err-next : goal.returns-in_err-next
unfolding insert_component
returns-in_err-next c env e = rw c.from_residual.ensures (short (omega (arith, c.in_err-next.ensures.too_few)))

pub returns-then-splice_immediate_flag-eq0 : goal.returns-then-splice_immediate_flag-eq0
unfolding insert_component
returns-then-splice_immediate_flag-eq0 c env e =
    let a = c.args.part in
    let tag = c.in_ok-next.ensures.there in
    let place : 8 * a.at + 8 ≡ 8 * c.in_ok-next.next = omega (arith, tag.0) in
    pass (omega (arith, tag.0, tag.1))
    (yes_last (eq-eqb _ 0 (e ∙ c.if-splice_immediate_flag-eq0.true)) (at_place place (c.splice_time.ensures _)))

pub returns : goal.returns
unfolding insert_component
returns c env e =
    let tag = c.in_ok-next.ensures.there in
    pass (omega (arith, tag.0, tag.1))
    (no_last (ne_eqb _ 0 (λ q. c.if-splice_immediate_flag-eq0.false (sym e ∙ q))) (finished (omega (arith, tag.0))))
