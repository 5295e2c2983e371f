-- `commands::insert_times` meets its contract: one time for the program, or one a component.
-- Assumes nothing.
use mathlib.Core.Path.{◌≡◌, refl, sym, ap₂, ◌∙◌}
use mathlib.Core.List.{◌∷◌}
use Prim.Native.Nat.{ℕ, ◌+◌, ◌*◌, ◌<◌}
use native.Mathlib.Omega.{arith}
use lib.ListN.{get_or}
use borrow.Author.Tests.{eq-eqb, ne_eqb}
use Rattle.std.proofs.Common.{rules}
use Rattle.bits.specs.Bits.{bit, num}
use Rattle.grammar.specs.Meaning.{Env, run}
use Rattle.grammar.specs.Tables.{insert_times, insert_component}
use Rattle.grammar.proofs.Run.{times, pass, short, yes_last, no_last, repeated_last, finished}
use Rattle.grammar.proofs.Places.{octet}
use Rattle.commands.proofs.insert_times.Goals as goal

pub returns-then-splice_immediate_flag-eq0 : goal.returns-then-splice_immediate_flag-eq0
unfolding insert_times
returns-then-splice_immediate_flag-eq0 c env e i =
    yes_last (eq-eqb _ 1 (e ∙ c.if-program_splice_flag-eq1.true)) (yes_last (eq-eqb _ 0 (i ∙ c.if-splice_immediate_flag-eq0.true)) (c.splice_time.ensures env))

pub returns-then-program_splice_flag-eq1 : goal.returns-then-program_splice_flag-eq1
unfolding insert_times
returns-then-program_splice_flag-eq1 c env e i =
    yes_last (eq-eqb _ 1 (e ∙ c.if-program_splice_flag-eq1.true)) (no_last (ne_eqb _ 0 (λ q. c.if-splice_immediate_flag-eq0.false (sym i ∙ q))) (finished refl))

pub returns-in_err-next : goal.returns-in_err-next
unfolding insert_times
returns-in_err-next c env e i =
    rw c.from_residual.ensures
    (no_last (ne_eqb _ 1 (λ q. c.if-program_splice_flag-eq1.false (sym e ∙ q))) (short (omega (arith, c.in_err-next.ensures.too_few))))

pub returns : goal.returns
unfolding insert_times
returns c env e i =
    let a = c.args.part in
    let count = c.in_ok-next.ensures.there in
    let known : Env = ("component_count", num (bit a.s.now) (8 * a.at) 8) ∷ env in
    let place : 8 * a.at + 8 ≡ 8 * c.in_ok-next.next = omega (arith, count.0) in
    let byte : get_or a.s.now a.at 0 < 256 = search rules in
    no_last (ne_eqb _ 1 (λ q. c.if-program_splice_flag-eq1.false (sym e ∙ q)))
    (pass (omega (arith, count.0, count.1))
    (repeated_last
    (ap₂ (λ (n k : ℕ). times n (run insert_component known (bit a.s.now) (8 * a.end)) k) (octet a.s.now a.at (8 * a.at) byte refl) place
    ∙ c.insert_components.ensures known i)))
