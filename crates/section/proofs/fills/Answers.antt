-- `section::fills` meets its contract. The loop's invariant: whatever the walk from the cursor comes to, the walk from the start
-- comes to.
-- Assumes nothing.
use mathlib.Core.Path.{◌≡◌, refl, sym, ap, ◌∙◌}
use Prim.Native.Nat.{ℕ, ◌*◌}
use native.Mathlib.Omega.{arith}
use Rattle.bits.specs.Bits.{bit}
use Rattle.grammar.specs.Meaning.{run, Outcome, breach, ends}
use Rattle.grammar.specs.Tables.{splice_descriptor}
use Rattle.grammar.proofs.Run.{swept_end, swept_on, swept_off}
use Rattle.descriptors.proofs.Walk.{Stepped, stepped, stuck, at_end}
use mathlib.Core.Bool.{Bool, true, false, cond}
use mathlib.Core.List.{List, []}
use lib.ListN.{length}
use lib.Dec.{leb, ltb}
use Rattle.std.specs.Prelude.{Option, None, Result, Ok, Err}
use Rattle.units.specs.declared.refusals.Refusal.{Refusal}
use Rattle.descriptors.specs.declared.Cursor.{Cursor}
use Rattle.descriptors.specs.declared.Kind.{Kind}
use Rattle.descriptors.specs.Walk.{found, step_of}
use Rattle.std.proofs.lemmas.Result.{err_from_is_err_and}
use Rattle.section.proofs.fills.Goals as goal

pub loop-next-init : goal.loop-next-init
loop-next-init c = (refl, omega arith, λ env. refl)

-- a step that is refused has the descriptor's refusal
by_tests : {r : Refusal} (s : List ℕ) (c : Cursor) (over past : Bool) (o : Outcome)
    → ◌≡◌ {A = Result (Option (Kind × Cursor)) Refusal} (cond over (Ok None) (cond past (Err Refusal.Descriptor) (found s c o))) (Err r) → r ≡ Refusal.Descriptor
unfolding found
by_tests s c true past o e = cc
by_tests s c false true o e = cc
by_tests s c false false (breach n) e = cc
by_tests s c false false (ends k) e = cc

own_refusal : {r : Refusal} (s : List ℕ) (c : Cursor) → step_of s c ≡ Err r → r ≡ Refusal.Descriptor
unfolding step_of
own_refusal s c e = by_tests s c (leb c.end c.at) (ltb (length s) c.end) (run splice_descriptor [] (bit s) (8 * c.end) (8 * c.at)) e

pub loop-next-smaller : goal.loop-next-smaller
loop-next-smaller c =
    let on : Stepped c.args.s.now c.loop-next.cursor c.in-Some.field-0-0 c.in-Some.next = stepped _ _ _ _ (sym c.in_ok-next.ensures ∙ ap Ok c.in-Some.is) in
    omega (arith, on.further, on.inside, c.loop-next.invariant.0)

pub loop-next-preserved : goal.loop-next-preserved
loop-next-preserved c =
    let on : Stepped c.args.s.now c.loop-next.cursor c.in-Some.field-0-0 c.in-Some.next = stepped _ _ _ _ (sym c.in_ok-next.ensures ∙ ap Ok c.in-Some.is) in
    let a = c.args in (
      on.same_end ∙ c.loop-next.invariant.0,
      omega (arith, on.inside, c.loop-next.invariant.0),
      λ env.
          c.loop-next.invariant.2 env
          ∙ swept_on (run splice_descriptor env (bit a.s.now) (8 * a.end)) (8 * a.end) (8 * c.loop-next.cursor.at) (8 * c.in-Some.next.at)
          (omega (arith, on.further, on.inside, c.loop-next.invariant.0))
          (ap (λ (e : ℕ). run splice_descriptor env (bit a.s.now) (8 * e) (8 * c.loop-next.cursor.at)) (sym c.loop-next.invariant.0) ∙ on.runs_to env)
          (omega (arith, on.further)),
    )

pub returns-clause-walk : goal.returns-clause-walk
returns-clause-walk c env =
    let a = c.args in
    let over = at_end a.s.now c.loop-next.cursor (sym c.in_ok-next.ensures ∙ ap Ok c.in_default.is) in
    c.loop-next.invariant.2 env
    ∙ swept_end (run splice_descriptor env (bit a.s.now) (8 * a.end)) (8 * a.end) (8 * c.loop-next.cursor.at) (omega (arith, over, c.loop-next.invariant.0))
    ∙ ap ends (omega (arith, over, c.loop-next.invariant.0, c.loop-next.invariant.1))

pub returns-in_err-next-clause-walk : goal.returns-in_err-next-clause-walk
returns-in_err-next-clause-walk c env =
    let a = c.args in
    let gone = err_from_is_err_and c.from_residual.result c.from_residual.ensures.1 in
    let held = stuck a.s.now c.loop-next.cursor _ (sym c.in_err-next.ensures) (omega (arith, c.loop-next.invariant.0)) in
    rw gone.1
    (c.loop-next.invariant.2 env
    ∙ swept_off (run splice_descriptor env (bit a.s.now) (8 * a.end)) (8 * a.end) (8 * c.loop-next.cursor.at) 0
    (omega (arith, held.before_end, c.loop-next.invariant.0))
    (ap (λ (e : ℕ). run splice_descriptor env (bit a.s.now) (8 * e) (8 * c.loop-next.cursor.at)) (sym c.loop-next.invariant.0) ∙ held.breaks env))

pub returns-in_err-next-clause-refusal : goal.returns-in_err-next-clause-refusal
returns-in_err-next-clause-refusal c =
    let gone = err_from_is_err_and c.from_residual.result c.from_residual.ensures.1 in
    rw gone.1 (gone.2 ∙ own_refusal c.args.s.now c.loop-next.cursor (sym c.in_err-next.ensures))
