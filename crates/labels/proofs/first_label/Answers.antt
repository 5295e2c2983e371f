-- `labels::first_label` meets its contract: the invariant of its loop is that the label
-- among what is still to be walked is that of all.
-- Assumes nothing.
use mathlib.Core.Path.{◌≡◌, sym, ◌∙◌}
use Prim.Native.Nat.{◌≤◌}
use native.Mathlib.Omega.{arith}
use lib.ListN.{length}
use Rattle.std.specs.Prelude.{Some, Ok}
use Rattle.descriptors.specs.Walk.{step_of}
use Rattle.known_walk.proofs.KnownAmong.{less_left}
use Rattle.labels.proofs.Left.{all_labels, no_label, unknown_label, done_label, broken_label, label_here, empty_here, no_upid_here}
use Rattle.labels.proofs.first_label.Goals as goal

pub returns-then-s-gt-MOST_SECTION : goal.returns-then-s-gt-MOST_SECTION
returns-then-s-gt-MOST_SECTION c = let a = c.args in no_label a.s.now a.cursor (omega arith)

pub loop-kind-init : goal.loop-kind-init
loop-kind-init c =
    let a = c.args in
    let short : length a.s.now ≤ 4096 = omega arith in
    (short, all_labels a.s.now a.cursor short)

pub returns-then-part-gt0 : goal.returns-then-part-gt0
returns-then-part-gt0 c =
    let s = c.args.s.now in
    let step_is : step_of s c.loop-kind.place ≡ Ok (Some (c.in-Ok-Some.kind, c.in-Ok-Some.next)) = cc in
    sym
    (label_here s c.loop-kind.place c.in-Ok-Some.kind c.in-Ok-Some.next c.loop-kind.invariant.0 step_is (sym c.is_known.ensures ∙ c.if-is_known.true)
    c.in-Ok.part (sym c.upid_at.ensures ∙ c.in-Ok.is) c.if-part-gt0.true)
    ∙ c.loop-kind.invariant.1

pub loop-kind-smaller-else-part-gt0 : goal.loop-kind-smaller-else-part-gt0
loop-kind-smaller-else-part-gt0 c =
    let step_is : step_of c.args.s.now c.loop-kind.place ≡ Ok (Some (c.in-Ok-Some.kind, c.in-Ok-Some.next)) = cc in
    less_left _ _ _ _ step_is

pub loop-kind-preserved-else-part-gt0 : goal.loop-kind-preserved-else-part-gt0
loop-kind-preserved-else-part-gt0 c =
    let s = c.args.s.now in
    let step_is : step_of s c.loop-kind.place ≡ Ok (Some (c.in-Ok-Some.kind, c.in-Ok-Some.next)) = cc in (
      c.loop-kind.invariant.0,
      sym
          (empty_here s c.loop-kind.place c.in-Ok-Some.kind c.in-Ok-Some.next c.loop-kind.invariant.0 step_is (sym c.is_known.ensures ∙ c.if-is_known.true)
          c.in-Ok.part (sym c.upid_at.ensures ∙ c.in-Ok.is) (omega (arith, c.if-part-gt0.false)))
          ∙ c.loop-kind.invariant.1,
    )

pub loop-kind-smaller-in_default-upid_at : goal.loop-kind-smaller-in_default-upid_at
loop-kind-smaller-in_default-upid_at c =
    let step_is : step_of c.args.s.now c.loop-kind.place ≡ Ok (Some (c.in-Ok-Some.kind, c.in-Ok-Some.next)) = cc in
    less_left _ _ _ _ step_is

pub loop-kind-preserved-in_default-upid_at : goal.loop-kind-preserved-in_default-upid_at
loop-kind-preserved-in_default-upid_at c =
    let s = c.args.s.now in
    let step_is : step_of s c.loop-kind.place ≡ Ok (Some (c.in-Ok-Some.kind, c.in-Ok-Some.next)) = cc in (
      c.loop-kind.invariant.0,
      sym
          (no_upid_here s c.loop-kind.place c.in-Ok-Some.kind c.in-Ok-Some.next c.loop-kind.invariant.0 step_is (sym c.is_known.ensures ∙ c.if-is_known.true)
          c.in_default-upid_at.field-0 (sym c.upid_at.ensures ∙ c.in_default-upid_at.is))
          ∙ c.loop-kind.invariant.1,
    )

pub loop-kind-smaller : goal.loop-kind-smaller
loop-kind-smaller c =
    let step_is : step_of c.args.s.now c.loop-kind.place ≡ Ok (Some (c.in-Ok-Some.kind, c.in-Ok-Some.next)) = cc in
    less_left _ _ _ _ step_is

pub loop-kind-preserved : goal.loop-kind-preserved
loop-kind-preserved c =
    let s = c.args.s.now in
    let step_is : step_of s c.loop-kind.place ≡ Ok (Some (c.in-Ok-Some.kind, c.in-Ok-Some.next)) = cc in (
      c.loop-kind.invariant.0,
      sym (unknown_label s c.loop-kind.place c.in-Ok-Some.kind c.in-Ok-Some.next step_is (sym c.is_known.ensures ∙ c.if-is_known.false)) ∙ c.loop-kind.invariant.1,
    )

pub returns-in_default : goal.returns-in_default
returns-in_default c =
    let s = c.args.s.now in
    sym (done_label s c.loop-kind.place cc) ∙ c.loop-kind.invariant.1

pub returns-in_default-2 : goal.returns-in_default-2
returns-in_default-2 c =
    let s = c.args.s.now in
    sym (broken_label s c.loop-kind.place _ (sym c.step.ensures ∙ c.in_default.is)) ∙ c.loop-kind.invariant.1
