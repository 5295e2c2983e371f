-- `known_walk::walk::known` meets its contract. The loop's invariant: the known descriptor that is asked for has the number
-- `left` among those that are still to be walked.
-- Assumes nothing.
use mathlib.Core.Path.{◌≡◌, sym, ap, ◌∙◌, subst}
use mathlib.Core.List.{List}
use Prim.Native.Nat.{◌≤◌}
use native.Mathlib.Omega.{arith}
use lib.ListN.{length}
use Rattle.descriptors.specs.declared.Cursor.{Cursor}
use Rattle.std.specs.Prelude.{Some, Ok}
use Rattle.descriptors.specs.Walk.{step_of}
use Rattle.descriptors.specs.Loop.{walked, trace_at}
use Rattle.known_walk.specs.Known.{known_among, numbered, known_trace}
use Rattle.known_walk.specs.Places.{Stands}
use Rattle.known_walk.proofs.Stands.{stands}
use Rattle.known_walk.proofs.KnownAmong.{less_left, none_left, none_whole, in_section, too_long, number_first, number_later, number_passed, number_none, no_trace}
use Rattle.known_walk.proofs.walk.known.Goals as goal

pub returns-then-s-gt-MOST_SECTION : goal.returns-then-s-gt-MOST_SECTION
returns-then-s-gt-MOST_SECTION c =
    let a = c.args in
    no_trace a.s.now a.cursor a.n (number_none _ a.n (too_long a.s.now a.cursor (omega arith)))

pub loop-kind-init : goal.loop-kind-init
loop-kind-init c =
    let a = c.args in
    let short : length a.s.now ≤ 4096 = omega arith in
    (short, sym (ap (λ (cs : List Cursor). numbered cs a.n) (in_section a.s.now a.cursor short)))

pub returns-then-left-eq0 : goal.returns-then-left-eq0
unfolding known_trace
returns-then-left-eq0 c =
    let step_is : step_of c.args.s.now c.loop-kind.place ≡ Ok (Some (c.in-Ok-Some.kind, c.in-Ok-Some.next)) = cc in
    let s = c.args.s.now in
    let known = sym c.is_known.ensures ∙ c.if-is_known.true in
    let here = sym (number_first s c.loop-kind.place c.in-Ok-Some.kind c.in-Ok-Some.next step_is known)
    ∙ ap (numbered (known_among s (walked s c.loop-kind.place))) (sym c.if-left-eq0.true)
    ∙ c.loop-kind.invariant.1 in (
      ap (λ (d : Cursor). d.at) here,
      subst (λ (d : Cursor). Stands s c.loop-kind.place.at (trace_at s d)) here (stands s c.loop-kind.place c.in-Ok-Some.kind c.in-Ok-Some.next c.loop-kind.invariant.0 step_is known),
    )

pub loop-kind-smaller-else-left-eq0 : goal.loop-kind-smaller-else-left-eq0
loop-kind-smaller-else-left-eq0 c =
    let step_is : step_of c.args.s.now c.loop-kind.place ≡ Ok (Some (c.in-Ok-Some.kind, c.in-Ok-Some.next)) = cc in
    less_left _ _ _ _ step_is

pub loop-kind-preserved-else-left-eq0 : goal.loop-kind-preserved-else-left-eq0
loop-kind-preserved-else-left-eq0 c =
    let step_is : step_of c.args.s.now c.loop-kind.place ≡ Ok (Some (c.in-Ok-Some.kind, c.in-Ok-Some.next)) = cc in
    let s = c.args.s.now in (
      c.loop-kind.invariant.0,
      sym (number_later s c.loop-kind.place c.in-Ok-Some.kind c.in-Ok-Some.next step_is (sym c.is_known.ensures ∙ c.if-is_known.true) c.loop-kind.left (omega arith))
          ∙ c.loop-kind.invariant.1,
    )

pub loop-kind-smaller : goal.loop-kind-smaller
loop-kind-smaller c =
    let step_is : step_of c.args.s.now c.loop-kind.place ≡ Ok (Some (c.in-Ok-Some.kind, c.in-Ok-Some.next)) = cc in
    less_left _ _ _ _ step_is

pub loop-kind-preserved : goal.loop-kind-preserved
loop-kind-preserved c =
    let step_is : step_of c.args.s.now c.loop-kind.place ≡ Ok (Some (c.in-Ok-Some.kind, c.in-Ok-Some.next)) = cc in
    let s = c.args.s.now in (
      c.loop-kind.invariant.0,
      sym (number_passed s c.loop-kind.place c.in-Ok-Some.kind c.in-Ok-Some.next step_is (sym c.is_known.ensures ∙ c.if-is_known.false) c.loop-kind.left) ∙ c.loop-kind.invariant.1,
    )

pub returns-in_default : goal.returns-in_default
returns-in_default c =
    let a = c.args in
    let s = a.s.now in
    no_trace s a.cursor a.n
    (sym c.loop-kind.invariant.1 ∙ number_none _ c.loop-kind.left (none_left s c.loop-kind.place cc))

pub returns-in_default-2 : goal.returns-in_default-2
returns-in_default-2 c =
    let a = c.args in
    let s = a.s.now in
    no_trace s a.cursor a.n
    (sym c.loop-kind.invariant.1 ∙ number_none _ c.loop-kind.left (none_whole s c.loop-kind.place _ (sym c.step.ensures ∙ c.in_default.is)))
