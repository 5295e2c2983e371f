-- `known_walk::walk::count` meets its contract. The loop's invariant: those found, and the known ones among those that are
-- still to be walked, are all.
-- Assumes nothing.
use mathlib.Core.Path.{◌≡◌, sym, ap, ◌∙◌}
use Prim.Native.Nat.{◌≤◌}
use native.Mathlib.Omega.{arith}
use lib.ListN.{length}
use Rattle.std.specs.Prelude.{Some, Ok}
use Rattle.descriptors.specs.Walk.{step_of}
use Rattle.descriptors.proofs.Walk.{stepped}
use Rattle.known_walk.proofs.KnownAmong.{less_left, known_first, unknown_first, none_left, none_whole, in_section, too_long}
use Rattle.known_walk.proofs.walk.count.Goals as goal

pub returns-then-s-gt-MOST_SECTION : goal.returns-then-s-gt-MOST_SECTION
returns-then-s-gt-MOST_SECTION c = let a = c.args in sym (ap length (too_long a.s.now a.cursor (omega arith)))

pub loop-kind-init : goal.loop-kind-init
loop-kind-init c =
    let a = c.args in
    let short : length a.s.now ≤ 4096 = omega arith in
    (short, omega arith, omega (arith, ap length (in_section a.s.now a.cursor short)))

pub overflow_add-found : goal.overflow_add-found
overflow_add-found c =
    let step_is : step_of c.args.s.now c.loop-kind.rest ≡ Ok (Some (c.in-Ok-Some.kind, c.in-Ok-Some.next)) = cc in
    let on = stepped _ _ _ _ step_is in
    let l = c.loop-kind in
    omega (arith, on.within, on.further, on.inside, l.invariant.0, l.invariant.1)

pub loop-kind-smaller-then-is_known : goal.loop-kind-smaller-then-is_known
loop-kind-smaller-then-is_known c =
    let step_is : step_of c.args.s.now c.loop-kind.rest ≡ Ok (Some (c.in-Ok-Some.kind, c.in-Ok-Some.next)) = cc in
    less_left _ _ _ _ step_is

pub loop-kind-preserved-then-is_known : goal.loop-kind-preserved-then-is_known
loop-kind-preserved-then-is_known c =
    let step_is : step_of c.args.s.now c.loop-kind.rest ≡ Ok (Some (c.in-Ok-Some.kind, c.in-Ok-Some.next)) = cc in
    let s = c.args.s.now in
    let on = stepped _ _ _ _ step_is in
    let one_more = ap length (known_first s c.loop-kind.rest c.in-Ok-Some.kind c.in-Ok-Some.next step_is (sym c.is_known.ensures ∙ c.if-is_known.true)) in
    (c.loop-kind.invariant.0, omega (arith, on.further, c.loop-kind.invariant.1), omega (arith, one_more, c.loop-kind.invariant.2))

pub loop-kind-smaller : goal.loop-kind-smaller
loop-kind-smaller c =
    let step_is : step_of c.args.s.now c.loop-kind.rest ≡ Ok (Some (c.in-Ok-Some.kind, c.in-Ok-Some.next)) = cc in
    less_left _ _ _ _ step_is

pub loop-kind-preserved : goal.loop-kind-preserved
loop-kind-preserved c =
    let step_is : step_of c.args.s.now c.loop-kind.rest ≡ Ok (Some (c.in-Ok-Some.kind, c.in-Ok-Some.next)) = cc in
    let s = c.args.s.now in
    let on = stepped _ _ _ _ step_is in
    let as_many = ap length (unknown_first s c.loop-kind.rest c.in-Ok-Some.kind c.in-Ok-Some.next step_is (sym c.is_known.ensures ∙ c.if-is_known.false)) in
    (c.loop-kind.invariant.0, omega (arith, on.further, c.loop-kind.invariant.1), omega (arith, as_many, c.loop-kind.invariant.2))

pub returns-in_default : goal.returns-in_default
returns-in_default c =
    let s = c.args.s.now in
    let none = ap length (none_left s c.loop-kind.rest cc) in
    omega (arith, none, c.loop-kind.invariant.2)

pub returns-in_default-2 : goal.returns-in_default-2
returns-in_default-2 c =
    let s = c.args.s.now in
    let none = ap length (none_whole s c.loop-kind.rest _ (sym c.step.ensures ∙ c.in_default.is)) in
    omega (arith, none, c.loop-kind.invariant.2)
