-- `breaks::signal::walk` meets its contract: the invariant of its loop is that descriptors fill what is left of the loop, and that
-- what was found so far and what is left make the whole.
-- Assumes nothing.
use mathlib.Core.Path.{sym, ◌∙◌, subst}
use mathlib.Core.List.{List}
use Prim.Native.Nat.{◌≤◌}
use native.Mathlib.Omega.{arith}
use Rattle.descriptors.specs.declared.Cursor.{Cursor}
use Rattle.descriptors.proofs.Filled.{following, Going, going}
use Rattle.descriptors.proofs.Walk.{nothing_left}
use Rattle.breaks.specs.declared.signal.Signal.{Signal}
use Rattle.breaks.specs.Signals.{Reading, known_readings}
use Rattle.breaks.proofs.Left.{left, all_left, done_left}
use Rattle.breaks.proofs.Longest.{Found, nothing, nothing_yet, all_found}
use Rattle.breaks.proofs.Standing.{passed, with_break, without_break}
use Rattle.breaks.proofs.signal.walk.Goals as goal
use Rattle.breaks.proofs.signal.walk.Goals.{then-is_uncancelled+then-opens, then-is_uncancelled+else-opens, else-is_uncancelled}

pub loop-at-init : goal.loop-at-init
loop-at-init c =
    let a = c.args in
    let pre = c.requires in
    let all = known_readings a.s.now a.cursor in
    (pre.0, pre.1, subst (λ (ds : List Reading). Found nothing ds all) (sym (all_left a.s.now a.cursor pre.0)) (nothing_yet all))

pub is_uncancelled-requires : goal.is_uncancelled-requires
is_uncancelled-requires c =
    let place : Cursor = record { at = c.loop-at.at; end = c.args.cursor.end } in
    let stands : Going c.args.s.now (place) = going c.args.s.now (λ i. (c.type_inv.s i).fits) (place) c.loop-at.invariant.1 c.loop-at-test.true in
    let near : (following c.args.s.now (place)).at ≤ 4096 = omega (arith, (stands).inside, c.loop-at.invariant.0, c.loop-at.invariant.1.0) in
    omega (arith, near)

pub overflow_add-here : goal.overflow_add-here
overflow_add-here c =
    let place : Cursor = record { at = c.loop-at.at; end = c.args.cursor.end } in
    let stands : Going c.args.s.now (place) = going c.args.s.now (λ i. (c.type_inv.s i).fits) (place) c.loop-at.invariant.1 c.loop-at-test.true in
    let near : (following c.args.s.now (place)).at ≤ 4096 = omega (arith, (stands).inside, c.loop-at.invariant.0, c.loop-at.invariant.1.0) in
    omega (arith, near)

pub overflow_cast-here : goal.overflow_cast-here
overflow_cast-here c =
    let place : Cursor = record { at = c.loop-at.at; end = c.args.cursor.end } in
    let stands : Going c.args.s.now (place) = going c.args.s.now (λ i. (c.type_inv.s i).fits) (place) c.loop-at.invariant.1 c.loop-at-test.true in
    let near : (following c.args.s.now (place)).at ≤ 4096 = omega (arith, (stands).inside, c.loop-at.invariant.0, c.loop-at.invariant.1.0) in
    omega (arith, near)

pub overflow_add-at : goal.overflow_add-at
overflow_add-at c =
    let place : Cursor = record { at = c.loop-at.at; end = c.args.cursor.end } in
    let stands : Going c.args.s.now (place) = going c.args.s.now (λ i. (c.type_inv.s i).fits) (place) c.loop-at.invariant.1 c.loop-at-test.true in
    let near : (following c.args.s.now (place)).at ≤ 4096 = omega (arith, (stands).inside, c.loop-at.invariant.0, c.loop-at.invariant.1.0) in
    omega (arith, near)

pub overflow_add-at-in-loop-at : goal.overflow_add-at-in-loop-at
overflow_add-at-in-loop-at c =
    let place : Cursor = record { at = c.loop-at.at; end = c.args.cursor.end } in
    let stands : Going c.args.s.now (place) = going c.args.s.now (λ i. (c.type_inv.s i).fits) (place) c.loop-at.invariant.1 c.loop-at-test.true in
    let near : (following c.args.s.now (place)).at ≤ 4096 = omega (arith, (stands).inside, c.loop-at.invariant.0, c.loop-at.invariant.1.0) in
    omega (arith, near)

pub bounds-s-at : goal.bounds-s-at
bounds-s-at c =
    let place : Cursor = record { at = c.loop-at.at; end = c.args.cursor.end } in
    let stands : Going c.args.s.now (place) = going c.args.s.now (λ i. (c.type_inv.s i).fits) (place) c.loop-at.invariant.1 c.loop-at-test.true in
    omega (arith, (stands).inside, c.loop-at.invariant.1.0)

pub overflow_cast-at : goal.overflow_cast-at
overflow_cast-at c =
    let place : Cursor = record { at = c.loop-at.at; end = c.args.cursor.end } in
    let stands : Going c.args.s.now (place) = going c.args.s.now (λ i. (c.type_inv.s i).fits) (place) c.loop-at.invariant.1 c.loop-at-test.true in
    let near : (following c.args.s.now (place)).at ≤ 4096 = omega (arith, (stands).inside, c.loop-at.invariant.0, c.loop-at.invariant.1.0) in
    omega (arith, near)

pub overflow_add-at-in-loop-at-2 : goal.overflow_add-at-in-loop-at-2
overflow_add-at-in-loop-at-2 c =
    let place : Cursor = record { at = c.loop-at.at; end = c.args.cursor.end } in
    let stands : Going c.args.s.now (place) = going c.args.s.now (λ i. (c.type_inv.s i).fits) (place) c.loop-at.invariant.1 c.loop-at-test.true in
    let near : (following c.args.s.now (place)).at ≤ 4096 = omega (arith, (stands).inside, c.loop-at.invariant.0, c.loop-at.invariant.1.0) in
    omega (arith, near)

pub loop-at-smaller : goal.loop-at-smaller
loop-at-smaller c =
    let place : Cursor = record { at = c.loop-at.at; end = c.args.cursor.end } in
    let stands : Going c.args.s.now (place) = going c.args.s.now (λ i. (c.type_inv.s i).fits) (place) c.loop-at.invariant.1 c.loop-at-test.true in
    omega (arith, (stands).inside, c.loop-at-test.true)

pub loop-at-preserved : goal.loop-at-preserved
loop-at-preserved c =
    let place : Cursor = record { at = c.loop-at.at; end = c.args.cursor.end } in
    let stands : Going c.args.s.now (place) = going c.args.s.now (λ i. (c.type_inv.s i).fits) (place) c.loop-at.invariant.1 c.loop-at-test.true in
    let met : let a = c.args in Found (record { opened = c.if-is_uncancelled.opened; billed = c.if-is_uncancelled.billed; longest = c.if-is_uncancelled.longest }) (left a.s.now (following a.s.now (place))) (known_readings a.s.now a.cursor) = let a = c.args in
    let s = a.s.now in
    let g : Signal = record { opened = c.loop-at.opened; billed = c.loop-at.billed; longest = c.loop-at.longest } in
    let all = known_readings s a.cursor in
    let found = c.loop-at.invariant.2 in
    let here = stands in
    let fits = c.loop-at.invariant.0 in
    let is = c.is_uncancelled.ensures in
    elim c.if-is_uncancelled.branch [
      | then-is_uncancelled+then-opens w ↦
          subst (λ (x : Signal). Found x (left s (following s (place))) all) (λ i. record { opened = sym w.opened-is i; billed = sym w.billed-is i; longest = sym w.longest-is i })
          (with_break s (place) fits here (sym is ∙ w.if-is_uncancelled.true) g all found w.carried-measure.ensures w.longer-longest.ensures (sym w.opens.ensures ∙ w.if-opens.true) w.longer-billed.ensures)
      | then-is_uncancelled+else-opens w ↦
          subst (λ (x : Signal). Found x (left s (following s (place))) all) (λ i. record { opened = sym w.opened-is i; billed = sym w.billed-is i; longest = sym w.longest-is i })
          (without_break s (place) fits here (sym is ∙ w.if-is_uncancelled.true) g all found w.carried-measure.ensures w.longer-longest.ensures (sym w.opens.ensures ∙ w.if-opens.false))
      | else-is_uncancelled w ↦
          subst (λ (x : Signal). Found x (left s (following s (place))) all) (λ i. record { opened = sym w.opened-is i; billed = sym w.billed-is i; longest = sym w.longest-is i })
          (passed s (place) fits here g all (sym is ∙ w.if-is_uncancelled.false) found)
    ] in
    (c.loop-at.invariant.0, (stands).filled, met)

pub returns : goal.returns
returns c =
    let a = c.args in
    let s = a.s.now in
    let all = known_readings s a.cursor in
    let none = done_left s (record { at = c.loop-at.at; end = a.cursor.end }) (nothing_left s _ c.loop-at-test.false) in
    let g : Signal = record { opened = c.loop-at.opened; billed = c.loop-at.billed; longest = c.loop-at.longest } in
    all_found g all (subst (λ (ds : List Reading). Found g ds all) none c.loop-at.invariant.2)
