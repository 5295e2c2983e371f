-- `lines::turn` meets its contract. The invariant: the rest of the turn goes on from here.
-- Assumes nothing.
use mathlib.Core.Path.{◌≡◌, refl, sym, ap, ◌∙◌}
use mathlib.Core.List.{List, ◌++◌}
use Prim.Native.Nat.{ℕ, ◌+◌, ◌≤◌, ◌<◌}
use native.Mathlib.Omega.{arith}
use lib.ListN.{length, take, drop, length-drop, take-append-drop}
use Rattle.std.specs.Prelude.{Ok}
use Rattle.spelling.specs.Spelling.{spelled}
use Rattle.spelling.proofs.Spelled.{spell_refused, spell_counted}
use Rattle.lines.specs.declared.answers.Held.{Held}
use Rattle.lines.specs.Turns.{held_with, carry_with}
use Rattle.lines.proofs.Turning.{start, turn_refused, ends, stops, goes, end_inside, tail_is, put_tail}
use Rattle.lines.proofs.turn.Goals as goal

pub returns-then-carry-lt-MOST_TEXT : goal.returns-then-carry-lt-MOST_TEXT
returns-then-carry-lt-MOST_TEXT c =
    let a = c.args in
    turn_refused a.held a.input.now a.carry.now a.out.now c.if-carry-lt-MOST_TEXT.true

pub loop-section-init : goal.loop-section-init
loop-section-init c =
    let a = c.args in
    (refl, start a.held a.input.now a.carry.now a.out.now)

pub returns-then-end-input : goal.returns-then-end-input
returns-then-end-input c =
    let input = c.args.input.now in
    let loop = c.loop-section in
    let line-end = c.line_end-end in
    let keep = c.keep-held in
    let tail = tail_is loop.taken input in
    let is = ends loop.invariant.1 (omega (arith, c.if-carry-lt-MOST_TEXT.false)) line-end.result line-end.ensures c.if-end-input.true in (
      ap (λ (h : Held). Ok (record { held = h; taken = line-end.result; written = loop.written })) (keep.ensures.0 ∙ ap (held_with loop.held) tail) ∙ is.0,
      keep.ensures.1 ∙ ap (carry_with loop.held loop.carry) tail ∙ is.1,
      is.2,
    )

pub slice_bounds-ended-end : goal.slice_bounds-ended-end
slice_bounds-ended-end c =
    end_inside c.args.input.now c.loop-section.taken c.line_end-end.result c.loop-section.invariant.1.place c.line_end-end.ensures

pub returns-in_default : goal.returns-in_default
returns-in_default c =
    let loop = c.loop-section in
    let line-end = c.line_end-end in
    let ended = c.ended-answer in
    let spell = c.spell in
    let tail = tail_is loop.written loop.out in
    let none = spell_refused ended.result _ _ (sym spell.ensures.0 ∙ c.in_default.is) in
    let is =
    stops loop.invariant.1 (omega (arith, c.if-carry-lt-MOST_TEXT.false)) line-end.result line-end.ensures c.if-end-input.false ended.result
    ended.ensures.0 (omega (arith, none.0, ap length tail)) in (
      is.0,
      ended.ensures.1 ∙ is.1,
      put_tail loop.written loop.out _
          ∙ ap (λ (x : List ℕ). take loop.written loop.out ++ x) (spell.ensures.1 ∙ none.1 ∙ tail)
          ∙ take-append-drop loop.written loop.out
          ∙ is.2,
    )

pub overflow_add-taken : goal.overflow_add-taken
overflow_add-taken c =
    let more : (c.line_end-end.result < length c.args.input.now) × (c.loop-section.taken ≤ c.line_end-end.result) × (c.in-Ok.n ≡ length (spelled c.ended-answer.result)) × (c.loop-section.written + c.in-Ok.n ≤ length c.loop-section.out) = let input = c.args.input.now in
    let loop = c.loop-section in
    let line-end = c.line_end-end in
    let spell = c.spell in
    let inside = end_inside input loop.taken line-end.result loop.invariant.1.place line-end.ensures in
    let counted = spell_counted c.ended-answer.result _ _ (sym spell.ensures.0 ∙ c.in-Ok.is) in
    let tail = ap length (tail_is loop.written loop.out) ∙ length-drop loop.written loop.out in (
      omega (arith, inside, c.if-end-input.false),
      omega (arith, line-end.ensures),
      counted.0,
      omega (arith, counted.1, tail, loop.invariant.1.room, loop.invariant.1.out_long),
    ) in
    omega (arith, (more).0)

pub overflow_add-written : goal.overflow_add-written
overflow_add-written c =
    let more : (c.line_end-end.result < length c.args.input.now) × (c.loop-section.taken ≤ c.line_end-end.result) × (c.in-Ok.n ≡ length (spelled c.ended-answer.result)) × (c.loop-section.written + c.in-Ok.n ≤ length c.loop-section.out) = let input = c.args.input.now in
    let loop = c.loop-section in
    let line-end = c.line_end-end in
    let spell = c.spell in
    let inside = end_inside input loop.taken line-end.result loop.invariant.1.place line-end.ensures in
    let counted = spell_counted c.ended-answer.result _ _ (sym spell.ensures.0 ∙ c.in-Ok.is) in
    let tail = ap length (tail_is loop.written loop.out) ∙ length-drop loop.written loop.out in (
      omega (arith, inside, c.if-end-input.false),
      omega (arith, line-end.ensures),
      counted.0,
      omega (arith, counted.1, tail, loop.invariant.1.room, loop.invariant.1.out_long),
    ) in
    omega (arith, (more).3)

pub loop-section-smaller : goal.loop-section-smaller
loop-section-smaller c =
    let more : (c.line_end-end.result < length c.args.input.now) × (c.loop-section.taken ≤ c.line_end-end.result) × (c.in-Ok.n ≡ length (spelled c.ended-answer.result)) × (c.loop-section.written + c.in-Ok.n ≤ length c.loop-section.out) = let input = c.args.input.now in
    let loop = c.loop-section in
    let line-end = c.line_end-end in
    let spell = c.spell in
    let inside = end_inside input loop.taken line-end.result loop.invariant.1.place line-end.ensures in
    let counted = spell_counted c.ended-answer.result _ _ (sym spell.ensures.0 ∙ c.in-Ok.is) in
    let tail = ap length (tail_is loop.written loop.out) ∙ length-drop loop.written loop.out in (
      omega (arith, inside, c.if-end-input.false),
      omega (arith, line-end.ensures),
      counted.0,
      omega (arith, counted.1, tail, loop.invariant.1.room, loop.invariant.1.out_long),
    ) in
    omega (arith, (more).0, (more).1)

pub loop-section-preserved : goal.loop-section-preserved
loop-section-preserved c =
    let loop = c.loop-section in
    let line-end = c.line_end-end in
    let ended = c.ended-answer in
    let spell = c.spell in
    let counted = spell_counted ended.result _ _ (sym spell.ensures.0 ∙ c.in-Ok.is) in
    let tail = tail_is loop.written loop.out in (
      ended.auto.section ∙ loop.invariant.0,
      goes loop.invariant.1 (omega (arith, c.if-carry-lt-MOST_TEXT.false)) line-end.result line-end.ensures c.if-end-input.false ended.result ended.ensures.0
          c.in-Ok.n counted.0 (omega (arith, counted.1, ap length tail)) _ _ ended.ensures.1 ended.auto.carry
          (put_tail loop.written loop.out _
          ∙ ap (λ (x : List ℕ). take loop.written loop.out ++ x)
          (spell.ensures.1 ∙ counted.2 ∙ ap (λ (x : List ℕ). spelled ended.result ++ drop c.in-Ok.n x) tail)),
    )
