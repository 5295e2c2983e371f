-- `lines::last_line` meets its contract, by what is held.
-- Assumes nothing.
use mathlib.Core.Path.{sym, ap, ◌∙◌}
use native.Mathlib.Omega.{arith}
use lib.Seq.{length-take-le}
use Rattle.units.specs.declared.refusals.Refusal.TheVariants.{TextLen}
use Rattle.spelling.specs.declared.Line.{Line}
use Rattle.spelling.specs.Spelling.{spelled}
use Rattle.lines.specs.declared.answers.Held.{Held}
use Rattle.lines.proofs.Holding.{last_refused, last_none, last_spelled, last_held, last_long, last_too_long}
use Rattle.lines.proofs.last_line.Goals as goal

pub returns-then-carry-lt-MOST_TEXT : goal.returns-then-carry-lt-MOST_TEXT
returns-then-carry-lt-MOST_TEXT c =
    let a = c.args in
    last_refused a.held a.carry.now a.out.now c.if-carry-lt-MOST_TEXT.true

pub returns-then-n-eq0 : goal.returns-then-n-eq0
returns-then-n-eq0 c =
    let a = c.args in
    last_none a.held a.carry.now a.out.now (omega (arith, c.if-carry-lt-MOST_TEXT.false)) (c.in-Characters.is ∙ ap Held.Characters c.if-n-eq0.true)

pub slice_bounds-answer-end : goal.slice_bounds-answer-end
slice_bounds-answer-end c = sym (length-take-le _ _ (omega arith))

pub returns-then-n-le-MOST_TEXT : goal.returns-then-n-le-MOST_TEXT
returns-then-n-le-MOST_TEXT c =
    let a = c.args in
    let spell = c.spell in
    let last =
    last_spelled a.held a.carry.now a.out.now c.answer.result (omega (arith, c.if-carry-lt-MOST_TEXT.false))
    (ap spelled c.answer.ensures ∙ last_held a.held a.carry.now c.in-Characters.n c.in-Characters.is c.if-n-eq0.false (omega arith)) in
    (spell.ensures.0 ∙ last.0, spell.ensures.1 ∙ last.1)

pub returns-else-n-le-MOST_TEXT : goal.returns-else-n-le-MOST_TEXT
returns-else-n-le-MOST_TEXT c =
    let a = c.args in
    let spell = c.spell-else-n-le-MOST_TEXT in
    let last = last_spelled a.held a.carry.now a.out.now (Line.Refused TextLen) (omega (arith, c.if-carry-lt-MOST_TEXT.false)) (last_long a.held a.carry.now _ c.in-Characters.is (omega arith)) in
    (spell.ensures.0 ∙ last.0, spell.ensures.1 ∙ last.1)

pub returns-in-TooLong : goal.returns-in-TooLong
returns-in-TooLong c =
    let a = c.args in
    let spell = c.spell-in-TooLong in
    let last = last_spelled a.held a.carry.now a.out.now (Line.Refused TextLen) (omega (arith, c.if-carry-lt-MOST_TEXT.false)) (last_too_long a.held a.carry.now c.in-TooLong.is) in
    (spell.ensures.0 ∙ last.0, spell.ensures.1 ∙ last.1)
