-- `line::answer_in` meets its contract: a refusal of the text returns before the section is read.
-- Assumes nothing.
use mathlib.Core.Path.{sym, ap, ◌∙◌}
use mathlib.Core.List.{List}
use Prim.Native.Nat.{ℕ}
use native.Mathlib.Omega.{arith}
use lib.ListN.{take}
use lib.Seq.{length-take-le}
use Rattle.breaks.specs.Breaks.{break_answer}
use Rattle.line.specs.Line.{in_millis}
use Rattle.line.proofs.Answered.{refused, inside as room, answered}
use Rattle.line.proofs.answer_in.Goals as goal

pub returns-in_default : goal.returns-in_default
returns-in_default c =
    let a = c.args in
    (refused a.text.now a.section.now _ cc, c.to_section-read.ensures.1)

pub slice_bounds-break_answer-end : goal.slice_bounds-break_answer-end
slice_bounds-break_answer-end c =
    let a = c.args in
    omega (arith, room a.text.now a.section.now _ (sym c.in-Ok.ensures.0), c.to_section-read.auto.out)

pub slice_bounds-break_answer-end-2 : goal.slice_bounds-break_answer-end-2
slice_bounds-break_answer-end-2 c =
    let a = c.args in
    sym (length-take-le _ _ (omega (arith, room a.text.now a.section.now _ (sym c.in-Ok.ensures.0), c.to_section-read.auto.out)))

pub returns : goal.returns
returns c =
    let a = c.args in
    let read = c.in-Ok.ensures in
    let n : ℕ = c.in-Ok.count in (
      c.in_millis.ensures
          ∙ ap in_millis c.break_answer.ensures
          ∙ ap (λ (l : List ℕ). in_millis (break_answer (take n l))) read.1
          ∙ answered a.text.now a.section.now n (sym read.0),
      read.1,
    )
