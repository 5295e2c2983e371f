-- `lines::carry::joined` meets its contract: the line is answered where it stands in the carry buffer.
-- Assumes nothing.
use mathlib.Core.Path.{sym, ap, ◌∙◌}
use Prim.Native.Nat.{◌≤◌}
use native.Mathlib.Omega.{arith}
use lib.ListN.{length, take}
use lib.Seq.{length-take-le}
use Rattle.line.specs.Line.{answer_in}
use Rattle.lines.specs.declared.answers.Held.{Held}
use Rattle.lines.proofs.Holding.{held_most, ended_at, ended_long}
use Rattle.lines.proofs.carry.joined.Goals as goal

pub slice_bounds-answer_in-end : goal.slice_bounds-answer_in-end
slice_bounds-answer_in-end c =
    let inside : c.in-Characters.end ≤ length c.keep.new.carry = let a = c.args in
    let keep = c.keep in
    omega
    (arith, held_most (Held.Characters a.n) a.part.now _ (sym keep.ensures.0 ∙ c.in-Characters.is), keep.auto.carry, c.requires.0) in
    inside

pub slice_bounds-answer_in-end-in-Characters : goal.slice_bounds-answer_in-end-in-Characters
slice_bounds-answer_in-end-in-Characters c =
    let inside : c.in-Characters.end ≤ length c.keep.new.carry = let a = c.args in
    let keep = c.keep in
    omega
    (arith, held_most (Held.Characters a.n) a.part.now _ (sym keep.ensures.0 ∙ c.in-Characters.is), keep.auto.carry, c.requires.0) in
    sym (length-take-le _ _ (inside))

pub returns-in-Characters : goal.returns-in-Characters
returns-in-Characters c =
    let a = c.args in
    let keep = c.keep in
    let answer-in = c.answer_in in (
      answer-in.ensures.0
          ∙ ap (answer_in (take c.in-Characters.end keep.new.carry)) c.requires.1
          ∙ ended_at (Held.Characters a.n) a.carry.now a.part.now c.in-Characters.end _ (sym keep.ensures.0 ∙ c.in-Characters.is) keep.ensures.1,
      keep.ensures.1,
    )

pub returns-in-TooLong : goal.returns-in-TooLong
returns-in-TooLong c =
    let a = c.args in
    let keep = c.keep in (
      ended_long (Held.Characters a.n) a.carry.now a.part.now (sym keep.ensures.0 ∙ c.in-TooLong.is),
      keep.ensures.1,
    )
