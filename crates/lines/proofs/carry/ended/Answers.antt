-- `lines::carry::ended` meets its contract, by what is held.
-- Assumes nothing.
use mathlib.Core.Path.{◌≡◌, sym, ap, ◌∙◌}
use Rattle.line.specs.Line.{answer_in}
use Rattle.lines.specs.declared.answers.Held.{Held}
use Rattle.lines.specs.Turns as says
use Rattle.lines.specs.Turns.{ended}
use Rattle.lines.proofs.Holding.{ended_whole, carry_whole, carry_joined}
use Rattle.lines.proofs.carry.ended.Goals as goal

pub returns-then-n-eq0 : goal.returns-then-n-eq0
returns-then-n-eq0 c =
    let a = c.args in
    let none : a.held ≡ Held.Characters 0 = c.in-Characters.is ∙ ap Held.Characters c.if-n-eq0.true in (
      c.answer_in.ensures.0
          ∙ ap (answer_in a.part.now) c.requires.1
          ∙ ended_whole a.held a.carry.now a.part.now none,
      carry_whole a.held a.carry.now a.part.now none,
    )

pub returns-else-n-eq0 : goal.returns-else-n-eq0
returns-else-n-eq0 c =
    let a = c.args in
    let joined = c.joined in (
      joined.ensures.0 ∙ ap (λ (h : Held). says.ended h a.carry.now a.part.now) (sym c.in-Characters.is),
      joined.ensures.1 ∙ carry_joined a.held c.in-Characters.n a.carry.now a.part.now c.in-Characters.is c.if-n-eq0.false,
    )

pub returns-in-TooLong : goal.returns-in-TooLong
unfolding ended
returns-in-TooLong c =
    let a = c.args in
    let long : Held.TooLong ≡ a.held = sym c.in-TooLong.is in (
      ap (λ (h : Held). says.ended h a.carry.now a.part.now) long,
      ap (λ (h : Held). says.carry_ended h a.carry.now a.part.now) long,
    )
