-- `exports_house::answer_lines::timpanimist_lines` meets its contract: with no room for the three numbers no turn is taken.
-- Assumes nothing.
use mathlib.Core.Path.{ap, ◌∙◌}
use Rattle.wire.specs.Wire.{wire}
use Rattle.exports_house.specs.Turns.{held_of}
use Rattle.exports_house.proofs.Turns.{short, stays}
use Rattle.exports_house.proofs.answer_lines.timpanimist_lines.Goals as goal

pub returns-then-turn-lt3 : goal.returns-then-turn-lt3
returns-then-turn-lt3 c =
    let a = c.args in
    let few = c.if-turn-lt3.true in
    let none = short (held_of a.held) a.input.now a.carry.now a.out.now a.turn.now few in (
      c.number.ensures ∙ ap wire none.0,
      none.1,
      stays a.turn.now a.carry.now _ few,
      stays a.turn.now a.out.now _ few,
    )
