-- `breaks::break_answer` meets its contract.
-- Assumes nothing.
use mathlib.Core.Path.{sym, ◌∙◌}
use Rattle.opening.proofs.Asked.{is_open, when_open, when_refused}
use Rattle.breaks.specs.Breaks.{break_answer}
use Rattle.breaks.proofs.break_answer.Goals as goal

pub open_break-requires : goal.open_break-requires
open_break-requires c = is_open c.args.section.now _ (sym c.in-Ok.ensures)

pub returns-in-Ok : goal.returns-in-Ok
unfolding break_answer
returns-in-Ok c = c.open_break.ensures ∙ sym (when_open _ _ _ (sym c.in-Ok.ensures))

pub returns-in-Err : goal.returns-in-Err
unfolding break_answer
returns-in-Err c = c.refused_break.ensures ∙ sym (when_refused _ _ _ (sym c.in-Err.ensures))
