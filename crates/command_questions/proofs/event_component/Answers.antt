-- `command_questions::event_component` meets its contract: an open section is asked, any other is refused.
-- Assumes nothing.
use borrow.Author.Rules.{rules}
use Rattle.command_questions.specs.Questions.{event_component}
use Rattle.opening.specs.First.{asked}
use Rattle.command_questions.proofs.event_component.Goals as goal

pub returns : goal.returns
unfolding event_component asked
returns c = search rules
