-- `command_questions::insert_component` meets its contract: an open section is asked, any other is refused.
-- Assumes nothing.
use borrow.Author.Rules.{rules}
use Rattle.command_questions.specs.Questions.{insert_component}
use Rattle.opening.specs.First.{asked}
use Rattle.command_questions.proofs.insert_component.Goals as goal

pub returns : goal.returns
unfolding insert_component asked
returns c = search rules
