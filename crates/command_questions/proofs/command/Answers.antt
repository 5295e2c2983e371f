-- `command_questions::command` meets its contract: an open section is asked, any other is refused.
-- Assumes nothing.
use borrow.Author.Rules.{rules}
use Rattle.command_questions.specs.Questions.{command}
use Rattle.opening.specs.First.{asked}
use Rattle.command_questions.proofs.command.Goals as goal

pub returns : goal.returns
unfolding command asked
returns c = search rules
