-- `command_questions::private_byte` meets its contract: an open section is asked, any other is refused.
-- Assumes nothing.
use borrow.Author.Rules.{rules}
use Rattle.command_questions.specs.Questions.{private_byte}
use Rattle.opening.specs.First.{asked}
use Rattle.command_questions.proofs.private_byte.Goals as goal

pub returns : goal.returns
unfolding private_byte asked
returns c = search rules
