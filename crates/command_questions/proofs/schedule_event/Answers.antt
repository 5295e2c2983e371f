-- `command_questions::schedule_event` meets its contract: an open section is asked, any other is refused.
-- Assumes nothing.
use borrow.Author.Rules.{rules}
use Rattle.command_questions.specs.Questions.{schedule_event}
use Rattle.opening.specs.First.{asked}
use Rattle.command_questions.proofs.schedule_event.Goals as goal

pub returns : goal.returns
unfolding schedule_event asked
returns c = search rules
