-- `line::answer` meets its contract: each array has room for every text that is read into it.
-- Assumes nothing.
use mathlib.Core.Path.{◌∙◌}
use native.Mathlib.Omega.{arith}
use Rattle.line.specs.Line.{line_answer}
use Rattle.line.proofs.Answered.{roomy}
use Rattle.line.proofs.answer.Goals as goal

pub returns-then-text-le128 : goal.returns-then-text-le128
returns-then-text-le128 c = c.answer_in.ensures.0 ∙ roomy _ _ (omega arith) (omega arith)

pub returns-then-text-le1024 : goal.returns-then-text-le1024
returns-then-text-le1024 c = c.answer_in-then-text-le1024.ensures.0 ∙ roomy _ _ (omega arith) (omega arith)

pub returns : goal.returns
unfolding line_answer
returns c = c.answer_in-2.ensures.0
