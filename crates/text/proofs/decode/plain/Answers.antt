-- `text::decode::plain` meets its contract: its test is the definition's. Assumes nothing.
use borrow.Author.Tests.{lt-ltb, le-ltb}
use Rattle.text.specs.Groups.{plain}
use Rattle.text.proofs.decode.plain.Goals as goal

pub returns-then-i-n : goal.returns-then-i-n
unfolding plain
returns-then-i-n c = rw (lt-ltb _ _ c.if-i-n.true)

pub returns-else-i-n : goal.returns-else-i-n
unfolding plain
returns-else-i-n c = rw (le-ltb _ _ c.if-i-n.false)
