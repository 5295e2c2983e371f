-- `text::to_section` meets its contract: row 12 is told by the length, and either memory has room for three bytes a group.
-- Assumes nothing.
use native.Mathlib.Omega.{arith}
use Rattle.text.proofs.Rows.{reads_as, row_uneven, row_long}
use Rattle.text.proofs.to_section.Goals as goal

pub returns-then-n-ne0 : goal.returns-then-n-ne0
returns-then-n-ne0 c =
    let start = c.args in
    reads_as start.text.now start.out.now 12 (row_uneven start.text.now _ c.if-n-ne0.true)

pub returns-then-n-gt-MOST_TEXT : goal.returns-then-n-gt-MOST_TEXT
returns-then-n-gt-MOST_TEXT c =
    let start = c.args in
    reads_as start.text.now start.out.now 12 (row_long start.text.now _ (omega arith))
