-- `text_writing::to_text` meets its contract: each refusal is that of the first row that applies, and past them `put` wrote the text.
-- Assumes nothing.
use mathlib.Core.Path.{◌≡◌, ap, ◌∙◌}
use native.Mathlib.Omega.{arith}
use Rattle.std.specs.Prelude.{Ok}
use Rattle.base64_rules.specs.Base64.{text_length}
use Rattle.text_writing.proofs.WriteRows.{writes_as, row_size, row_no_room, row_written}
use Rattle.text_writing.proofs.to_text.Goals as goal
use Rattle.text_writing.proofs.to_text.Goals.{then-left-gt0, else-left-gt0}

pub returns-then-n-gt-MOST_SECTION : goal.returns-then-n-gt-MOST_SECTION
returns-then-n-gt-MOST_SECTION c =
    let start = c.args in
    writes_as start.section.now start.out.now 4 (row_size start.section.now _ c.if-n-gt-MOST_SECTION.true)

pub returns-then-out-count : goal.returns-then-out-count
unfolding text_length
returns-then-out-count c =
    let counted : c.if-left-gt0.count ≡ text_length c.args.section.now =
    elim c.if-left-gt0.branch [ then-left-gt0 w ↦ omega arith | else-left-gt0 w ↦ omega arith ] in
    let start = c.args in
    writes_as start.section.now start.out.now 11
    (row_no_room start.section.now _ (omega arith) (omega (arith, counted)))

pub put-requires : goal.put-requires
unfolding text_length
put-requires c =
    let counted : c.if-left-gt0.count ≡ text_length c.args.section.now =
    elim c.if-left-gt0.branch [ then-left-gt0 w ↦ omega arith | else-left-gt0 w ↦ omega arith ] in
    (omega arith, omega arith, omega (arith, counted))

pub returns : goal.returns
unfolding text_length
returns c =
    let counted : c.if-left-gt0.count ≡ text_length c.args.section.now =
    elim c.if-left-gt0.branch [ then-left-gt0 w ↦ omega arith | else-left-gt0 w ↦ omega arith ] in
    let start = c.args in
    let done =
    writes_as start.section.now start.out.now 0
    (row_written start.section.now _ (omega arith) (omega (arith, counted))) in
    (ap Ok counted ∙ done.0, c.put.ensures ∙ done.1)
