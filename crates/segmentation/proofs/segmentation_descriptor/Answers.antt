-- `segmentation::segmentation_descriptor` meets its contract.
-- Assumes nothing.
use mathlib.Core.Path.{sym, ◌∙◌}
use mathlib.Core.List.{[]}
use Rattle.segmentation.proofs.Ends.{crossed, too_long, in_bytes}
use Rattle.segmentation.proofs.segmentation_descriptor.Goals as goal

pub returns-then-end-at : goal.returns-then-end-at
returns-then-end-at c =
    let a = c.args in
    sym (crossed a.s.now a.at a.end c.if-end-at.true)

pub returns-then-s-end : goal.returns-then-s-end
returns-then-s-end c =
    let a = c.args in
    sym (too_long a.s.now a.at a.end c.if-end-at.false c.if-s-end.true)

pub returns : goal.returns
returns c =
    let a = c.args in
    sym (in_bytes a.s.now a.at a.end c.if-end-at.false c.if-s-end.false ∙ (c.descriptor.ensures []).runs)
