-- `sheet_matching::is_sheet_of` meets its contract: a refused section has no sheet, and an accepted one has memory for its fields.
-- Assumes nothing.
use mathlib.Core.Path.{sym}
use native.Mathlib.Omega.{arith}
use Rattle.section.proofs.Accepted.{accepted}
use Rattle.sheet_matching.proofs.Same.{refused_first, not_refused}
use Rattle.sheet_matching.proofs.is_sheet_of.Goals as goal

pub returns-then-is_err : goal.returns-then-is_err
returns-then-is_err c = sym (refused_first _ _ _ c.accept.ensures (sym c.if-is_err.ensures.value))

pub same_sheet-requires : goal.same_sheet-requires
same_sheet-requires c =
    let e = not_refused c.accept.ensures (sym c.if-is_err.ensures.value) in
    (e, omega (arith, c.if-section-le256.true, (accepted _ e).fits), omega arith)

pub same_sheet-requires-2 : goal.same_sheet-requires-2
same_sheet-requires-2 c =
    let e = not_refused c.accept.ensures (sym c.if-is_err.ensures.value) in
    (e, omega (arith, c.if-section-le256.false, (accepted _ e).fits), omega arith)
