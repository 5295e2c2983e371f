-- `sheet_matching::same_sheet` meets its contract: the count first, and then the numbers before and after section_length.
-- Assumes nothing.
use mathlib.Core.Path.{sym, ap, ◌∙◌}
use mathlib.Core.Bool.{Bool, ◌&&◌, false≢true}
use Prim.Native.Nat.{◌-◌}
use native.Mathlib.Omega.{arith}
use lib.ListN.{length, take, drop}
use borrow.Author.Tests.{ne_eqb}
use Rattle.bits.specs.Bits.{read_all}
use Rattle.sheet_matching.specs.Matching.{same}
use Rattle.sheet_matching.proofs.Same.{other_count, two_parts}
use Rattle.sheet_matching.proofs.same_sheet.Goals as goal
use Rattle.sheet_matching.proofs.same_sheet.Goals.{then-n-sheet, else-n-sheet}

pub returns-then-same_fields : goal.returns-then-same_fields
returns-then-same_fields c =
    let s = c.args.section.now in
    let x = c.args.sheet.now in
    let laid = c.lay_out-n.ensures in
    let last : Bool = same (read_all s 24 (take (c.lay_out-n.result - 4) (drop 4 c.lay_out-n.new.widths))) (take (length x - 4) (drop 4 x)) in
    elim c.if-n-sheet.branch [
      | then-n-sheet w ↦
          c.same_fields-then-same_fields.ensures
          ∙ sym
          (two_parts x s c.args.widths.now c.requires.0 laid (omega (arith, laid.enough, laid.inside)) w.if-n-sheet.true
          ∙ ap (λ (t : Bool). t && last) (sym w.same_fields.ensures ∙ sym w.value-is ∙ c.if-same_fields.true))
      | else-n-sheet w ↦ absurd (false≢true (sym (w.value-is ∙ ne_eqb _ _ w.if-n-sheet.false) ∙ c.if-same_fields.true))
    ]

pub returns-else-same_fields : goal.returns-else-same_fields
returns-else-same_fields c =
    let s = c.args.section.now in
    let x = c.args.sheet.now in
    let laid = c.lay_out-n.ensures in
    let last : Bool = same (read_all s 24 (take (c.lay_out-n.result - 4) (drop 4 c.lay_out-n.new.widths))) (take (length x - 4) (drop 4 x)) in
    elim c.if-n-sheet.branch [
      | then-n-sheet w ↦
          c.if-same_fields.false
          ∙ sym
          (two_parts x s c.args.widths.now c.requires.0 laid (omega (arith, laid.enough, laid.inside)) w.if-n-sheet.true
          ∙ ap (λ (t : Bool). t && last) (sym w.same_fields.ensures ∙ sym w.value-is ∙ c.if-same_fields.false))
      | else-n-sheet w ↦ w.value-is ∙ ne_eqb _ _ w.if-n-sheet.false ∙ sym (other_count x s c.requires.0 (λ e. w.if-n-sheet.false (laid.number ∙ e)))
    ]
