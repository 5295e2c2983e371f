-- `sheet_reading::numbers` meets its contract: past the room the fields were put in two parts.
-- Assumes nothing.
use mathlib.Core.Path.{ap, ap₂, ◌∙◌}
use mathlib.Core.List.{List, ◌++◌}
use Prim.Native.Nat.{ℕ, ◌-◌}
use native.Mathlib.Omega.{arith}
use lib.ListN.{drop}
use borrow.Rule.Slice.PartMut.{put_mid}
use Rattle.std.specs.Prelude.{Ok}
use Rattle.sheet_reading.proofs.Plans.{sheet_put}
use Rattle.sheet_reading.proofs.SheetRows.{no_room, sheet_written}
use Rattle.sheet_reading.proofs.numbers.Goals as goal

pub returns-then-out-n : goal.returns-then-out-n
returns-then-out-n c = no_room c.args.section.now c.args.out.now c.requires.0 (omega (arith, c.lay_out-n.ensures.number, c.if-out-n.true))

pub returns : goal.returns
returns c =
    let out = c.args.out.now in
    let laid = c.lay_out-n.ensures in
    let n : ℕ = c.lay_out-n.result in
    let written = sheet_written c.args.section.now out c.requires.0 (omega (arith, laid.number, c.if-out-n.false)) in (
      ap Ok laid.number ∙ written.0,
      ap₂ (λ (a b : List ℕ). put_mid 4 (n - 4) (a ++ drop 4 out) b) c.read_fields.ensures c.read_fields-2.ensures
          ∙ sheet_put c.args.section.now c.args.widths.now out (omega (arith, laid.enough, laid.inside)) laid
          ∙ written.1,
    )
