-- `sheet::compose` meets its contract: what each call ensures, put one into another.
-- Assumes nothing.
use mathlib.Core.Path.{◌≡◌, sym, ap, ◌∙◌}
use mathlib.Core.List.{List}
use Prim.Native.Nat.{ℕ, ◌-◌, ◌*◌}
use native.Mathlib.Omega.{arith}
use lib.ListN.{length}
use lib.Seq.{length-take-le}
use Rattle.bits.specs.Bits.{written_of, write_all}
use Rattle.sheet.specs.Sheet.{fields_between, filled, summed}
use Rattle.sheet.proofs.compose.Goals as goal

pub slice_bounds-crc-length : goal.slice_bounds-crc-length
slice_bounds-crc-length c = sym (length-take-le _ c.write_fields-2.new.section (omega arith))

pub returns : goal.returns
unfolding filled summed
returns c =
    let a = c.args in
    let fields : ℕ → ℕ → List (ℕ × ℕ) = λ i n. fields_between i n a.widths.now a.sheet.now in
    let whole : c.write_fields-2.new.section ≡ filled a.sheet.now a.n a.widths.now a.memory.now =
    c.write_fields-2.ensures
    ∙ ap (λ (l : List ℕ). write_all l 24 (fields 4 (length a.sheet.now)))
    (c.write.ensures.1 ∙ ap (λ (l : List ℕ). written_of l 12 12 (a.n - 3)) c.write_fields.ensures) in
    c.write-2.ensures.1
    ∙ ap (λ (v : ℕ). written_of c.write_fields-2.new.section (8 * (a.n - 4)) 32 v) (c.from.ensures ∙ c.crc-sum.ensures)
    ∙ ap (summed a.n) whole
