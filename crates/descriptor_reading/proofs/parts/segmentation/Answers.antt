-- `descriptor_reading::parts::segmentation` meets its contract: the id alone, or all that an uncancelled descriptor says.
-- Assumes nothing.
use mathlib.Core.Path.{sym, ap, ◌∙◌}
use Prim.Native.Nat.{ℕ, ◌*◌}
use native.Mathlib.Omega.{arith}
use Rattle.units.specs.Clock.{event_id}
use Rattle.bits.proofs.Fields.{field_lt}
use Rattle.descriptor_reading.specs.declared.answers.Descriptor.{Descriptor}
use Rattle.descriptor_reading.specs.Places.{segmentation_at}
use Rattle.descriptor_reading.proofs.parts.segmentation.Goals as goal

pub overflow_cast-result : goal.overflow_cast-result
overflow_cast-result c =
    let a = c.args in
    omega (arith, c.quad.ensures, field_lt a.s.now (8 * a.at) 32)

pub returns-then-flag : goal.returns-then-flag
unfolding segmentation_at
returns-then-flag c =
    rw (sym c.flag.ensures ∙ c.if-flag.true) (ap (λ (x : ℕ). Descriptor.CancelledSegmentation (event_id x)) c.quad.ensures)

pub returns : goal.returns
unfolding segmentation_at
returns c =
    rw (sym c.flag.ensures ∙ c.if-flag.false) (ap Descriptor.Segmentation c.uncancelled.ensures)
