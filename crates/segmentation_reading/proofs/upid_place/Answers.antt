-- `segmentation_reading::upid_place` meets its contract: after the components, and five bytes on where there is a duration.
-- Assumes nothing.
use mathlib.Core.Path.{sym, ◌∙◌}
use native.Mathlib.Omega.{arith}
use Rattle.segmentation_reading.specs.Places.{upid_place}
use Rattle.segmentation_reading.proofs.Room.{after_room}
use Rattle.segmentation_reading.proofs.upid_place.Goals as goal

pub overflow_add-result : goal.overflow_add-result
overflow_add-result c =
    let a = c.args in
    omega (arith, c.after_components-after.ensures, after_room a.s.now a.at)

pub returns-then-flag : goal.returns-then-flag
unfolding upid_place
returns-then-flag c = rw (sym c.flag.ensures ∙ c.if-flag.true) (omega (arith, c.after_components-after.ensures))

pub returns-else-flag : goal.returns-else-flag
unfolding upid_place
returns-else-flag c = rw (sym c.flag.ensures ∙ c.if-flag.false) c.after_components-after.ensures
