-- `segmentation_reading::duration` meets its contract: 40 bits after the components, where the flag is set.
-- Assumes nothing.
use native.Mathlib.Omega.{arith}
use Rattle.segmentation_reading.proofs.Room.{after_room}
use Rattle.segmentation_reading.proofs.duration.Goals as goal

pub overflow_mul-after_components : goal.overflow_mul-after_components
overflow_mul-after_components c =
    let a = c.args in
    omega (arith, c.after_components.ensures, after_room a.s.now a.at)
