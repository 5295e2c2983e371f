-- `segmentation_reading::delivery` meets its contract: the flag, and the four restrictions behind it.
-- Assumes nothing.
use native.Mathlib.Omega.{arith}
use Prim.Native.Nat.{◌+◌, ◌*◌}
use Rattle.bits.proofs.Fields.{field_lt}
use Rattle.segmentation_reading.proofs.delivery.Goals as goal

pub overflow_cast-result : goal.overflow_cast-result
overflow_cast-result c =
    let a = c.args in
    omega (arith, c.read.ensures, field_lt a.s.now (8 * (a.at + 5) + 6) 2)
