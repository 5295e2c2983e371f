-- `segmentation_numbers::give_segmentation` meets its contract: the numbers stand in front of a list that has room for them.
-- Assumes nothing.
use mathlib.Core.Path.{ap}
use Rattle.wire.specs.Given.{these}
use Rattle.wire.proofs.Placed.{front}
use Rattle.wire.proofs.Given.{given_as}
use Rattle.segmentation_numbers.proofs.Short.{segmentation_short}
use Rattle.segmentation_numbers.proofs.give_segmentation.Goals as goal

pub returns : goal.returns
returns c = given_as _ (ap these (front c.segmentation-n.ensures (segmentation_short c.args.segmentation))) c.give.ensures
