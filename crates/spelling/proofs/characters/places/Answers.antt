-- `spelling::characters::places` meets its contract: the logarithm is one less than the digits, and 0 is written as 1 is.
-- Assumes nothing.
use native.Mathlib.Omega.{arith}
use Rattle.spelling.proofs.Digits.{how_many}
use Rattle.spelling.proofs.characters.places.Goals as goal

pub returns : goal.returns
returns c =
    how_many 20 c.ilog10.result c.args.n c.ilog10.ensures.bound (omega (arith, c.max.ensures, c.ilog10.ensures.power_le)) (omega (arith, c.max.ensures, c.ilog10.ensures.next_power_gt))
