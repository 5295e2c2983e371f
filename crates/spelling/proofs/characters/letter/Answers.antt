-- `spelling::characters::letter` meets its contract.
-- Assumes nothing.
use native.Mathlib.Omega.{arith}
use lib.ListN.{length-set}
use Rattle.spelling.proofs.characters.letter.Goals as goal

pub bounds-characters-1 : goal.bounds-characters-1
bounds-characters-1 c = omega (arith, length-set c.args.characters.now 0 c.args.letter)
