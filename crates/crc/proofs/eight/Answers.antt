-- `crc::eight` meets its contract: eight bytes make the number that their bits make. Assumes nothing.
use native.Mathlib.Omega.{arith}
use Rattle.crc.proofs.Gathered.{num_eight}
use Rattle.crc.proofs.eight.Goals as goal

pub returns : goal.returns
returns c = omega (arith, num_eight c.args.s.now (λ k. (c.type_inv.s k).fits))
