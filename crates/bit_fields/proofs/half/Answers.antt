-- `bit_fields::half` meets its contract: four bytes make 32 bits.
-- Assumes nothing.
use native.Mathlib.Omega.{arith}
use Rattle.bit_fields.proofs.Bytes.{num_word}
use Rattle.bit_fields.proofs.half.Goals as goal

pub returns : goal.returns
returns c = (
  omega (arith, num_word c.args.s.now (λ k. (c.type_inv.s k).fits) c.args.i),
  omega arith,
)
