-- `crc::crc` meets its contract: no byte leaves the register as it starts. Assumes nothing.
use mathlib.Core.Path.{◌≡◌, ap}
use Prim.Native.Nat.{ℕ, ◌*◌}
use native.Mathlib.Omega.{arith}
use lib.ListN.{length}
use Rattle.bits.specs.Bits.{bit}
use Rattle.crc.specs.Crc.{register, crc32}
use Rattle.crc.proofs.crc.Goals as goal

pub returns-then-s-eq0 : goal.returns-then-s-eq0
unfolding crc32 register
returns-then-s-eq0 c =
    let s = c.args.s.now in
    let none : 0 ≡ length s = omega arith in
    ap (λ (n : ℕ). register (bit s) (8 * n)) none
