-- `crc::first` meets its contract: the first bytes are cut out of eight. Assumes nothing.
use mathlib.Core.Path.{ap, ◌∙◌}
use Prim.Native.Nat.{◌-◌, ◌*◌, ◌/◌, ◌^◌}
use lib.Bits.{bit_xor, xor_shr}
use Rattle.crc.proofs.Begun.{beside}
use Rattle.crc.proofs.first.Goals as goal

pub returns : goal.returns
returns c =
    let a = c.args in
    xor_shr a.front 0xFFFFFFFF00000000 (56 - 8 * a.m) ∙ ap (bit_xor (a.front / 2 ^ (56 - 8 * a.m))) (beside a.m c.requires)
