-- `descriptors::identifier` meets its contract: the four bytes are there.
-- Assumes nothing.
use mathlib.Core.Path.{◌∙◌}
use Prim.Native.Nat.{◌*◌}
use native.Mathlib.Omega.{arith}
use Rattle.bits.proofs.Within.{field_there}
use Rattle.descriptors.proofs.identifier.Goals as goal

pub returns : goal.returns
returns c =
    let a = c.args in
    let s = a.s.now in
    c.quad.ensures ∙ field_there s (8 * a.at) 32 (omega arith) (omega arith)
