-- `bits::pair` meets its contract: two bytes make 16 bits, and outside the bytes the field is 0.
-- Assumes nothing.
use mathlib.Core.Path.{sym}
use Prim.Native.Nat.{◌*◌}
use native.Mathlib.Omega.{arith}
use lib.Dec.{lit≤}
use Rattle.bit_fields.proofs.Bytes.{num_pair}
use Rattle.bit_fields.proofs.Within.{past_end, field_out, field_there}
use Rattle.bits.proofs.pair.Goals as goal

pub returns-then-s-lt2 : goal.returns-then-s-lt2
returns-then-s-lt2 c =
    let a = c.args in
    sym (field_out a.s.now (8 * a.i) 16 (past_end a.s.now (8 * a.i) 16 (omega arith) (omega arith)))

pub returns-then-s-i : goal.returns-then-s-i
returns-then-s-i c =
    let a = c.args in
    sym (field_out a.s.now (8 * a.i) 16 (past_end a.s.now (8 * a.i) 16 (omega arith) (omega arith)))

pub returns : goal.returns
returns c =
    let s = c.args.s.now in
    let i = c.args.i in
    omega (arith, num_pair s (λ k. (c.type_inv.s k).fits) i, field_there s (8 * i) 16 (lit≤ tt) (omega arith))
