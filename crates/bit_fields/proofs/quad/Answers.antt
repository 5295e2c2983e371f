-- `bit_fields::quad` meets its contract: four bytes make 32 bits, and outside the bytes the field is 0.
-- Assumes nothing.
use mathlib.Core.Path.{sym, ◌∙◌}
use native.Mathlib.Omega.{arith}
use lib.ListN.{length}
use Prim.Native.Nat.{◌+◌, ◌*◌, ◌≤◌}
use Rattle.bit_fields.proofs.Within.{past_end, field_out, field_there}
use Rattle.bit_fields.proofs.quad.Goals as goal

pub returns-then-s-lt4 : goal.returns-then-s-lt4
returns-then-s-lt4 c =
    let a = c.args in
    sym (field_out a.s.now (8 * a.i) 32 (past_end a.s.now (8 * a.i) 32 (omega arith) (omega arith)))

pub returns-then-s-i : goal.returns-then-s-i
returns-then-s-i c =
    let a = c.args in
    sym (field_out a.s.now (8 * a.i) 32 (past_end a.s.now (8 * a.i) 32 (omega arith) (omega arith)))

pub returns : goal.returns
returns c =
    let a = c.args in
    let inside : 8 * a.i + 32 ≤ 8 * length a.s.now = omega arith in
    c.half.ensures.0
    ∙ sym (field_there a.s.now (8 * a.i) 32 (omega arith) inside)
