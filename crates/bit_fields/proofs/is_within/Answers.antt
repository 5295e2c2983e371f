-- `bit_fields::is_within` meets its contract: the bytes that a field touches are there exactly when its last bit is.
-- Assumes nothing.
use mathlib.Core.Path.{sym, ◌∙◌}
use Prim.Native.Nat.{◌+◌, ◌-◌, ◌*◌, ◌/◌, ◌%◌}
use native.Mathlib.Omega.{arith}
use lib.ListN.{length}
use Rattle.bit_fields.proofs.Cases.{same_leb}
use Rattle.bit_fields.proofs.Within.{too_wide, past_end, narrow}
use Rattle.bit_fields.proofs.is_within.Goals as goal

pub returns-then-width-gt48 : goal.returns-then-width-gt48
returns-then-width-gt48 c = sym (too_wide c.args.s.now c.args.at c.args.width (omega arith))

pub returns-then-first-s : goal.returns-then-first-s
returns-then-first-s c =
    let a = c.args in
    sym (past_end a.s.now a.at a.width (omega arith) (omega arith))

pub returns : goal.returns
returns c =
    let a = c.args in
    same_leb ((a.at % 8 + a.width + 7) / 8) (length a.s.now - a.at / 8) (a.at + a.width) (8 * length a.s.now) (λ h. omega arith) (λ h. omega arith)
    ∙ sym (narrow a.s.now a.at a.width (omega arith))
