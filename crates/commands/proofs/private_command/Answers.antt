-- `commands::private_command` meets its contract: the identifier, then bytes to the end.
-- Assumes nothing.
use mathlib.Core.Path.{◌≡◌}
use Prim.Native.Nat.{◌+◌, ◌-◌, ◌*◌}
use native.Mathlib.Omega.{arith}
use Rattle.bits.specs.Bits.{bit}
use Rattle.grammar.specs.Tables.{private_command}
use Rattle.grammar.proofs.Run.{pass, short, filled_last, swept_bytes}
use Rattle.commands.proofs.private_command.Goals as goal

pub returns-in_err-after : goal.returns-in_err-after
unfolding private_command
returns-in_err-after c env = rw c.from_residual.ensures (short (omega (arith, c.in_err-after.ensures.too_few)))

pub returns : goal.returns
unfolding private_command
returns c env =
    let a = c.args.part in
    let identifier = c.in_ok-after.ensures.there in
    let there : 8 * a.at + 32 + 8 * (a.end - (a.at + 4)) ≡ 8 * a.end = omega (arith, identifier.0, identifier.1) in
    pass (omega (arith, identifier.0, identifier.1)) (filled_last (swept_bytes "private_byte" _ (bit a.s.now) (8 * a.end) (a.end - (a.at + 4)) (8 * a.at + 32) there))
