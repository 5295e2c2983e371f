-- `commands::splice_time` meets its contract: one byte, or five where the flag says that a time is given.
-- Assumes nothing.
use Prim.Native.Nat.{◌*◌, ◌<◌}
use lib.ListN.{get_or}
use Rattle.std.proofs.Common.{rules}
use native.Mathlib.Omega.{arith}
use Rattle.grammar.specs.Tables.{splice_time}
use Rattle.grammar.proofs.Ending.{last_rows}
use Rattle.grammar.proofs.Run.{pass, short, yes_last, no_last, finished}
use Rattle.grammar.proofs.Places.{flag_test}
use Rattle.commands.proofs.splice_time.Goals as goal

pub returns-in_err-next : goal.returns-in_err-next
unfolding splice_time
returns-in_err-next c env = rw c.from_residual.ensures (short (omega (arith, c.in_err-next.ensures.too_few)))

pub returns-then-part-lt128 : goal.returns-then-part-lt128
unfolding splice_time
returns-then-part-lt128 c env =
    let a = c.args.part in
    let next = c.in_ok-next.ensures.there in
    pass (omega (arith, next.0, next.1))
    (no_last (flag_test a.s.now a.at 0 (8 * a.at) 0 1 (omega arith) (omega arith) (omega arith)) (pass (omega (arith, next.0, next.1)) (finished (omega (arith, next.0)))))

pub returns : goal.returns
unfolding splice_time
returns c env =
    let a = c.args.part in
    let next = c.in_ok-next.ensures.there in
    pass (omega (arith, next.0, next.1))
    (yes_last (flag_test a.s.now a.at 0 (8 * a.at) 1 1 (omega arith) (omega arith) (let h : get_or a.s.now a.at 0 < 256 = search rules in omega (arith, h)))
    (last_rows a.at a.end 5 c.after-2.result c.after-2.ensures.there c.after-2.ensures.too_few (omega arith)))
