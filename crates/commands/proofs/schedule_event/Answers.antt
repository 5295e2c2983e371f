-- `commands::schedule_event` meets its contract: a cancelled event ends after its id; any other goes on by its flags.
-- Assumes nothing.
use mathlib.Core.Path.{◌≡◌, refl}
use mathlib.Core.List.{[], ◌∷◌}
use Prim.Native.Nat.{◌+◌, ◌*◌, ◌<◌}
use native.Mathlib.Omega.{arith}
use lib.ListN.{get_or}
use Rattle.std.proofs.Common.{rules}
use Rattle.bits.specs.Bits.{bit}
use Rattle.grammar.specs.Tables.{schedule_event, schedule_times}
use Rattle.grammar.proofs.Run.{pass, short, called, called_last, at_place}
use Rattle.grammar.proofs.Places.{flag}
use Rattle.grammar.proofs.Within.{byte_within}
use Rattle.commands.proofs.Events.{cancelled, going_on}
use Rattle.commands.proofs.schedule_event.Goals as goal

pub returns-in_err-id : goal.returns-in_err-id
unfolding schedule_event
returns-in_err-id c env = rw c.from_residual.ensures (short (omega (arith, c.in_err-id.ensures.too_few)))

pub returns-then-s-at-ge128 : goal.returns-then-s-at-ge128
unfolding schedule_event
returns-then-s-at-ge128 c env =
    let a = c.args.part in
    let id = c.in_ok-id.ensures.there in
    let byte : get_or a.s.now (a.at + 4) 0 < 256 = search rules in
    rw id.0 (cancelled a.s.now a.at a.end env (omega (arith, id.0, id.1)) _ c.if-s-at-ge128.true byte)

pub returns-in_err-times : goal.returns-in_err-times
unfolding schedule_event
returns-in_err-times c env =
    let a = c.args.part in
    let id = c.in_ok-id.ensures.there in
    rw c.from_residual-in_err-times.ensures
    (going_on a.s.now a.at a.end env (omega (arith, id.0, id.1)) c.if-s-at-ge128.false (short (omega (arith, c.in_err-times.ensures.too_few))))

pub returns-in_err-next : goal.returns-in_err-next
unfolding schedule_event
returns-in_err-next c env =
    let a = c.args.part in
    let times = c.in_ok-times.ensures.there in
    let place : 8 * (a.at + 5) + 8 ≡ 8 * c.in_ok-times.times = omega (arith, times.0) in
    rw c.from_residual-in_err-next.ensures
    (going_on a.s.now a.at a.end env (omega (arith, times.0, times.1)) c.if-s-at-ge128.false
    (pass (omega (arith, times.0, times.1))
    (called (at_place place (c.in_err-next.ensures _ (flag a.s.now (a.at + 5) 1 (8 * (a.at + 5) + 1) (omega arith) (omega arith)))) refl)))

pub invariant_of-avails-clause-in_order : goal.invariant_of-avails-clause-in_order
invariant_of-avails-clause-in_order c =
    let a = c.args.part in
    let times = c.in_ok-times.ensures.there in
    let reached = c.in_ok-next.ensures (("program_splice_flag", _) ∷ []) refl in
    (byte_within schedule_times _ (bit a.s.now) a.end c.in_ok-times.times c.in_ok-next.next reached.runs times.1).1

pub returns : goal.returns
unfolding schedule_event
returns c env =
    let a = c.args.part in
    let times = c.in_ok-times.ensures.there in
    let place : 8 * (a.at + 5) + 8 ≡ 8 * c.in_ok-times.times = omega (arith, times.0) in
    going_on a.s.now a.at a.end env (omega (arith, times.0, times.1)) c.if-s-at-ge128.false
    (pass (omega (arith, times.0, times.1))
    (called (at_place place (c.in_ok-next.ensures _ (flag a.s.now (a.at + 5) 1 (8 * (a.at + 5) + 1) (omega arith) (omega arith))))
    (called_last (c.avails.ensures _ (flag a.s.now (a.at + 5) 2 (8 * (a.at + 5) + 1 + 1) (omega arith) (omega arith)))).runs))
