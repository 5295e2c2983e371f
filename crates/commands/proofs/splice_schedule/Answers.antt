-- `commands::splice_schedule` meets its contract: as many events as the count says.
-- Assumes nothing.
use mathlib.Core.Path.{◌≡◌, refl, ap₂, ◌∙◌}
use mathlib.Core.List.{◌∷◌}
use Prim.Native.Nat.{ℕ, ◌+◌, ◌*◌, ◌<◌}
use native.Mathlib.Omega.{arith}
use lib.ListN.{get_or}
use Rattle.std.proofs.Common.{rules}
use Rattle.bits.specs.Bits.{bit, num}
use Rattle.grammar.specs.Meaning.{Env, run}
use Rattle.grammar.specs.Tables.{splice_schedule, schedule_event}
use Rattle.grammar.proofs.Run.{times, pass, short, repeated_last}
use Rattle.grammar.proofs.Places.{octet}
use Rattle.commands.proofs.splice_schedule.Goals as goal

pub returns-in_err-next : goal.returns-in_err-next
unfolding splice_schedule
returns-in_err-next c env = rw c.from_residual.ensures (short (omega (arith, c.in_err-next.ensures.too_few)))

pub returns : goal.returns
unfolding splice_schedule
returns c env =
    let a = c.args.part in
    let count = c.in_ok-next.ensures.there in
    let known : Env = ("splice_count", num (bit a.s.now) (8 * a.at) 8) ∷ env in
    let place : 8 * a.at + 8 ≡ 8 * c.in_ok-next.next = omega (arith, count.0) in
    let byte : get_or a.s.now a.at 0 < 256 = search rules in
    pass (omega (arith, count.0, count.1))
    (repeated_last
    (ap₂ (λ (n k : ℕ). times n (run schedule_event known (bit a.s.now) (8 * a.end)) k) (octet a.s.now a.at (8 * a.at) byte refl) place
    ∙ c.schedule_events.ensures known))
