-- `exports_commands::lists::scheduled` meets its contract: three numbers and then its parts, each of which leaves room for the next.
-- Assumes nothing.
use mathlib.Core.Path.{◌≡◌}
use mathlib.Core.List.{[], ◌∷◌}
use native.Mathlib.Omega.{arith}
use lib.ListN.{length-append}
use Rattle.std.proofs.Common.{append_assoc}
use Rattle.wire.specs.Wire.{flag_number}
use Rattle.wire.proofs.Placed.{stands, put_as, behind, told}
use Rattle.command_numbers.specs.Numbers.{avails_numbers}
use Rattle.command_numbers.proofs.Short.{break_short}
use Rattle.exports_commands.specs.Events.{event_time_numbers}
use Rattle.exports_commands.proofs.Short.{event_time_short}
use Rattle.exports_commands.proofs.lists.scheduled.Goals as goal

pub returns : goal.returns
returns c =
    let x = c.args.x in
    let time = event_time_short x.time in
    let break = break_short x.avails.break_duration in
    let head : (0 ∷ c.from.result ∷ c.flag.result ∷ []) ≡ (0 ∷ x.splice_event_id.0 ∷ flag_number x.out_of_network_indicator ∷ []) = cc in
    let p1 = stands {m = c.args.list.now} (omega arith) (put_as _ _ head c.put-n.ensures) in
    let p2 = behind (event_time_numbers x.time) p1 (simp length-append (omega arith)) c.event_time-n.ensures in
    let p3 = behind (avails_numbers x.avails) p2 (simp length-append (omega arith)) c.avails.ensures in
    told (simp append_assoc) p3
