-- `exports_commands::lists::insert` meets its contract: three numbers and then its parts, each of which leaves room for the next.
-- Assumes nothing.
use mathlib.Core.Path.{◌≡◌}
use mathlib.Core.List.{[], ◌∷◌}
use native.Mathlib.Omega.{arith}
use lib.ListN.{length-append}
use Rattle.std.proofs.Common.{append_assoc}
use Rattle.wire.specs.Wire.{flag_number, mode_numbers}
use Rattle.wire.proofs.Placed.{stands, put_as, behind, told}
use Rattle.wire.proofs.Short.{mode_short}
use Rattle.command_numbers.specs.Numbers.{time_numbers, avails_numbers}
use Rattle.command_numbers.proofs.Short.{time_short, break_short}
use Rattle.exports_commands.proofs.lists.insert.Goals as goal

pub returns : goal.returns
returns c =
    let x = c.args.x in
    let time = time_short x.time in
    let mode = mode_short x.mode in
    let break = break_short x.avails.break_duration in
    let head : (2 ∷ c.from.result ∷ c.flag.result ∷ []) ≡ (2 ∷ x.splice_event_id.0 ∷ flag_number x.out_of_network_indicator ∷ []) = cc in
    let p1 = stands {m = c.args.list.now} (omega arith) (put_as _ _ head c.put-n.ensures) in
    let p2 = behind (time_numbers x.time) p1 (simp length-append (omega arith)) c.time-n.ensures in
    let p3 = behind (mode_numbers x.mode) p2 (simp length-append (omega arith)) c.mode-n.ensures in
    let p4 = behind (avails_numbers x.avails) p3 (simp length-append (omega arith)) c.avails.ensures in
    told (simp append_assoc) p4
