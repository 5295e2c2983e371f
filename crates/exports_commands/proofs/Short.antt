-- How many numbers an insert, an event and their parts have at most.
-- Assumes nothing.
use Prim.Native.Nat.{◌≤◌}
use native.Mathlib.Omega.{arith}
use lib.Dec.{lit≤}
use lib.ListN.{length, length-append}
use Rattle.command_reading.specs.declared.answers.Insert.{Insert}
use Rattle.command_reading.specs.declared.answers.EventTime.{EventTime}
use Rattle.command_reading.specs.declared.answers.ScheduledEvent.{ScheduledEvent}
use Rattle.wire.proofs.Short.{mode_short}
use Rattle.command_numbers.proofs.Short.{time_short, break_short}
use Rattle.exports_commands.specs.Commands.{insert_numbers}
use Rattle.exports_commands.specs.Events.{event_time_numbers, scheduled_numbers}

pub insert_short : (x : Insert) → length (insert_numbers x) ≤ 13
insert_short x = simp length-append (omega (arith, time_short x.time, mode_short x.mode, break_short x.avails.break_duration))

pub event_time_short : (x : EventTime) → length (event_time_numbers x) ≤ 2
event_time_short (EventTime.Program utc) = lit≤ tt
event_time_short (EventTime.Components n) = lit≤ tt

pub scheduled_short : (x : ScheduledEvent) → length (scheduled_numbers x) ≤ 11
scheduled_short x = simp length-append (omega (arith, event_time_short x.time, break_short x.avails.break_duration))
