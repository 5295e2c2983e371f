-- What an event of a schedule says as a flat list of numbers, in the manner of a command.
-- Assumes nothing.
use Rattle.std.specs.Prelude.{ℕ, List, [], ◌∷◌, ◌++◌, Result, Ok, Err}
use Rattle.units.specs.declared.refusals.Refusal.{Refusal}
use Rattle.units.specs.Refusals.{number_of}
use Rattle.command_reading.specs.declared.answers.EventTime.{EventTime}
use Rattle.command_reading.specs.declared.answers.ScheduledEvent.{ScheduledEvent}
use Rattle.command_reading.specs.declared.answers.Event.{Event}
use Rattle.command_numbers.specs.Numbers.{avails_numbers}
use Rattle.wire.specs.Wire.{flag_number}
use Rattle.wire.specs.Given.{Numbers, refused, these}

-- the program at a time, or so many components
abbrev pub event_time_numbers : EventTime → List ℕ
event_time_numbers (EventTime.Program utc) = 0 ∷ utc ∷ []
event_time_numbers (EventTime.Components n) = 1 ∷ n ∷ []

-- an event that takes place is case 0: its id, whether it leaves the network, its time and the avails
abbrev pub scheduled_numbers : ScheduledEvent → List ℕ
scheduled_numbers e =
    0 ∷ e.splice_event_id.0 ∷ flag_number e.out_of_network_indicator ∷ (event_time_numbers e.time ++ avails_numbers e.avails)

-- an event of a schedule: one that takes place, or the id of a cancelled one
abbrev pub event_numbers : Result Event Refusal → Numbers
event_numbers (Ok (Event.Scheduled e)) = these (scheduled_numbers e)
event_numbers (Ok (Event.Cancelled id)) = these (1 ∷ id.0 ∷ [])
event_numbers (Err r) = refused (number_of r)
