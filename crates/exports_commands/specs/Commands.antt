-- What a command says as a flat list of numbers: where an answer or a part of it has cases, the number of the case and then its
-- values; a value that is absent has no number.
-- Assumes nothing.
use Rattle.std.specs.Prelude.{ℕ, List, [], ◌∷◌, ◌++◌, Result, Ok, Err}
use Rattle.units.specs.declared.refusals.Refusal.{Refusal}
use Rattle.units.specs.Refusals.{number_of}
use Rattle.command_reading.specs.declared.answers.Insert.{Insert}
use Rattle.command_reading.specs.declared.answers.Command.{Command}
use Rattle.command_numbers.specs.Numbers.{time_numbers, avails_numbers}
use Rattle.wire.specs.Wire.{flag_number, mode_numbers}
use Rattle.wire.specs.Given.{Numbers, refused, these}

-- an insert is case 2 of a command: its id, whether it leaves the network, its time, its mode and the avails
abbrev pub insert_numbers : Insert → List ℕ
insert_numbers i =
    2 ∷ i.splice_event_id.0 ∷ flag_number i.out_of_network_indicator
    ∷ (time_numbers i.time ++ (mode_numbers i.mode ++ avails_numbers i.avails))

-- a command: its case in the order of the enum, and then its values
abbrev pub command_numbers : Result Command Refusal → Numbers
command_numbers (Ok Command.Null) = these (0 ∷ [])
command_numbers (Ok (Command.Schedule n)) = these (1 ∷ n ∷ [])
command_numbers (Ok (Command.Insert i)) = these (insert_numbers i)
command_numbers (Ok (Command.CancelledInsert e)) = these (3 ∷ e.0 ∷ [])
command_numbers (Ok (Command.TimeSignal t)) = these (4 ∷ time_numbers t)
command_numbers (Ok Command.BandwidthReservation) = these (5 ∷ [])
command_numbers (Ok (Command.Private identifier n)) = these (6 ∷ identifier ∷ n ∷ [])
command_numbers (Ok Command.Unread) = these (7 ∷ [])
command_numbers (Err r) = refused (number_of r)
