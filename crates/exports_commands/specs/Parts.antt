-- A component of an insert, one of an event and a byte of a private command, as lists of numbers.
-- Assumes nothing.
use Rattle.std.specs.Prelude.{ℕ, [], ◌∷◌, Result, Ok, Err}
use Rattle.units.specs.declared.refusals.Refusal.{Refusal}
use Rattle.units.specs.Refusals.{number_of}
use Rattle.command_reading.specs.declared.answers.InsertComponent.{InsertComponent}
use Rattle.command_reading.specs.declared.answers.EventComponent.{EventComponent}
use Rattle.command_numbers.specs.Numbers.{time_numbers}
use Rattle.wire.specs.Given.{Numbers, refused, these}

-- a component of an insert: its tag and its time
abbrev pub insert_component_numbers : Result InsertComponent Refusal → Numbers
insert_component_numbers (Ok c) = these (c.component_tag ∷ time_numbers c.time)
insert_component_numbers (Err r) = refused (number_of r)

-- a component of an event: its tag and its time
abbrev pub event_component_numbers : Result EventComponent Refusal → Numbers
event_component_numbers (Ok c) = these (c.component_tag ∷ c.utc_splice_time ∷ [])
event_component_numbers (Err r) = refused (number_of r)

-- a byte of a private command
abbrev pub private_byte_numbers : Result ℕ Refusal → Numbers
private_byte_numbers (Ok b) = these (b ∷ [])
private_byte_numbers (Err r) = refused (number_of r)
