-- The typed questions on the command of a section: rows 1 to 10, then SEALED (17), then NOTHERE (16) where there is no such part.
-- Assumes nothing.
use Rattle.std.specs.Prelude.{ℕ, List, Result, Err}
use Rattle.units.specs.declared.refusals.Refusal.{Refusal}
use Rattle.opening.specs.First.{open_of, asked}
use Rattle.command_reading.specs.declared.answers.Command.{Command}
use Rattle.command_reading.specs.declared.answers.InsertComponent.{InsertComponent}
use Rattle.command_reading.specs.declared.answers.Event.{Event}
use Rattle.command_reading.specs.declared.answers.EventComponent.{EventComponent}
use Rattle.command_reading.specs.Command.{command_trace}
use Rattle.command_reading.specs.Command as Says
use Rattle.command_lists.specs.Lists.{insert_component_of, private_byte_of}
use Rattle.command_events.specs.Events.{event_of, event_component_of}

-- what the command says
unfoldable pub command : List ℕ → Result Command Refusal
command s = asked (open_of s) Err (λ c. Says.command s)

-- component n of an insert
unfoldable pub insert_component : List ℕ → ℕ → Result InsertComponent Refusal
insert_component s n = asked (open_of s) Err (λ c. insert_component_of (command_trace s) n)

-- event n of a schedule
unfoldable pub schedule_event : List ℕ → ℕ → Result Event Refusal
schedule_event s n = asked (open_of s) Err (λ c. event_of (command_trace s) n)

-- component m of that event
unfoldable pub event_component : List ℕ → ℕ → ℕ → Result EventComponent Refusal
event_component s n m = asked (open_of s) Err (λ c. event_component_of (command_trace s) n m)

-- byte n of a private command, after its identifier
unfoldable pub private_byte : List ℕ → ℕ → Result ℕ Refusal
private_byte s n = asked (open_of s) Err (λ c. private_byte_of (command_trace s) n)
