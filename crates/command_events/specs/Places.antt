-- For private functions: the events of a schedule and their parts by the byte at which they stand.
-- Assumes nothing.
use Rattle.std.specs.Prelude.{◌≡◌, ℕ, ◌+◌, ◌*◌, ◌≤◌, true, false, cond, ◌&&◌, List, Option, Some, None, Result, Ok, Err, length, ltb}
use Rattle.bits.specs.Bits.{field_of, flag_of}
use Rattle.units.specs.declared.refusals.Refusal.{Refusal}
use Rattle.units.specs.Clock.{event_id}
use Rattle.grammar.specs.Names.{look}
use Rattle.command_reading.specs.declared.answers.EventTime.{EventTime}
use Rattle.command_reading.specs.declared.answers.Event.{Event}
use Rattle.command_reading.specs.declared.answers.EventComponent.{EventComponent}
use Rattle.command_reading.specs.Command.{command_trace, is_type}
use Rattle.command_reading.specs.Places.{avails_at}
use Rattle.command_events.specs.Events.{event_rows, scheduled_of, event_component_in}

-- when the event from byte `at` on takes place
abbrev pub event_time_at : List ℕ → ℕ → EventTime
event_time_at s at =
    cond (flag_of s (8 * (at + 5) + 1)) (EventTime.Program (field_of s (8 * (at + 6)) 32)) (EventTime.Components (field_of s (8 * (at + 6)) 8))

-- an event of a schedule from byte `at` up to `end`
unfoldable pub event_at : List ℕ → ℕ → ℕ → Event
event_at s at end =
    cond (flag_of s (8 * (at + 4))) (Event.Cancelled (event_id (field_of s (8 * at) 32)))
    (Event.Scheduled
    (record {
      splice_event_id = event_id (field_of s (8 * at) 32);
      out_of_network_indicator = flag_of s (8 * (at + 5));
      time = event_time_at s at;
      avails = avails_at s end (flag_of s (8 * (at + 5) + 2));
    }))

-- how many components the event from byte `at` on has
abbrev pub components_at : List ℕ → ℕ → ℕ
components_at s at = cond (flag_of s (8 * (at + 4))) 0 (cond (flag_of s (8 * (at + 5) + 1)) 0 (field_of s (8 * (at + 6)) 8))

-- component m of the event from byte `at` on
unfoldable pub event_component_at : List ℕ → ℕ → ℕ → Result EventComponent Refusal
event_component_at s at m =
    cond (ltb m (components_at s at))
    (Ok (record { component_tag = field_of s (8 * (at + 7 + 5 * m)) 8; utc_splice_time = field_of s (8 * (at + 8 + 5 * m)) 32 }))
    (Err Refusal.NotHere)

-- an event's place: it stands from one byte up to another, or there is no event n
abbrev pub EventIs : List ℕ → ℕ → Option (ℕ × ℕ) → Type 0
EventIs s n None = (is_type (command_trace s) 0x04 && ltb n (look (command_trace s) "splice_count")) ≡ false
EventIs s n (Some span) =
    ((is_type (command_trace s) 0x04 && ltb n (look (command_trace s) "splice_count")) ≡ true)
    × (span.0 ≤ 4096) × (9 ≤ span.1) × (span.1 ≤ length s)
    × (scheduled_of (event_rows (command_trace s) n) ≡ event_at s span.0 span.1)
    × ((m : ℕ) → event_component_in (event_rows (command_trace s) n) m ≡ event_component_at s span.0 m)
