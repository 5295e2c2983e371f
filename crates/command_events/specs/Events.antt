-- What the events of a schedule say by number: every value is that of a field on the section's sheet, under the field's name.
-- Assumes nothing.
use Rattle.std.specs.Prelude.{ℕ, cond, ◌&&◌, [], Result, Ok, Err, ltb}
use Rattle.units.specs.declared.refusals.Refusal.{Refusal}
use Rattle.units.specs.Clock.{event_id}
use Rattle.grammar.specs.Traces.{Trace}
use Rattle.grammar.specs.Names.{look, is_set, part}
use Rattle.command_reading.specs.declared.answers.EventTime.{EventTime}
use Rattle.command_reading.specs.declared.answers.Event.{Event}
use Rattle.command_reading.specs.declared.answers.EventComponent.{EventComponent}
use Rattle.command_reading.specs.Command.{is_type, avails_of}

-- the rows of event n of the schedule with the rows t, none where there is no such event
abbrev pub event_rows : Trace → ℕ → Trace
event_rows t n = cond (is_type t 0x04 && ltb n (look t "splice_count")) (part "splice_event_id" n t) []

-- when it takes place: for the whole program, or for so many components
abbrev pub event_time : Trace → EventTime
event_time t =
    cond (is_set t "program_splice_flag") (EventTime.Program (look t "utc_splice_time")) (EventTime.Components (look t "component_count"))

-- the event with the rows t: a cancelled one has its id only
unfoldable pub scheduled_of : Trace → Event
scheduled_of t =
    cond (is_set t "splice_event_cancel_indicator") (Event.Cancelled (event_id (look t "splice_event_id")))
    (Event.Scheduled
    (record {
      splice_event_id = event_id (look t "splice_event_id");
      out_of_network_indicator = is_set t "out_of_network_indicator";
      time = event_time t;
      avails = avails_of t;
    }))

-- event n of the schedule with the rows t
unfoldable pub event_of : Trace → ℕ → Result Event Refusal
event_of t n = cond (is_type t 0x04 && ltb n (look t "splice_count")) (Ok (scheduled_of (event_rows t n))) (Err Refusal.NotHere)

-- component m of an event with the rows t
unfoldable pub event_component_in : Trace → ℕ → Result EventComponent Refusal
event_component_in t m =
    cond (ltb m (look t "component_count"))
    (Ok
    (record {
      component_tag = look (part "component_tag" m t) "component_tag";
      utc_splice_time = look (part "component_tag" m t) "utc_splice_time";
    }))
    (Err Refusal.NotHere)

-- component m of event n of the schedule with the rows t
unfoldable pub event_component_of : Trace → ℕ → ℕ → Result EventComponent Refusal
event_component_of t n m = event_component_in (event_rows t n) m
