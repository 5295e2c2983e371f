-- Setting the values of reserved rows to 0 changes nothing that is said of a command or of a descriptor.
-- Assumes nothing.
use mathlib.Core.Path.{◌≡◌, ap, ◌∙◌}
use mathlib.Core.Bool.{Bool, cond, ◌&&◌}
use mathlib.Core.List.{[]}
use Rattle.std.specs.Prelude.{Ok, Err}
use Prim.Native.Nat.{ℕ}
use lib.Dec.{ltb, eqb}
use Rattle.units.specs.declared.refusals.Refusal.{Refusal}
use Rattle.grammar.specs.Traces.{Trace, blank}
use Rattle.grammar.specs.Names.{look, part}
use Rattle.grammar.proofs.Blank.{look_blank, all_blank, blank_cond, part_blank}
use Rattle.command_reading.specs.declared.answers.Event.{Event}
use Rattle.command_reading.specs.Command.{command_of}
use Rattle.command_lists.specs.Lists.{insert_component_of, private_byte_of}
use Rattle.command_events.specs.Events.{scheduled_of, event_rows, event_of, event_component_in, event_component_of}
use Rattle.descriptor_reading.specs.Descriptor.{segmentation_of, descriptor_of, dtmf_char_of, segmentation_component_of, audio_component_of}

-- ---- what is said of a command

pub command_blank : (t : Trace) → command_of (blank t) ≡ command_of t
unfolding command_of
command_blank t = simp (look_blank, all_blank)

pub insert_component_blank : (t : Trace) (n : ℕ) → insert_component_of (blank t) n ≡ insert_component_of t n
unfolding insert_component_of
insert_component_blank t n = simp (look_blank, part_blank)

scheduled_blank : (t : Trace) → scheduled_of (blank t) ≡ scheduled_of t
unfolding scheduled_of
scheduled_blank t = simp look_blank

-- the rows of an event
event_rows_blank : (t : Trace) (n : ℕ) → event_rows (blank t) n ≡ blank (event_rows t n)
unfolding blank
event_rows_blank t n =
    let there : Bool = eqb (look t "splice_command_type") 0x04 && ltb n (look t "splice_count") in
    (λ i. cond (eqb (look_blank t "splice_command_type" i) 0x04 && ltb n (look_blank t "splice_count" i)) (part_blank "splice_event_id" n t i) [])
    ∙ blank_cond there (part "splice_event_id" n t) []

pub event_blank : (t : Trace) (n : ℕ) → event_of (blank t) n ≡ event_of t n
unfolding event_of
event_blank t n =
    let there : Bool = eqb (look t "splice_command_type") 0x04 && ltb n (look t "splice_count") in
    (λ i.
    cond (eqb (look_blank t "splice_command_type" i) 0x04 && ltb n (look_blank t "splice_count" i)) (Ok (scheduled_of (event_rows_blank t n i)))
    (Err Refusal.NotHere))
    ∙ ap (λ (v : Event). cond there (Ok v) (Err Refusal.NotHere)) (scheduled_blank (event_rows t n))

component_in_blank : (t : Trace) (m : ℕ) → event_component_in (blank t) m ≡ event_component_in t m
unfolding event_component_in
component_in_blank t m = simp (look_blank, part_blank)

pub event_component_blank : (t : Trace) (n m : ℕ) → event_component_of (blank t) n m ≡ event_component_of t n m
unfolding event_component_of
event_component_blank t n m = ap (λ (u : Trace). event_component_in u m) (event_rows_blank t n) ∙ component_in_blank (event_rows t n) m

pub private_byte_blank : (t : Trace) (n : ℕ) → private_byte_of (blank t) n ≡ private_byte_of t n
unfolding private_byte_of
private_byte_blank t n = simp (look_blank, all_blank)

-- ---- what is said of a descriptor

segmentation_blank : (t : Trace) → segmentation_of (blank t) ≡ segmentation_of t
unfolding segmentation_of
segmentation_blank t = simp (look_blank, all_blank)

pub descriptor_blank : (t : Trace) → descriptor_of (blank t) ≡ descriptor_of t
unfolding descriptor_of
descriptor_blank t = simp (look_blank, segmentation_blank)

pub dtmf_blank : (t : Trace) (m : ℕ) → dtmf_char_of (blank t) m ≡ dtmf_char_of t m
unfolding dtmf_char_of
dtmf_blank t m = simp (look_blank, all_blank)

pub segmentation_component_blank : (t : Trace) (m : ℕ) → segmentation_component_of (blank t) m ≡ segmentation_component_of t m
unfolding segmentation_component_of
segmentation_component_blank t m = simp (look_blank, part_blank)

pub audio_component_blank : (t : Trace) (m : ℕ) → audio_component_of (blank t) m ≡ audio_component_of t m
unfolding audio_component_of
audio_component_blank t m = simp (look_blank, part_blank)
