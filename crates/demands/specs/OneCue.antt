-- What demand 3 promises of two sections whose sheets are the same cue's: each question has the same answer on both.
-- Assumes nothing.
use Rattle.std.specs.Prelude.{◌≡◌, List, ℕ, Result, Ok, Err}
use Rattle.units.specs.declared.refusals.Refusal.{Refusal}
use Rattle.descriptor_reading.specs.declared.answers.Part.{Part}
use Rattle.reading.specs.Reading as Asks
use Rattle.breaks.specs.Breaks as Breaks
use Rattle.breaks.specs.Dash as Dash
use Rattle.times.specs.Times as Times
use Rattle.labels.specs.Labels as Labels

-- the place of a part is set to 0: its length and a refusal are left
abbrev pub unplaced : Result Part Refusal → Result Part Refusal
unplaced (Ok part) = Ok (record { at = 0; length = part.length })
unplaced (Err r) = Err r

-- two sections of which every question has the same answer
pub record OneCue (s s' : List ℕ) : Type 0 where
  -- the command
  pub command : Asks.command s ≡ Asks.command s'
  pub insert_component : (n : ℕ) → Asks.insert_component s n ≡ Asks.insert_component s' n
  pub schedule_event : (n : ℕ) → Asks.schedule_event s n ≡ Asks.schedule_event s' n
  pub event_component : (n m : ℕ) → Asks.event_component s n m ≡ Asks.event_component s' n m
  pub private_byte : (n : ℕ) → Asks.private_byte s n ≡ Asks.private_byte s' n
  -- the known descriptors
  pub known_count : Asks.known_count s ≡ Asks.known_count s'
  pub known_descriptor : (n : ℕ) → Asks.known_descriptor s n ≡ Asks.known_descriptor s' n
  pub dtmf_char : (n m : ℕ) → Asks.dtmf_char s n m ≡ Asks.dtmf_char s' n m
  pub segmentation_component : (n m : ℕ) → Asks.segmentation_component s n m ≡ Asks.segmentation_component s' n m
  pub audio_component : (n m : ℕ) → Asks.audio_component s n m ≡ Asks.audio_component s' n m
  -- the UPID's bytes; where they lie in the section may differ
  pub upid : (n : ℕ) → unplaced (Asks.upid s n) ≡ unplaced (Asks.upid s' n)
  pub upid_bytes : (n : ℕ) → Asks.upid_bytes s n ≡ Asks.upid_bytes s' n
  -- the house's answers
  pub effective_time : Times.effective_time s ≡ Times.effective_time s'
  pub dvb : Times.dvb s ≡ Times.dvb s'
  pub break_answer : Breaks.break_answer s ≡ Breaks.break_answer s'
  pub dash_duration : Dash.dash_duration s ≡ Dash.dash_duration s'
  pub label_bytes : (house : List ℕ) → Labels.label_bytes s house ≡ Labels.label_bytes s' house
