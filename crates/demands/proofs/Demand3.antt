-- Demand 3: two accepted sections that are not sealed, whose sheets are equal once reserved fields are set to 0, and
-- descriptor_loop_length, unknown descriptors and stuffing are taken out, give the same answers.
-- Assumes nothing.
use mathlib.Core.Path.{◌≡◌, sym, ap, ◌∙◌}
use mathlib.Core.Bool.{false}
use mathlib.Core.List.{List, [], ◌∷◌}
use Prim.Native.Nat.{ℕ}
use lib.ListN.{length}
use lib.Dec.{eqb}
use Rattle.bits.proofs.Bytes.{AreBytes}
use Rattle.units.specs.declared.refusals.Refusal.{Refusal}
use Rattle.grammar.specs.Meaning.{is_among, Reading}
use Rattle.grammar.specs.Traces.{Trace, blank}
use Rattle.grammar.specs.Names.{look}
use Rattle.grammar.specs.Left.{left}
use Rattle.descriptors.specs.declared.Cursor.{Cursor}
use Rattle.std.specs.Prelude.{None, Ok, Err}
use Rattle.section.specs.Accept.{the, accept_of}
use Rattle.opening.specs.First.{first_cursor, open_of, asked}
use Rattle.opening.proofs.Asked.{open_first, when_open}
use Rattle.sheet.specs.Sheet.{section_trace, sheet_of}
use Rattle.sheet.proofs.RoundTrip.{section_sheet_section}
use Rattle.command_reading.specs.Command.{command_trace, command_of, where_read}
use Rattle.command_reading.specs.Command as Commands
use Rattle.command_lists.specs.Lists.{insert_component_of, private_byte_of}
use Rattle.command_events.specs.Events.{event_of, event_component_of}
use Rattle.known_walk.specs.Known.{known_cursors, numbered, known_trace}
use Rattle.descriptor_reading.specs.Descriptor.{descriptor_of, dtmf_char_of, segmentation_component_of, audio_component_of}
use Rattle.descriptor_reading.specs.Descriptor as Descriptors
use Rattle.known_walk.proofs.EachStands.{each_stands}
use Rattle.reading.specs.Reading as Asks
use Rattle.breaks.specs.Signals.{known_readings}
use Rattle.breaks.specs.Breaks.{break_by, refused_break}
use Rattle.breaks.specs.Breaks as Breaks
use Rattle.breaks.specs.Dash.{dash_by}
use Rattle.breaks.specs.Dash as Dash
use Rattle.times.specs.Times.{effective_by}
use Rattle.times.specs.Times as Times
use Rattle.labels.specs.Labels.{label_at, label_of, bill_label, label_bytes}
use Rattle.demands.specs.Same.{rows_of, Same}
use Rattle.demands.specs.OneCue.{unplaced, OneCue}
use Rattle.grammar.proofs.Blank.{look_blank}
use Rattle.demands.proofs.Blank.{command_blank, insert_component_blank, event_blank, event_component_blank, private_byte_blank, descriptor_blank, dtmf_blank, segmentation_component_blank, audio_component_blank}
use Rattle.demands.proofs.Walked.{blanks_at}
use Rattle.demands.proofs.Rows.{cursors, is_left}
use Rattle.demands.proofs.Numbers.{command_read, Alike, alike}
use Rattle.demands.proofs.Listed.{length_blanks, known_same, described, read_blanks, upid_said, upid_said_blank, unplaced_said, bytes_said, bytes_said_blank, bytes_of, billed, label_blanks}

-- what goes by named rows alone is the same where these are
named_rows : {A : Type 0} {t t' : Trace} (f : Trace → A) → ((u : Trace) → f (blank u) ≡ f u) → blank t ≡ blank t' → f t ≡ f t'
named_rows {t = t} {t' = t'} f h e = sym (h t) ∙ ap f e ∙ h t'

-- ---- one section

-- the rows of its sheet are its own
pub sheet_left : (s : List ℕ) → AreBytes s → accept_of s ≡ Ok tt → left (rows_of (sheet_of s)) ≡ left (section_trace s)
unfolding rows_of
sheet_left s hs e = ap (λ (x : List ℕ). left (section_trace x)) (section_sheet_section s hs e)

module _ (s : List ℕ) (e : accept_of s ≡ Ok tt) (h : eqb (the s "encrypted_packet") 1 ≡ false) where
  -- its command is read
  pub command_is : Commands.command s ≡ Ok (command_of (command_trace s))
  unfolding Commands.command where_read
  command_is = ap (λ (r : Reading). where_read r (command_of (command_trace s))) (command_read s e (is_left s e h))

  -- its label
  label_is : AreBytes s → (house : List ℕ) → label_bytes s house ≡ billed house (blanks_at s (cursors s))
  unfolding label_bytes bill_label
  label_is hs house =
      ap (label_of s house) (when_open (λ r. None) (λ c. label_at s (known_cursors s c)) (first_cursor s) (open_first s e h))
      ∙ label_blanks s house (cursors s) (each_stands s (first_cursor s)) hs

-- ---- two sections

module _ (s s' : List ℕ) (hs : AreBytes s) (hs' : AreBytes s') (e : accept_of s ≡ Ok tt) (e' : accept_of s' ≡ Ok tt)
    (h : eqb (the s "encrypted_packet") 1 ≡ false) (h' : eqb (the s' "encrypted_packet") 1 ≡ false) (same : Same (sheet_of s) (sheet_of s')) where
  alike_rows : Alike s s'
  alike_rows = alike s s' e e' (is_left s e h) (is_left s' e' h') (sym (sheet_left s hs e) ∙ same ∙ sheet_left s' hs' e')

  -- both are open
  both : {A : Type 0} (refuse : Refusal → A) (answer answer' : Cursor → A) → answer (first_cursor s) ≡ answer' (first_cursor s')
      → asked (open_of s) refuse answer ≡ asked (open_of s') refuse answer'
  both refuse answer answer' q =
      when_open refuse answer (first_cursor s) (open_first s e h) ∙ q ∙ sym (when_open refuse answer' (first_cursor s') (open_first s' e' h'))

  -- what is said of the command's rows
  by_command : {A : Type 0} (f : Trace → A) → ((u : Trace) → f (blank u) ≡ f u) → f (command_trace s) ≡ f (command_trace s')
  by_command f q = named_rows f q alike_rows.commands

  -- what is said of those of known descriptor n
  by_descriptor : {A : Type 0} (n : ℕ) (f : Trace → A) → ((u : Trace) → f (blank u) ≡ f u)
      → f (known_trace s (first_cursor s) n) ≡ f (known_trace s' (first_cursor s') n)
  by_descriptor n f q = named_rows f q (known_same s s' (first_cursor s) (first_cursor s') alike_rows.lists n)

  commands : Commands.command s ≡ Commands.command s'
  commands = command_is s e h ∙ ap Ok (by_command command_of command_blank) ∙ sym (command_is s' e' h')

  readings : known_readings s (first_cursor s) ≡ known_readings s' (first_cursor s')
  unfolding known_readings
  readings = read_blanks s (cursors s) ∙ ap described alike_rows.lists ∙ sym (read_blanks s' (cursors s'))

  counts : length (cursors s) ≡ length (cursors s')
  counts = sym (length_blanks s (cursors s)) ∙ ap length alike_rows.lists ∙ length_blanks s' (cursors s')

  upids : (n : ℕ) → unplaced (Descriptors.upid s (first_cursor s) n) ≡ unplaced (Descriptors.upid s' (first_cursor s') n)
  unfolding Descriptors.upid
  upids n =
      unplaced_said (numbered (cursors s) n).at (known_trace s (first_cursor s) n)
      ∙ by_descriptor n upid_said upid_said_blank
      ∙ sym (unplaced_said (numbered (cursors s') n).at (known_trace s' (first_cursor s') n))

  one_cue : OneCue s s'
  unfolding Asks.command Asks.insert_component Asks.schedule_event Asks.event_component Asks.private_byte Asks.known_count Asks.known_descriptor Asks.dtmf_char Asks.segmentation_component Asks.audio_component Asks.upid Times.effective_time Times.dvb Breaks.break_answer Dash.dash_duration
  one_cue =
      record {
        command = both Err (λ c. Commands.command s) (λ c. Commands.command s') commands;
        insert_component = λ n.
            both Err (λ c. insert_component_of (command_trace s) n) (λ c. insert_component_of (command_trace s') n)
            (by_command (λ t. insert_component_of t n) (λ t. insert_component_blank t n));
        schedule_event = λ n.
            both Err (λ c. event_of (command_trace s) n) (λ c. event_of (command_trace s') n)
            (by_command (λ t. event_of t n) (λ t. event_blank t n));
        event_component = λ n m.
            both Err (λ c. event_component_of (command_trace s) n m) (λ c. event_component_of (command_trace s') n m)
            (by_command (λ t. event_component_of t n m) (λ t. event_component_blank t n m));
        private_byte = λ n.
            both Err (λ c. private_byte_of (command_trace s) n) (λ c. private_byte_of (command_trace s') n)
            (by_command (λ t. private_byte_of t n) (λ t. private_byte_blank t n));
        known_count =
            both Err (λ c. Ok (length (known_cursors s c))) (λ c. Ok (length (known_cursors s' c)))
            (ap Ok counts);
        known_descriptor = λ n.
            both Err (λ c. descriptor_of (known_trace s c n)) (λ c. descriptor_of (known_trace s' c n))
            (by_descriptor n descriptor_of descriptor_blank);
        dtmf_char = λ n m.
            both Err (λ c. dtmf_char_of (known_trace s c n) m) (λ c. dtmf_char_of (known_trace s' c n) m)
            (by_descriptor n (λ t. dtmf_char_of t m) (λ t. dtmf_blank t m));
        segmentation_component = λ n m.
            both Err (λ c. segmentation_component_of (known_trace s c n) m) (λ c. segmentation_component_of (known_trace s' c n) m)
            (by_descriptor n (λ t. segmentation_component_of t m) (λ t. segmentation_component_blank t m));
        audio_component = λ n m.
            both Err (λ c. audio_component_of (known_trace s c n) m) (λ c. audio_component_of (known_trace s' c n) m)
            (by_descriptor n (λ t. audio_component_of t m) (λ t. audio_component_blank t m));
        upid = λ n.
            ap unplaced (when_open Err (λ c. Descriptors.upid s c n) (first_cursor s) (open_first s e h))
            ∙ upids n
            ∙ sym (ap unplaced (when_open Err (λ c. Descriptors.upid s' c n) (first_cursor s') (open_first s' e' h')));
        upid_bytes = λ n.
            bytes_of s n hs (open_first s e h) ∙ by_descriptor n bytes_said bytes_said_blank ∙ sym (bytes_of s' n hs' (open_first s' e' h'));
        effective_time =
            both Err (λ c. effective_by (the s "pts_adjustment") (Commands.command s))
            (λ c. effective_by (the s' "pts_adjustment") (Commands.command s'))
            (λ i. effective_by (alike_rows.adjustments i) (commands i));
        dvb =
            both Err (λ c. Ok (is_among (look (command_trace s) "splice_command_type") (0x05 ∷ 0x06 ∷ [])))
            (λ c. Ok (is_among (look (command_trace s') "splice_command_type") (0x05 ∷ 0x06 ∷ [])))
            (ap (λ (v : ℕ). Ok (is_among v (0x05 ∷ 0x06 ∷ [])))
            (by_command (λ t. look t "splice_command_type") (λ t. look_blank t "splice_command_type")));
        break_answer =
            both refused_break (λ c. break_by (Commands.command s) (known_readings s c)) (λ c. break_by (Commands.command s') (known_readings s' c))
            (λ i. break_by (commands i) (readings i));
        dash_duration =
            both Err (λ c. dash_by (Commands.command s) (known_readings s c)) (λ c. dash_by (Commands.command s') (known_readings s' c))
            (λ i. dash_by (commands i) (readings i));
        label_bytes = λ house. label_is s e h hs house ∙ ap (billed house) alike_rows.lists ∙ sym (label_is s' e' h' hs' house);
      }

-- ---- the demand

pub demand_3 : (s s' : List ℕ) → AreBytes s → AreBytes s' → accept_of s ≡ Ok tt → accept_of s' ≡ Ok tt
    → eqb (the s "encrypted_packet") 1 ≡ false → eqb (the s' "encrypted_packet") 1 ≡ false → Same (sheet_of s) (sheet_of s') → OneCue s s'
demand_3 = one_cue
