-- What is left of an accepted section that is not sealed: the header without section_length, the command's rows, and the known
-- descriptors that the walk finds, all with reserved values set to 0.
-- Assumes nothing.
use mathlib.Core.Path.{◌≡◌, refl, sym, ap, subst, ◌∙◌}
use mathlib.Core.Bool.{true, false}
use mathlib.Core.List.{List, [], ◌∷◌, ◌++◌, append-nil, append_assoc}
use Prim.Native.Nat.{ℕ, ◌-◌, ◌*◌}
use lib.ListN.{length}
use lib.Dec.{eqb}
use Rattle.bits.specs.Bits.{bit}
use Rattle.grammar.specs.Syntax.{field}
use Rattle.grammar.specs.Meaning.{values, reached, read}
use Rattle.grammar.specs.Tables.{header, bytes, splice_time, break_duration, avail_numbers, avails, schedule_times, schedule_event, splice_schedule, insert_component, insert_times, splice_insert, private_command, command, sized_command, splice_descriptor}
use Rattle.grammar.specs.Traces.{Trace, trace_of, blank}
use Rattle.grammar.specs.Names.{Name, is_named, before}
use Rattle.grammar.specs.Left.{without, parts, own, front, descriptors}
use Rattle.grammar.proofs.Traces.{blank_append}
use Rattle.grammar.proofs.Each.{all, every, Each, each_append, each_values, trace_each}
use Rattle.grammar.proofs.Names.{other, before_past}
use Rattle.grammar.proofs.Determined.{AllBlanked}
use Rattle.commands.specs.Command.{known}
use Rattle.descriptors.specs.declared.Cursor.{Cursor}
use Rattle.descriptors.specs.Loop.{walked, traces_at}
use Rattle.std.specs.Prelude.{Ok}
use Rattle.section.specs.Accept.{the, accept_of}
use Rattle.section.proofs.Accepted.{accepted, has_trace}
use Rattle.opening.specs.First.{first_cursor}
use Rattle.opening.proofs.First.{Laid, first_trace}
use Rattle.sheet.specs.Sheet.{section_trace}
use Rattle.sheet_reading.proofs.Trace.{first, last}
use Rattle.known_walk.specs.Known.{known_among, known_cursors}
use Rattle.known_walk.proofs.KnownAmong.{in_section}
use Rattle.demands.proofs.Walked.{without_past, without_none, without_each, parts_past, walked_read, none_stuffing, blanks_at, loop_parts, own_blanks, all_blanked}

-- splice_command_type, and then a command
abbrev pub typed_rows : List ℕ → Trace → Trace
typed_rows s t = values (field 8 "splice_command_type" ∷ []) (bit s) 104 ++ t

-- ---- names that no command has

module _ (n : Name) (none : every (other n) sized_command ≡ true) (s : List ℕ) (j : ℕ) (t : Trace)
    (q : read sized_command (known s) (bit s) (8 * (length s - 4)) 112 ≡ reached j t) where
  command_each : Each (other n) t
  command_each = trace_each (other n) sized_command none (known s) (bit s) (8 * (length s - 4)) 112 j t q

  typed_each : all (other n) (field 8 "splice_command_type" ∷ []) ≡ true → Each (other n) (typed_rows s t)
  typed_each h =
      each_append (other n) (values (field 8 "splice_command_type" ∷ []) (bit s) 104) t
      (each_values (other n) (field 8 "splice_command_type" ∷ []) (bit s) 104 h)
      command_each

  headed_each : all (other n) header ≡ true → all (other n) (field 8 "splice_command_type" ∷ []) ≡ true
      → Each (other n) (values header (bit s) 0 ++ typed_rows s t)
  headed_each h l = each_append (other n) (values header (bit s) 0) (typed_rows s t) (each_values (other n) header (bit s) 0 h) (typed_each l)

-- these four
no_such_row : (every (other "descriptor_loop_length") sized_command ≡ true)
    × (every (other "section_length") sized_command ≡ true)
    × (every (other "alignment_stuffing") sized_command ≡ true)
    × (every (other "splice_descriptor_tag") sized_command ≡ true)
unfolding every splice_time break_duration avail_numbers avails schedule_times schedule_event splice_schedule insert_component insert_times splice_insert private_command command sized_command
no_such_row = (refl, refl, refl, refl)

-- ---- the parts of what is left

module _ (s : List ℕ) (c : Cursor) (j : ℕ) (t : Trace) (l : Laid s c j t) where
  loop_length : Trace
  loop_length = values (field 16 "descriptor_loop_length" ∷ []) (bit s) (8 * l.stop)

  headed : Trace
  headed = values header (bit s) 0 ++ typed_rows s l.command

  -- the trace, grouped around descriptor_loop_length
  grouped : t ≡ headed ++ (loop_length ++ (traces_at s (walked s c) ++ l.stuffing))
  unfolding headed loop_length
  grouped = l.whole ∙ simp append_assoc

  -- without section_length the header is what stands before it and after it
  unsized : (v : Trace) → without "section_length" (values header (bit s) 0 ++ v) ≡ first s ++ last s (without "section_length" v)
  unfolding without values
  unsized v = refl

  left_front : front t ≡ blank (first s) ++ blank (last s (typed_rows s l.command))
  unfolding front headed loop_length before values
  left_front =
      ap (λ (u : Trace). blank (without "section_length" u))
      (ap (before "descriptor_loop_length") grouped
      ∙ before_past "descriptor_loop_length" headed (loop_length ++ (traces_at s (walked s c) ++ l.stuffing))
      (headed_each "descriptor_loop_length" no_such_row.0 s (8 * l.stop) l.command l.commanded refl refl)
      ∙ append-nil headed)
      ∙ ap blank
      (unsized (typed_rows s l.command)
      ∙ ap (λ (u : Trace). first s ++ last s u)
      (without_none "section_length" (typed_rows s l.command) (typed_each "section_length" no_such_row.1 s (8 * l.stop) l.command l.commanded refl)))
      ∙ blank_append (first s) (last s (typed_rows s l.command))

  -- no row up to the first descriptor has such a name
  front_each : (n : Name) → every (other n) sized_command ≡ true → all (other n) header ≡ true
      → all (other n) (field 8 "splice_command_type" ∷ []) ≡ true → all (other n) (field 16 "descriptor_loop_length" ∷ []) ≡ true
      → Each (other n) (headed ++ loop_length)
  unfolding headed loop_length
  front_each n none h type length =
      each_append (other n) headed loop_length (headed_each n none s (8 * l.stop) l.command l.commanded h type)
      (each_values (other n) (field 16 "descriptor_loop_length" ∷ []) (bit s) (8 * l.stop) length)

  stuffing_each : Each (is_named "alignment_stuffing") l.stuffing
  unfolding every
  stuffing_each =
      trace_each (is_named "alignment_stuffing") (bytes "alignment_stuffing") refl (known s) (bit s) (8 * (length s - 4)) (8 * c.end) j l.stuffing l.stuffed

  left_descriptors : descriptors t ≡ blanks_at s (known_among s (walked s c))
  unfolding descriptors
  left_descriptors =
      let read = walked_read s c in
      let loop : Trace = traces_at s (walked s c) in
      ap (λ (u : Trace). own (parts "splice_descriptor_tag" u))
      (ap (without "alignment_stuffing") (grouped ∙ sym (append_assoc headed loop_length (loop ++ l.stuffing)))
      ∙ without_past "alignment_stuffing" (headed ++ loop_length) (loop ++ l.stuffing) (front_each "alignment_stuffing" no_such_row.2 refl refl refl)
      ∙ ap (λ (u : Trace). (headed ++ loop_length) ++ u)
      (without_past "alignment_stuffing" loop l.stuffing (none_stuffing s (walked s c) read)
      ∙ ap (λ (u : Trace). loop ++ u) (without_each "alignment_stuffing" l.stuffing stuffing_each)
      ∙ append-nil loop))
      ∙ ap own
      (parts_past "splice_descriptor_tag" (headed ++ loop_length) loop (front_each "splice_descriptor_tag" no_such_row.3 refl refl refl)
      ∙ loop_parts s (walked s c) read)
      ∙ own_blanks s (walked s c) read

-- ---- of a section

-- the known descriptors of a section
abbrev pub cursors : List ℕ → List Cursor
cursors s = known_cursors s (first_cursor s)

-- what is left of its rows, and how the command was read
pub record Left (s : List ℕ) : Type 0 where
  pub stop : ℕ
  pub rows : Trace
  pub commanded : read sized_command (known s) (bit s) (8 * (length s - 4)) 112 ≡ reached (8 * stop) rows
  pub fronts : front (section_trace s) ≡ blank (first s) ++ blank (last s (typed_rows s rows))
  pub lists : descriptors (section_trace s) ≡ blanks_at s (cursors s)
  pub blanked : AllBlanked splice_descriptor [] (blanks_at s (cursors s))

pub is_left : (s : List ℕ) → accept_of s ≡ Ok tt → eqb (the s "encrypted_packet") 1 ≡ false → Left s
unfolding section_trace trace_of
is_left s e h =
    let c : Cursor = first_cursor s in
    let q = has_trace s e in
    let l : Laid s c q.0 q.1 = first_trace s e h q.0 q.1 q.2 in
    let same : section_trace s ≡ q.1 = ap trace_of q.2 in
    let all : cursors s ≡ known_among s (walked s c) = in_section s c (accepted s e).fits in
    record {
      stop = l.stop;
      rows = l.command;
      commanded = l.commanded;
      fronts = ap front same ∙ left_front s c q.0 q.1 l;
      lists = ap descriptors same ∙ left_descriptors s c q.0 q.1 l ∙ ap (blanks_at s) (sym all);
      blanked =
          subst (λ (cs : List Cursor). AllBlanked splice_descriptor [] (blanks_at s cs)) (sym all)
          (all_blanked s (walked s c) (walked_read s c));
    }
