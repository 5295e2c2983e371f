-- Two accepted sections that are not sealed and have the same numbers left have, but for what reserved bits hold, the same command, the
-- same adjustment and the same known descriptors.
-- Assumes nothing.
use mathlib.Core.Path.{◌≡◌, refl, sym, ap, ◌∙◌}
use mathlib.Core.Bool.{Bool, true, false, cond, ◌&&◌, ◌||◌, false≢true}
use mathlib.Core.List.{List, [], ◌∷◌, ◌++◌, append_assoc}
use mathlib.Core.Logic.{inl}
use Prim.Native.Nat.{ℕ, ◌-◌, ◌*◌, ◌≤◌}
use native.Mathlib.Omega.{arith}
use lib.ListN.{length, drop}
use lib.Dec.{leb}
use lib.Text.{eqt}
use borrow.Author.Tests.{le-leb}
use Rattle.bits.specs.Bits.{bit, num}
use Rattle.grammar.specs.Syntax.{Item, field, done, fields}
use Rattle.grammar.specs.Meaning.{values, bind, Reading, broken, reached, after, read}
use Rattle.grammar.specs.Tables.{splice_time, break_duration, avail_numbers, avails, schedule_times, schedule_event, splice_schedule, insert_component, insert_times, splice_insert, private_command, command, sized_command}
use Rattle.grammar.specs.Traces.{Trace, trace_of, numbers, joined, blank}
use Rattle.grammar.specs.Names.{look}
use Rattle.grammar.specs.Left.{left}
use Rattle.grammar.proofs.Traces.{numbers_append}
use Rattle.grammar.proofs.Endless.{endless}
use Rattle.grammar.proofs.Scope.{scoped, Agree, same_read}
use Rattle.grammar.proofs.Readings.{Reads}
use Rattle.grammar.proofs.Determined.{determined, descriptors_determined}
use Rattle.commands.specs.Command.{known}
use Rattle.std.specs.Prelude.{Ok}
use Rattle.section.specs.Accept.{the, accept_of}
use Rattle.section.proofs.Accepted.{accepted}
use Rattle.sheet.specs.Sheet.{section_trace}
use Rattle.sheet_reading.proofs.Trace.{first, last}
use Rattle.sheet_reading.proofs.Trace as header
use Rattle.command_reading.specs.Command.{command_reading, typed, command_trace}
use Rattle.demands.proofs.Walked.{blanks_at}
use Rattle.demands.proofs.Rows.{typed_rows, cursors, Left}

-- ---- the front as readings

-- the header after section_length, and splice_command_type
abbrev rest : List Item
rest = header.after ++ (field 8 "splice_command_type" ∷ [])

-- the command's table looks at no other name from outside
command_scoped : scoped sized_command ("splice_command_type" ∷ "splice_command_length" ∷ []) ≡ true
unfolding scoped splice_time break_duration avail_numbers avails schedule_times schedule_event splice_schedule insert_component insert_times splice_insert private_command command sized_command
command_scoped = refl

-- and it does not go by where the section ends
rest_endless : endless (fields rest sized_command) ≡ true
unfolding endless splice_time break_duration avail_numbers avails schedule_times schedule_event splice_schedule insert_component insert_times splice_insert private_command command sized_command
rest_endless = refl

before_endless : endless (fields header.before done) ≡ true
unfolding endless
before_endless = refl

module _ (s : List ℕ) where
  before_read : Reads (fields header.before done) [] (bit s) 12 0 12 (first s)
  unfolding read after values
  before_read = record { reads = refl }

  -- the two names mean the same without the header's first rows
  same_names : Agree ("splice_command_type" ∷ "splice_command_length" ∷ []) (bind rest (bit s) 24 []) (known s)
  unfolding known
  same_names n h = go (eqt "splice_command_type" n) (eqt "splice_command_length" n) h (num (bit s) 104 8) (num (bit s) 92 12) _ _
    where
      go : (a b : Bool) → (a || (b || false)) ≡ true → (v w x y : ℕ) → cond a v (cond b w x) ≡ cond a v (cond b w y)
      go true b e v w x y = refl
      go false true e v w x y = refl
      go false false e v w x y = absurd (false≢true e)

  rest_read : 20 ≤ length s → (l : Left s)
      → Reads (fields rest sized_command) [] (bit s) (8 * (length s - 4)) 24 (8 * l.stop) (last s (typed_rows s l.rows))
  unfolding read after values
  rest_read long l =
      let end : ℕ = 8 * (length s - 4) in
      let alone = same_read sized_command _ (bind rest (bit s) 24 []) (known s) command_scoped same_names (bit s) end 112 in
      let fits : leb 112 end ≡ true = le-leb 112 end (omega arith) in
      record { reads = λ i. cond (fits i) (after (values rest (bit s) 24) ((alone ∙ l.commanded) i)) (broken 0) }

  -- ---- the numbers, by parts

  left_numbers : (l : Left s)
      → left (section_trace s)
      ≡ numbers (blank (first s)) ++ (numbers (blank (last s (typed_rows s l.rows))) ++ numbers (joined (blanks_at s (cursors s))))
  unfolding left
  left_numbers l =
      let one : Trace = blank (first s) in
      let two : Trace = blank (last s (typed_rows s l.rows)) in
      let three : Trace = joined (blanks_at s (cursors s)) in
      (λ i. numbers (l.fronts i ++ joined (l.lists i)))
      ∙ numbers_append (one ++ two) three
      ∙ ap (λ (x : List ℕ). x ++ numbers three) (numbers_append one two)
      ∙ append_assoc (numbers one) (numbers two) (numbers three)

  -- ---- the command's rows

  pub command_read : accept_of s ≡ Ok tt → (l : Left s) → command_reading s ≡ reached (8 * l.stop) l.rows
  unfolding command_reading
  command_read e l =
      let all = accepted s e in
      λ i. cond (le-leb 20 (length s) all.long i && le-leb (length s) 4096 all.fits i) (l.commanded i) (broken 0)

  command_trace_lem : accept_of s ≡ Ok tt → (l : Left s) → command_trace s ≡ typed_rows s l.rows
  unfolding command_trace typed trace_of
  command_trace_lem e l = ap (λ (r : Reading). typed s (trace_of r)) (command_read e l)

-- ---- two sections

pub record Alike (s s' : List ℕ) : Type 0 where
  pub commands : blank (command_trace s) ≡ blank (command_trace s')
  pub adjustments : the s "pts_adjustment" ≡ the s' "pts_adjustment"
  pub lists : blanks_at s (cursors s) ≡ blanks_at s' (cursors s')

module _ (s s' : List ℕ) (e : accept_of s ≡ Ok tt) (e' : accept_of s' ≡ Ok tt) (l : Left s) (l' : Left s')
    (same : left (section_trace s) ≡ left (section_trace s')) where
  parts_same : (blank (last s (typed_rows s l.rows)) ≡ blank (last s' (typed_rows s' l'.rows)))
      × (numbers (joined (blanks_at s (cursors s))) ≡ numbers (joined (blanks_at s' (cursors s'))))
  parts_same =
      let one = determined _ _ (before_read s) (before_read s') (inl before_endless) (sym (left_numbers s l) ∙ same ∙ left_numbers s' l') in
      determined _ _ (rest_read s (accepted s e).long l) (rest_read s' (accepted s' e').long l') (inl rest_endless) one.1

  pub alike : Alike s s'
  unfolding the look values blank
  alike =
      record {
        commands =
            ap blank (command_trace_lem s e l) ∙ ap (drop 7) parts_same.0 ∙ sym (ap blank (command_trace_lem s' e' l'));
        adjustments = ap (λ (t : Trace). look t "pts_adjustment") parts_same.0;
        lists = descriptors_determined (blanks_at s (cursors s)) (blanks_at s' (cursors s')) l.blanked l'.blanked parts_same.1;
      }
