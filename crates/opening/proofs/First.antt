-- From an accepted section's first cursor the walk gives exactly that section's descriptors, in order: what the grammar reads of the
-- section is what stands before the cursor, then what it reads of the descriptors that the walk finds, then stuffing.
-- Assumes nothing.
use mathlib.Core.Path.{◌≡◌, refl, sym, ap, ap₂, subst, ◌∙◌}
use mathlib.Core.Bool.{false}
use mathlib.Core.List.{List, [], ◌∷◌, ◌++◌, append_assoc}
use Prim.Native.Nat.{ℕ, ◌+◌, ◌-◌, ◌*◌, ◌/◌, ◌≤◌}
use native.Mathlib.Omega.{arith}
use lib.ListN.{length}
use lib.Dec.{eqb}
use Rattle.bits.specs.Bits.{bit, num}
use Rattle.grammar.specs.Syntax.{field, done, fill, under}
use Rattle.grammar.specs.Meaning.{Env, values, bind, reached, read, end_of, Outcome, ends, run}
use Rattle.grammar.specs.Tables.{header, bytes, sized_command, splice_descriptor, descriptor_loop, payload, splice_info_section}
use Rattle.grammar.specs.Traces.{Trace, size}
use Rattle.grammar.proofs.Run.{swept, filled_last}
use Rattle.grammar.proofs.Ends.{covers}
use Rattle.grammar.proofs.Traces.{size_values, size_append}
use Rattle.commands.specs.Command.{known}
use Rattle.descriptors.specs.declared.Cursor.{Cursor}
use Rattle.descriptors.specs.Loop.{walked, traces_at}
use Rattle.descriptors.proofs.Walk.{same_descriptor}
use Rattle.descriptors.proofs.Loop.{loop_trace}
use Rattle.descriptors.proofs.Filled.{Filled}
use Rattle.std.specs.Prelude.{Ok}
use Rattle.section.specs.Accept.{the, accept_of}
use Rattle.opening.specs.First.{first_cursor}
use Rattle.section.proofs.Accepted.{accepted}
use Rattle.grammar.proofs.Octets.{command_octets}
use Rattle.grammar.proofs.Readings.{Reads, Parts, rows_parts, arm_parts, frame_parts, under_parts, under_last}
use Rattle.section.proofs.Judged.{command_run}
use Rattle.opening.proofs.Start.{after_command}

-- what is read before the first descriptor, of a command that ends at byte n: header, splice_command_type, command and descriptor_loop_length
abbrev pub front : List ℕ → ℕ → Trace → Trace
front s n command =
    values header (bit s) 0
    ++ (values (field 8 "splice_command_type" ∷ []) (bit s) 104
    ++ (command ++ values (field 16 "descriptor_loop_length" ∷ []) (bit s) (8 * n)))

-- how a section's trace t, which ends at place j, lies around the cursor of its loop
pub record Laid (s : List ℕ) (c : Cursor) (j : ℕ) (t : Trace) : Type 0 where
  -- where the command ends, in bytes, and what its table reads
  pub stop : ℕ
  pub command : Trace
  -- what is read as stuffing
  pub stuffing : Trace
  pub starts : c.at ≡ stop + 2
  -- descriptors fill the loop
  pub filled : Filled s c
  pub commanded : read sized_command (known s) (bit s) (8 * (length s - 4)) 112 ≡ reached (8 * stop) command
  pub stuffed : read (bytes "alignment_stuffing") (known s) (bit s) (8 * (length s - 4)) (8 * c.end) ≡ reached j stuffing
  pub whole : t ≡ front s stop command ++ (traces_at s (walked s c) ++ stuffing)
  -- the front covers the bits before the cursor, and the stuffing those from its end on
  pub before : size (front s stop command) ≡ 8 * c.at
  pub beyond : j ≡ 8 * c.end + size stuffing

module _ (s : List ℕ) where
  -- the loop of a command that ends at byte n
  abbrev loop : ℕ → Cursor
  loop n = record { at = n + 2; end = n + 2 + num (bit s) (8 * n) 16 }

  -- the front's size
  front_size : (n : ℕ) (command : Trace) → 8 * n ≡ 112 + size command → size (front s n command) ≡ 8 * (n + 2)
  front_size n command e =
      let type : Trace = values (field 8 "splice_command_type" ∷ []) (bit s) 104 in
      let last : Trace = values (field 16 "descriptor_loop_length" ∷ []) (bit s) (8 * n) in
      omega (
        arith,
        e,
        size_append (values header (bit s) 0) (type ++ (command ++ last)),
        size_append type (command ++ last),
        size_append command last,
        size_values header (bit s) 0,
        size_values (field 8 "splice_command_type" ∷ []) (bit s) 104,
        size_values (field 16 "descriptor_loop_length" ∷ []) (bit s) (8 * n),
      )

  -- a loop that the grammar reads to its end is swept to it
  filled_by : (c : Cursor) (env : Env) (i : ℕ) (u : Trace) → read (fill splice_descriptor done) env (bit s) (8 * c.end) (8 * c.at) ≡ reached i u
      → swept (run splice_descriptor [] (bit s) (8 * c.end)) (8 * c.end) (8 * c.at) ≡ ends i
  unfolding run end_of
  filled_by c env i u e =
      let g : ℕ → Outcome = run splice_descriptor env (bit s) (8 * c.end) in
      let same : run splice_descriptor [] (bit s) (8 * c.end) ≡ g = λ j k. same_descriptor [] env (bit s) (8 * c.end) k j in
      ap (λ (h : ℕ → Outcome). swept h (8 * c.end) (8 * c.at)) same
      ∙ sym (filled_last {o = swept g (8 * c.end) (8 * c.at)} refl).runs
      ∙ ap end_of e

  -- the loop's own reading: its length, and what the walk finds, up to its end
  looped : (n i : ℕ) (u : Trace) → 20 ≤ length s → Reads descriptor_loop (known s) (bit s) (8 * (length s - 4)) (8 * n) i u
      → (i ≡ 8 * (loop n).end)
      × (u ≡ values (field 16 "descriptor_loop_length" ∷ []) (bit s) (8 * n) ++ traces_at s (walked s (loop n)))
      × Filled s (loop n)
  unfolding descriptor_loop
  looped n i u long q =
      let rows = rows_parts q in
      let part = frame_parts rows.1 in
      let body = under_last part.0 in
      let from : 8 * n + 16 ≡ 8 * (loop n).at = omega arith in
      let to : 8 * n + 16 + 8 * num (bit s) (8 * n) 16 ≡ 8 * (loop n).end = omega arith in
      let fits : 8 * n + 16 + 8 * num (bit s) (8 * n) 16 ≤ 8 * (length s - 4) = part.2 in
      let env : Env = bind (field 16 "descriptor_loop_length" ∷ []) (bit s) (8 * n) (known s) in
      let here : read (fill splice_descriptor done) env (bit s) (8 * (loop n).end) (8 * (loop n).at) ≡ reached i rows.0 =
      ap₂ (λ (e k : ℕ). read (fill splice_descriptor done) env (bit s) e k) (sym to) (sym from) ∙ body.reads in (
        part.1 ∙ to,
        rows.2 ∙ ap (λ (v : Trace). values (field 16 "descriptor_loop_length" ∷ []) (bit s) (8 * n) ++ v) (loop_trace s (loop n) env i rows.0 (omega arith) here),
        (omega arith, filled_by (loop n) env i rows.0 here ∙ ap ends (part.1 ∙ to)),
      )

  -- the parts of the trace, grouped by what they are
  regroup : (a b c d e f : Trace) → a ++ (b ++ (c ++ ((d ++ e) ++ f))) ≡ (a ++ (b ++ (c ++ d))) ++ (e ++ f)
  regroup a b c d e f = simp append_assoc

  module _ (e : accept_of s ≡ Ok tt) (h : eqb (the s "encrypted_packet") 1 ≡ false) (j : ℕ) (t : Trace) where
    -- from splice_command_type on
    unsealed : Reads splice_info_section [] (bit s) (8 * (length s - 4)) 0 j t
        → (v : Trace) × Reads (under 8 sized_command (under 9 descriptor_loop (bytes "alignment_stuffing"))) (known s) (bit s) (8 * (length s - 4)) 112 j v
        × (t ≡ values header (bit s) 0 ++ (values (field 8 "splice_command_type" ∷ []) (bit s) 104 ++ v))
    unfolding splice_info_section payload known the
    unsealed q =
        let top = rows_parts q in
        let body = rows_parts (arm_parts false top.1 h) in
        (body.0, body.1, top.2 ∙ ap (λ (v : Trace). values header (bit s) 0 ++ v) body.2)

    -- around the loop of a command that ends at byte n
    around : (n : ℕ) (command v : Trace) → 20 ≤ length s
        → read sized_command (known s) (bit s) (8 * (length s - 4)) 112 ≡ reached (8 * n) command
        → t ≡ values header (bit s) 0 ++ (values (field 8 "splice_command_type" ∷ []) (bit s) 104 ++ (command ++ v))
        → Parts descriptor_loop (bytes "alignment_stuffing") (known s) (bit s) (8 * (length s - 4)) (8 * n) j v → Laid s (loop n) j t
    around n command v long came trace rest =
        let walk = looped n rest.mid rest.left long rest.came in
        let type : Trace = values (field 8 "splice_command_type" ∷ []) (bit s) 104 in
        let back : read (bytes "alignment_stuffing") (known s) (bit s) (8 * (length s - 4)) (8 * (loop n).end) ≡ reached j rest.right =
        ap (λ (i : ℕ). read (bytes "alignment_stuffing") (known s) (bit s) (8 * (length s - 4)) i) (sym walk.0) ∙ rest.went.reads in
        record {
          stop = n;
          command = command;
          stuffing = rest.right;
          starts = refl;
          filled = walk.2;
          commanded = came;
          stuffed = back;
          whole =
              trace
              ∙ ap (λ (w : Trace). values header (bit s) 0 ++ (type ++ (command ++ w))) (rest.joined ∙ ap (λ (u : Trace). u ++ rest.right) walk.1)
              ∙ regroup (values header (bit s) 0) type command (values (field 16 "descriptor_loop_length" ∷ []) (bit s) (8 * n)) (traces_at s (walked s (loop n))) rest.right;
          before = front_size n command (covers sized_command (known s) (bit s) (8 * (length s - 4)) 112 (8 * n) command came);
          beyond = covers (bytes "alignment_stuffing") (known s) (bit s) (8 * (length s - 4)) (8 * (loop n).end) j rest.right back;
        }

    -- the same where the command's end is counted in bits
    around_bits : (v : Trace) → t ≡ values header (bit s) 0 ++ (values (field 8 "splice_command_type" ∷ []) (bit s) 104 ++ v)
        → Parts sized_command (under 9 descriptor_loop (bytes "alignment_stuffing")) (known s) (bit s) (8 * (length s - 4)) 112 j v
        → Laid s (first_cursor s) j t
    unfolding run end_of
    around_bits v trace q =
        let long : 20 ≤ length s = (accepted s e).long in
        let n : ℕ = q.mid / 8 in
        let byte : q.mid ≡ 8 * n = omega (arith, command_octets (known s) (bit s) (8 * (length s - 4)) 112 q.mid q.left refl q.came.reads) in
        let came : read sized_command (known s) (bit s) (8 * (length s - 4)) 112 ≡ reached (8 * n) q.left =
        q.came.reads ∙ ap (λ (i : ℕ). reached i q.left) byte in
        let went : Reads (under 9 descriptor_loop (bytes "alignment_stuffing")) (known s) (bit s) (8 * (length s - 4)) (8 * n) j q.right =
        subst (λ (i : ℕ). Reads (under 9 descriptor_loop (bytes "alignment_stuffing")) (known s) (bit s) (8 * (length s - 4)) i j q.right) byte q.went in
        subst (λ (c : Cursor). Laid s c j t) (sym (after_command s e h n (command_run s long ∙ ap end_of came)))
        (around n q.left q.right long came
        (trace ∙ ap (λ (w : Trace). values header (bit s) 0 ++ (values (field 8 "splice_command_type" ∷ []) (bit s) 104 ++ w)) q.joined) (under_parts went))

    -- the section's trace, by its parts
    pub first_trace : read splice_info_section [] (bit s) (8 * (length s - 4)) 0 ≡ reached j t → Laid s (first_cursor s) j t
    first_trace q = let body = unsealed (record { reads = q }) in around_bits body.0 body.2 (under_parts body.1)
