-- What the grammar reads of an accepted section: the header's fields and then the rest, each with 1 to 48 bits, its number as the
-- bits make it, all bytes before CRC_32 and no more.
-- Assumes nothing.
use mathlib.Core.Path.{◌≡◌, refl, sym, ap, ◌∙◌, subst}
use mathlib.Core.List.{List, [], ◌∷◌, ◌++◌}
use Prim.Native.Nat.{ℕ, suc, ◌+◌, ◌-◌, ◌*◌, ◌≤◌}
use native.Mathlib.Nat.{add_assoc, add-zero}
use native.Mathlib.Omega.{arith}
use lib.ListN.{length}
use Rattle.bits.specs.Bits.{bit, num}
use Rattle.grammar.specs.Syntax.{Item, field, reserved}
use Rattle.grammar.specs.Meaning.{width_of, values, reached, read}
use Rattle.grammar.specs.Tables.{splice_info_section}
use Rattle.grammar.specs.Traces.{Trace, rows_of, size, numbers, Spans, trace_of}
use Rattle.grammar.proofs.Ends.{covers, trace_spans, ends_within}
use Rattle.layout.proofs.Shape.{Thin, thin_length, section_thin}
use Rattle.layout.proofs.Planned.{Body, body_of}
use Rattle.std.specs.Prelude.{Ok}
use Rattle.section.specs.Accept.{accept_of}
use Rattle.section.proofs.Accepted.{Allowed, accepted, has_trace}
use Rattle.sheet_reading.specs.SheetOf.{section_trace, sheet_of, unsized}

pub length_numbers : (t : Trace) → length (numbers t) ≡ length t
unfolding numbers
length_numbers [] = refl
length_numbers (x ∷ t) = ap suc (length_numbers t)

-- what is known of an accepted section
pub record Whole (s : List ℕ) : Type 0 where
  pub rows : Allowed s
  -- how its fields lie
  pub fields : Body s (8 * (length s - 4)) (section_trace s)
  pub spanned : Spans (bit s) 0 (section_trace s)
  pub thin : Thin (section_trace s)
  pub covered : size (section_trace s) ≡ 8 * (length s - 4)

module _ (s : List ℕ) (e : accept_of s ≡ Ok tt) where
  of_reading : (j : ℕ) (t : Trace) → read splice_info_section [] (bit s) (8 * (length s - 4)) 0 ≡ reached j t → Whole s
  unfolding section_trace trace_of
  of_reading j t q =
      let rows : Allowed s = accepted s e in
      let end : ℕ = 8 * (length s - 4) in
      let same : section_trace s ≡ t = ap trace_of q in
      let body : Body s j t = body_of s rows.long j t q in
      let within = ends_within splice_info_section [] (bit s) end 0 j t q (omega arith) in
      let place : j ≡ end = omega (arith, body.all, within.1) in
      record {
        rows = rows;
        fields = subst (λ (i : ℕ). Body s i (section_trace s)) place (subst (Body s j) (sym same) body);
        spanned = subst (Spans (bit s) 0) (sym same) (trace_spans splice_info_section [] (bit s) end 0 j t q);
        thin = subst Thin (sym same) (section_thin (bit s) end j t q);
        covered = ap size same ∙ omega (arith, covers splice_info_section [] (bit s) end 0 j t q, place);
      }

  pub whole : Whole s
  whole = let q = has_trace s e in of_reading q.0 q.1 q.2

-- ---- the trace around section_length

-- Table 5 before section_length, and between it and splice_command_type
abbrev pub before : List Item
before = field 8 "table_id" ∷ field 1 "section_syntax_indicator" ∷ field 1 "private_indicator" ∷ reserved 2 ∷ []

abbrev pub after : List Item
after =
    field 8 "protocol_version" ∷ field 1 "encrypted_packet" ∷ field 6 "encryption_algorithm" ∷ field 33 "pts_adjustment"
    ∷ field 8 "cw_index" ∷ field 12 "tier" ∷ field 12 "splice_command_length" ∷ []

-- what is read before it, it, and what is read after it
abbrev pub first : List ℕ → Trace
first s = values before (bit s) 0

abbrev pub sized : List ℕ → Item × ℕ
sized s = (field 12 "section_length", num (bit s) 12 12)

abbrev pub last : List ℕ → Trace → Trace
last s body = values after (bit s) 24 ++ body

pub spans_parts : (f : ℕ → ℕ) (k : ℕ) (u v : Trace) → Spans f k (u ++ v) → Spans f k u × Spans f (k + size u) v
unfolding rows_of
spans_parts f k [] v h = (tt, rw add-zero h)
spans_parts f k (x ∷ u) v h =
    let more = spans_parts f (k + width_of x.0) u v h.1 in
    ((h.0, more.0), rw (← add_assoc) more.1)

pub thin_parts : (u v : Trace) → Thin (u ++ v) → Thin u × Thin v
thin_parts [] v h = (tt, h)
thin_parts (x ∷ u) v h = let more = thin_parts u v h.2 in ((h.0, h.1, more.0), more.1)

module _ (s : List ℕ) (w : Whole s) where
  abbrev pub body : Trace
  body = w.fields.body

  pub parts : section_trace s ≡ first s ++ (sized s ∷ last s body)
  unfolding values
  parts = w.fields.whole

  -- the sheet has the numbers before and after
  pub sheet_numbers : sheet_of s ≡ numbers (first s) ++ numbers (last s body)
  unfolding sheet_of values numbers
  sheet_numbers = ap (λ (t : Trace). unsized (numbers t)) parts

  pub first_spans : Spans (bit s) 0 (first s)
  first_spans = (spans_parts (bit s) 0 (first s) (sized s ∷ last s body) (subst (Spans (bit s) 0) parts w.spanned)).0

  pub last_spans : Spans (bit s) 24 (last s body)
  unfolding values rows_of
  last_spans = (spans_parts (bit s) 0 (first s) (sized s ∷ last s body) (subst (Spans (bit s) 0) parts w.spanned)).1.1

  pub first_thin : Thin (first s)
  first_thin = (thin_parts (first s) (sized s ∷ last s body) (subst Thin parts w.thin)).0

  pub last_thin : Thin (last s body)
  last_thin = (thin_parts (first s) (sized s ∷ last s body) (subst Thin parts w.thin)).1.2

  pub body_spans : Spans (bit s) 104 body
  unfolding values rows_of
  body_spans = (spans_parts (bit s) 24 (values after (bit s) 24) body last_spans).1

  pub body_thin : Thin body
  body_thin = (thin_parts (values after (bit s) 24) body last_thin).1

  -- how many bits and how many fields
  pub body_size : 104 + size body ≡ 8 * (length s - 4)
  unfolding values rows_of
  body_size = omega (arith, ap size parts, w.covered)

  pub last_size : 24 + size (last s body) ≡ 8 * (length s - 4)
  unfolding values rows_of
  last_size = omega (arith, ap size parts, w.covered)

  pub sheet_length : length (sheet_of s) ≡ 11 + length body
  unfolding values numbers
  sheet_length = ap length sheet_numbers ∙ omega (arith, length_numbers body)

  pub body_length : 12 + length body ≤ 8 * (length s - 4)
  unfolding values
  body_length = omega (arith, ap length parts, thin_length (section_trace s) w.thin, w.covered)
