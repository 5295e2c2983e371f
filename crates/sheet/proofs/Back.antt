-- The numbers of an accepted section's sheet make its very bytes.
-- Assumes nothing.
use mathlib.Core.Path.{◌≡◌, refl, sym, ap, ap₂, ◌∙◌, subst}
use mathlib.Core.Bool.{Bool, true, cond}
use mathlib.Core.List.{List, [], ◌∷◌, ◌++◌}
use Prim.Native.Nat.{ℕ, zero, suc, ◌+◌, ◌-◌, ◌*◌, ◌^◌, ◌≤◌, ◌<◌}
use native.Mathlib.Nat.{add_assoc, add-zero}
use native.Mathlib.Omega.{arith}
use lib.ListN.{length, take, drop, replicate, length-replicate, length-take, length-drop, take-append-drop, get_or-eq_default}
use lib.Seq.{take_all, take-length, length-take-le, get_or-take}
use mathlib.Core.Logic.{⊎_elim}
use Rattle.bits.proofs.Cases.{le_or_lt}
use borrow.Author.Tests.{le-leb, lt-leb, eq-eqb}
use Rattle.bits.specs.Bits.{bit, num, written_of, write_all}
use Rattle.bits.proofs.Num.{num_lt}
use Rattle.bits.proofs.Bytes.{AreBytes, bit_lt, bits_ext}
use Rattle.bits.proofs.Within.{narrow, field_in, can_write}
use Rattle.bits.proofs.Parts.{bit_left, num_in_part}
use Rattle.bits.proofs.Fields.{within_length, length_written, written_bytes, write_read, all_elsewhere, length_all}
use Rattle.crc.specs.Crc.{crc32}
use Rattle.crc.proofs.Residue.{crc32_lt, be32_num, last_four}
use Rattle.grammar.specs.Syntax.{field}
use Rattle.grammar.specs.Meaning.{width_of, values}
use Rattle.grammar.specs.Traces.{Trace, rows_of, size, numbers, Spans}
use Rattle.grammar.proofs.RoundTrip.{trace_decides}
use Rattle.grammar.proofs.Traces.{Fits, size_append, spans_append}
use Rattle.fields.specs.Fields.{Plan}
use Rattle.layout.proofs.Follows.{trace_widths}
use Rattle.layout.proofs.Shape.{Thin, thin_append}
use Rattle.section.specs.Accept.{the}
use Rattle.sheet.specs.Sheet.{sheet_of, section_trace, room_for, plan_for, length_for, fitting, pairs, fields_between, filled, summed, section_of}
use Rattle.sheet_reading.proofs.Trace.{Whole, length_numbers, first, last, body, parts, sheet_numbers, sheet_length, body_length}
use Rattle.sheet_reading.proofs.Plans.{planned, from_sheet, plan_at, plan_number, widths_first, widths_last}

-- ---- fields written one after another

-- the fields of a trace, with their values
abbrev fields_of : Trace → List (ℕ × ℕ)
fields_of [] = []
fields_of (x ∷ t) = (width_of x.0, x.1) ∷ fields_of t

pairs_of : (t : Trace) → pairs (trace_widths t) (numbers t) ≡ fields_of t
unfolding numbers
pairs_of [] = refl
pairs_of (x ∷ t) = ap (λ (l : List (ℕ × ℕ)). (width_of x.0, x.1) ∷ l) (pairs_of t)

write_append : (m : List ℕ) (k : ℕ) (t u : Trace) → write_all m k (fields_of (t ++ u)) ≡ write_all (write_all m k (fields_of t)) (k + size t) (fields_of u)
unfolding write_all rows_of
write_append m k [] u = ap (λ (i : ℕ). write_all m i (fields_of u)) (sym (add-zero k))
write_append m k (x ∷ t) u =
    let m' : List ℕ = written_of m k (width_of x.0) x.1 in
    write_append m' (k + width_of x.0) t u
    ∙ ap (λ (i : ℕ). write_all (write_all m' (k + width_of x.0) (fields_of t)) i (fields_of u)) (add_assoc k (width_of x.0) (size t))

pub all_bytes : (m : List ℕ) (k : ℕ) (fs : List (ℕ × ℕ)) → AreBytes m → AreBytes (write_all m k fs)
unfolding write_all
all_bytes m k [] h = h
all_bytes m k (x ∷ fs) h = all_bytes (written_of m k x.0 x.1) (k + x.0) fs (written_bytes m k x.0 x.1 h)

-- where they fit, the bits then make the trace
write_spans : (m : List ℕ) (k : ℕ) (t : Trace) → Fits t → Thin t → k + size t ≤ 8 * length m → Spans (bit (write_all m k (fields_of t))) k t
unfolding write_all rows_of
write_spans m k [] a b h = tt
write_spans m k (x ∷ t) a b h =
    let w : ℕ = width_of x.0 in
    let m' : List ℕ = written_of m k w x.1 in
    let out : List ℕ = write_all m' (k + w) (fields_of t) in
    let long : length m' ≡ length m = length_written m k w x.1 in
    let same : length out ≡ length m = length_all m' (k + w) (fields_of t) ∙ long in
    let inside = narrow m k w b.1 ∙ le-leb (k + w) (8 * length m) (omega arith) in (
      sym (field_in out k w (within_length out m k w same ∙ inside))
          ∙ all_elsewhere m' (k + w) (fields_of t) k w (omega arith)
          ∙ write_read m k w x.1 (can_write m k w x.1 inside a.0),
      write_spans m' (k + w) t a.1 b.2 (omega (arith, long)),
    )

-- the values of a trace fit where bits make it
spans_fit : (s : List ℕ) (k : ℕ) (t : Trace) → Spans (bit s) k t → Fits t
spans_fit s k [] h = tt
spans_fit s k (x ∷ t) h = (subst (λ (v : ℕ). v < 2 ^ width_of x.0) h.0 (num_lt (bit s) (bit_lt s) k (width_of x.0)), spans_fit s (k + width_of x.0) t h.1)

pub front_bytes : (n : ℕ) (a : List ℕ) → AreBytes a → AreBytes (take n a)
front_bytes n a h i =
    ⊎_elim
    (λ past.
    let short : length (take n a) ≤ i = omega (arith, length-take n a, past) in
    rw (get_or-eq_default (take n a) 0 short) (omega arith))
    (λ inside. rw (get_or-take n a i 0 inside) (h i))
    (le_or_lt n i)

front_bit : (n : ℕ) (a : List ℕ) (i : ℕ) → n ≤ length a → i < 8 * n → bit (take n a) i ≡ bit a i
front_bit n a i l h =
    sym (bit_left (take n a) (drop n a) i (omega (arith, length-take-le n a l))) ∙ ap (λ (b : List ℕ). bit b i) (take-append-drop n a)

-- bytes with the same bits in front have the same front
same_front : (a b : List ℕ) (n : ℕ) → AreBytes a → AreBytes b → n ≤ length a → n ≤ length b → ((i : ℕ) → i < 8 * n → bit a i ≡ bit b i) → take n a ≡ take n b
same_front a b n ha hb la lb e =
    let long-a : length (take n a) ≡ n = length-take-le n a la in
    bits_ext (take n a) (take n b) (front_bytes n a ha) (front_bytes n b hb) (long-a ∙ sym (length-take-le n b lb))
    (λ i h.
    let here : i < 8 * n = omega (arith, long-a) in
    front_bit n a i la here ∙ e i here ∙ sym (front_bit n b i lb here))

-- the memory that a trace's fields are written to begins as the bytes whose trace it is
written_front : (s z : List ℕ) (t : Trace) (n : ℕ) → AreBytes s → AreBytes z → Spans (bit s) 0 t → Thin t → size t ≡ 8 * n → n ≤ length s → n ≤ length z
    → take n (write_all z 0 (fields_of t)) ≡ take n s
written_front s z t n hs hz a b size-n ls lz =
    let out : List ℕ = write_all z 0 (fields_of t) in
    let long : length out ≡ length z = length_all z 0 (fields_of t) in
    let again : Spans (bit out) 0 t = write_spans z 0 t (spans_fit s 0 t a) b (omega (arith, size-n)) in
    same_front out s n (all_bytes z 0 (fields_of t) hz) hs (omega (arith, long)) ls
    (λ i h. trace_decides (bit out) (bit s) (bit_lt out) (bit_lt s) 0 t again a i (omega arith) (omega (arith, size-n)))

-- zeros are bytes
pub zero_bytes : (n : ℕ) → AreBytes (replicate n 0)
zero_bytes zero i = omega arith
zero_bytes (suc n) zero = omega arith
zero_bytes (suc n) (suc i) = zero_bytes n i

-- what is cleared is enough, and no more than the most
pub room_enough : (n few many : ℕ) → n ≤ many → n ≤ room_for n few many
room_enough n few many h =
    ⊎_elim (λ l. rw (le-leb n few l) l) (λ l. rw (lt-leb n few l) h) (le_or_lt n few)

pub room_most : (n few many : ℕ) → few ≤ many → room_for n few many ≤ many
room_most n few many h = ⊎_elim (λ l. rw (le-leb n few l) h) (λ l. rw (lt-leb n few l) (omega arith)) (le_or_lt n few)

-- ---- the section

module _ (s : List ℕ) (bytes : AreBytes s) (w : Whole s) where
  abbrev x : List ℕ
  x = sheet_of s

  abbrev count : ℕ
  count = length s - 4

  -- long enough memory, all zeros
  abbrev zeros : ℕ → List ℕ
  zeros n = replicate n 0

  -- as much as is cleared for so many numbers
  abbrev m : List ℕ
  m = zeros (room_for (length x) 256 32768)

  few : length x ≤ 32768
  few = omega (arith, sheet_length s w, body_length s w, w.rows.fits)

  room : 11 + length (body s w) ≤ length m
  room = omega (arith, length-replicate {A = ℕ} (room_for (length x) 256 32768) 0, sheet_length s w, room_enough (length x) 256 32768 few)

  short : length m ≤ 32768
  short = omega (arith, length-replicate {A = ℕ} (room_for (length x) 256 32768) 0, room_most (length x) 256 32768 (omega arith))

  abbrev plan : Plan
  plan = planned s w m room short

  plan_for_lem : plan_for x ≡ plan
  unfolding plan_for
  plan_for_lem = from_sheet s w m room short []

  place : (plan_for x).at ≡ 8 * count
  place = ap (λ (π : Plan). π.at) plan_for_lem ∙ plan_at s w m room short

  length_for_lem : length_for x ≡ length s
  unfolding length_for
  length_for_lem = let long : 20 ≤ length s = w.rows.long in omega (arith, place)

  fits_all : fitting x ≡ true
  unfolding fitting
  fits_all =
      let enough : 11 ≤ length x = omega (arith, sheet_length s w) in
      let small : (plan_for x).at ≤ 32736 = omega (arith, place, w.rows.fits) in
      let same : (plan_for x).number ≡ length x = ap (λ (π : Plan). π.number) plan_for_lem ∙ plan_number s w m room short in
      rw (le-leb 11 (length x) enough, le-leb (length x) 32768 few, le-leb (plan_for x).at 32736 small, eq-eqb (plan_for x).number (length x) same)

  length_field : the s "section_length" ≡ num (bit s) 12 12
  unfolding the
  length_field = refl

  -- the fields that are written are those of the whole trace
  filled_trace : (n : ℕ) (z : List ℕ) → n ≡ length s → filled x n (plan_for x).widths z ≡ write_all z 0 (fields_of (section_trace s))
  unfolding filled write_all values numbers
  filled_trace n z e =
      let last-count : length x - 4 ≡ length (numbers (last s (body s w))) = omega (arith, sheet_length s w, length_numbers (body s w)) in
      let ws-first : take 4 (plan_for x).widths ≡ trace_widths (first s) =
      ap (λ (π : Plan). take 4 π.widths) plan_for_lem ∙ widths_first s w m room short in
      let ws-last : take (length x - 4) (drop 4 (plan_for x).widths) ≡ trace_widths (last s (body s w)) =
      ap (λ (π : Plan). take (length x - 4) (drop 4 π.widths)) plan_for_lem ∙ widths_last s w m room short in
      let xs-first : take 4 x ≡ numbers (first s) = ap (take 4) (sheet_numbers s w) in
      let xs-last : take (length x - 4) (drop 4 x) ≡ numbers (last s (body s w)) =
      ap₂ (λ (i : ℕ) (l : List ℕ). take i (drop 4 l)) last-count (sheet_numbers s w) ∙ take-length (numbers (last s (body s w))) in
      let front : fields_between 0 4 (plan_for x).widths x ≡ fields_of (first s) = ap₂ pairs ws-first xs-first in
      let back : fields_between 4 (length x) (plan_for x).widths x ≡ fields_of (last s (body s w)) = ap₂ pairs ws-last xs-last ∙ pairs_of (last s (body s w)) in
      let size-there : n - 3 ≡ num (bit s) 12 12 = omega (arith, w.rows.sized, length_field, e) in
      ap₂ (λ (a b : List (ℕ × ℕ)). write_all (written_of (write_all z 0 a) 12 12 (n - 3)) 24 b) front back
      ∙ ap (λ (v : ℕ). write_all (written_of (write_all z 0 (fields_of (first s))) 12 12 v) 24 (fields_of (last s (body s w)))) size-there
      ∙ ap (λ (t : Trace). write_all z 0 (fields_of t)) (sym (parts s w))

  -- CRC_32, as one row more
  abbrev sum : Trace
  sum = (field 32 "CRC_32", crc32 (take count s)) ∷ []

  sum_there : num (bit s) (8 * count) 32 ≡ crc32 (take count s)
  sum_there =
      let long : 20 ≤ length s = w.rows.long in
      let four : length (drop count s) ≤ 4 = omega (arith, length-drop count s) in
      let here : 8 * count + 0 ≡ 8 * count = omega arith in
      ap (λ (k : ℕ). num (bit s) k 32) (sym here)
      ∙ sym (num_in_part s count 4 0 32 (omega arith))
      ∙ ap (λ (l : List ℕ). num (bit l) 0 32) (take_all 4 (drop count s) four ∙ last_four s bytes (omega arith) w.rows.sum)
      ∙ be32_num (crc32 (take count s)) (crc32_lt (take count s))

  spans_sum : Spans (bit s) 0 (section_trace s ++ sum)
  spans_sum =
      let at : 0 + size (section_trace s) ≡ 8 * count = omega (arith, w.covered) in
      spans_append (bit s) 0 (section_trace s) sum w.spanned (ap (λ (k : ℕ). num (bit s) k 32) at ∙ sum_there, tt)

  thin_sum : Thin (section_trace s ++ sum)
  thin_sum = thin_append (section_trace s) sum w.thin (omega arith, omega arith, tt)

  size_sum : size (section_trace s ++ sum) ≡ 8 * length s
  unfolding rows_of
  size_sum = let long : 20 ≤ length s = w.rows.long in omega (arith, size_append (section_trace s) sum, w.covered)

  -- in any memory that is long enough
  made : (n : ℕ) (z : List ℕ) → n ≡ length s → length s ≤ length z → AreBytes z → take n (summed n (filled x n (plan_for x).widths z)) ≡ s
  unfolding summed write_all rows_of
  made n z e long-z hz =
      let long : 20 ≤ length s = w.rows.long in
      let m : List ℕ = write_all z 0 (fields_of (section_trace s)) in
      let there : filled x n (plan_for x).widths z ≡ m = filled_trace n z e in
      let front : take count m ≡ take count s =
      written_front s z (section_trace s) count bytes hz w.spanned w.thin w.covered (omega arith) (omega (arith, long-z)) in
      let at : 8 * (n - 4) ≡ 0 + size (section_trace s) = omega (arith, w.covered, e) in
      let before : n - 4 ≡ count = omega (arith, e) in
      let last_row : written_of m (8 * (n - 4)) 32 (crc32 (take (n - 4) m)) ≡ write_all z 0 (fields_of (section_trace s ++ sum)) =
      ap₂ (λ (k v : ℕ). written_of m k 32 v) at (ap (λ (i : ℕ). crc32 (take i m)) before ∙ ap crc32 front)
      ∙ sym (write_append z 0 (section_trace s) sum) in
      ap (λ (l : List ℕ). take n (written_of l (8 * (n - 4)) 32 (crc32 (take (n - 4) l)))) there
      ∙ ap₂ take e last_row
      ∙ written_front s z (section_trace s ++ sum) (length s) bytes hz spans_sum thin_sum size_sum (omega arith) (omega (arith, long-z))
      ∙ take-length s

  -- the numbers of its sheet make its bytes
  pub back : section_of x ≡ s
  unfolding section_of
  back =
      let n : ℕ = length_for x in
      let z : ℕ = room_for n 256 4096 in
      let long : length s ≤ length (zeros z) =
      omega (arith, length-replicate {A = ℕ} z 0, length_for_lem, room_enough n 256 4096 (omega (arith, length_for_lem, w.rows.fits))) in
      ap (λ (b : Bool). cond b (take n (summed n (filled x n (plan_for x).widths (zeros z)))) []) fits_all
      ∙ made n (zeros z) length_for_lem long (zero_bytes z)
