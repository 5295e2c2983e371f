-- The plan of an accepted section: the same from its bits and from its sheet, it has a field for each number of the sheet, with the
-- widths of what the grammar reads.
-- Assumes nothing.
use mathlib.Core.Path.{◌≡◌, refl, sym, ap, ap₂, ◌∙◌, subst}
use mathlib.Core.Bool.{Bool, cond}
use mathlib.Core.List.{List, [], ◌∷◌, ◌++◌, append_assoc}
use Prim.Native.Nat.{ℕ, suc, ◌+◌, ◌-◌, ◌*◌, ◌/◌, ◌^◌, ◌≤◌, ◌<◌}
use native.Mathlib.Omega.{arith}
use lib.ListN.{length, get_or, take, drop, length-append}
use lib.Seq.{sets-eq, take-append_seam, length-take-le}
use borrow.Author.Tests.{ne_eqb, lt-ltb}
use Rattle.units.proofs.Put.{sets_append}
use Rattle.std.proofs.lemmas.List.{take_at, drop_at}
use borrow.Rule.Slice.PartMut.{put_mid, Post-is}
use Rattle.bits.specs.Bits.{bit, num, field_of, read_all}
use Rattle.bits.proofs.Num.{num_lt}
use Rattle.bits.proofs.Bytes.{bit_lt}
use Rattle.bits.proofs.Within.{field_there}
use Rattle.grammar.specs.Meaning.{width_of, values}
use Rattle.grammar.specs.Traces.{Trace, rows_of, size, numbers, Spans}
use Rattle.fields.specs.declared.Place.{Place}
use Rattle.std.specs.Prelude.{Ok}
use Rattle.section.specs.Accept.{accept_of}
use Rattle.fields.specs.Fields.{plan, held, source, Plan, advance}
use Rattle.layout.specs.Layout.{header_widths, left, plan_of}
use Rattle.layout.proofs.Follows.{trace_widths, length_widths, total_size, Tells}
use Rattle.layout.proofs.Planned.{Told, start}
use Rattle.layout.proofs.Shape.{Thin}
use Rattle.sheet_reading.specs.SheetOf.{sheet_of, Laid}
use Rattle.sheet_reading.proofs.Trace.{Whole, whole, after, first, last, body, sheet_numbers, first_spans, last_spans, first_thin, last_thin, body_spans, body_thin, body_size, last_size, sheet_length, body_length}

-- ---- lists

-- ---- fields that are there

-- what a trace says of the bytes is what reading its fields gives
pub read_trace : (s : List ℕ) (k : ℕ) (t : Trace) → Spans (bit s) k t → Thin t → k + size t ≤ 8 * length s → read_all s k (trace_widths t) ≡ numbers t
unfolding read_all numbers rows_of
read_trace s k [] a b h = refl
read_trace s k (x ∷ t) a b h =
    ap₂ ◌∷◌ (field_there s k (width_of x.0) b.1 (omega arith) ∙ a.0)
    (read_trace s (k + width_of x.0) t a.1 b.2 (omega arith))

-- ---- the numbers that stand there

-- the section's own bits tell its trace
tells_bits : (s : List ℕ) (k i : ℕ) (t : Trace) → Spans (bit s) k t → Thin t → k + size t ≤ 8 * length s → Tells (source s []) k i t
unfolding source rows_of
tells_bits s k i [] a b h = tt
tells_bits s k i (x ∷ t) a b h =
    (field_there s k (width_of x.0) b.1 (omega arith) ∙ a.0, tells_bits s (k + width_of x.0) (i + 1) t a.1 b.2 (omega arith))

-- a number that the bits hold
held_all : (x w : ℕ) → x < 2 ^ w → held x w ≡ x
unfolding held
held_all x w h = ap (λ (b : Bool). cond b x 0) (lt-ltb x (2 ^ w) h)

module _ (s s' x : List ℕ) (some : 0 < length x) where
  -- a number of the sheet that the bits hold
  on_sheet : (k i w v : ℕ) → get_or x i 0 ≡ v → v < 2 ^ w → source s' x k i w ≡ v
  unfolding source
  on_sheet k i w v e h =
      ap (λ (b : Bool). cond b (field_of s' k w) (held (get_or x i 0) w)) (ne_eqb (length x) 0 (λ z. omega arith))
      ∙ ap (λ (y : ℕ). held y w) e ∙ held_all v w h

  -- its numbers tell the trace that they are of
  tells_numbers : (pre : List ℕ) (k i : ℕ) (t : Trace) → x ≡ pre ++ numbers t → i ≡ length pre → Spans (bit s) k t → Tells (source s' x) k i t
  unfolding numbers
  tells_numbers pre k i [] e n a = tt
  tells_numbers pre k i (y ∷ t) e n a = (
    on_sheet k i (width_of y.0) y.1 (ap₂ (λ (l : List ℕ) (j : ℕ). get_or l j 0) e n ∙ at_seam pre y.1 (numbers t))
        (subst (λ (v : ℕ). v < 2 ^ width_of y.0) a.0 (num_lt (bit s) (bit_lt s) k (width_of y.0))),
    tells_numbers (pre ++ (y.1 ∷ [])) (k + width_of y.0) (i + 1) t (e ∙ sym (append_assoc pre (y.1 ∷ []) (numbers t)))
        (omega (arith, n, length-append pre (y.1 ∷ []))) a.1,
  )
    where
      at_seam : (l : List ℕ) (v : ℕ) (r : List ℕ) → get_or (l ++ (v ∷ r)) (length l) 0 ≡ v
      at_seam [] v r = refl
      at_seam (z ∷ l) v r = at_seam l v r

module _ (s : List ℕ) (w : Whole s) where
  -- its own bits tell it
  pub told_bits : Told s s [] (body s w)
  unfolding source left
  told_bits =
      let long : 20 ≤ length s = w.rows.long in
      record {
        sealed = field_there s 32 1 (omega arith) (omega arith);
        length = field_there s 92 12 (omega arith) (omega arith);
        told = tells_bits s 104 11 (body s w) (body_spans s w) (body_thin s w) (omega (arith, body_size s w));
        over = λ n π at number. omega (arith, at);
      }

  -- and so does its sheet
  pub told_sheet : (s' : List ℕ) → Told s s' (sheet_of s) (body s w)
  unfolding left values numbers
  told_sheet s' =
      let x : List ℕ = sheet_of s in
      let ns : x ≡ numbers (first s) ++ numbers (last s (body s w)) = sheet_numbers s w in
      let some : 0 < length x = omega (arith, sheet_length s w) in
      let pre : List ℕ = numbers (first s) ++ numbers (values after (bit s) 24) in
      record {
        sealed = on_sheet s s' x some 32 5 1 (num (bit s) 32 1) (ap (λ (l : List ℕ). get_or l 5 0) ns) (num_lt (bit s) (bit_lt s) 32 1);
        length = on_sheet s s' x some 92 10 12 (num (bit s) 92 12) (ap (λ (l : List ℕ). get_or l 10 0) ns) (num_lt (bit s) (bit_lt s) 92 12);
        told = tells_numbers s s' x some pre 104 11 (body s w) ns refl (body_spans s w);
        over = λ n π at number.
            ap (λ (b : Bool). cond b (length s' - 4 - π.at / 8) (length x - π.number)) (ne_eqb (length x) 0 (λ z. omega arith))
            ∙ omega (arith, sheet_length s w, number);
      }

  -- the plan, in memory that is long enough
  module _ (m : List ℕ) (room : 11 + length (body s w) ≤ length m) (short : length m ≤ 32768) where
    abbrev pub planned : Plan
    planned = advance (trace_widths (body s w)) (start m)

    pub from_bits : plan_of s [] m ≡ planned
    from_bits = w.fields.planned s [] m told_bits room short

    pub from_sheet : (s' : List ℕ) → plan_of s' (sheet_of s) m ≡ planned
    from_sheet s' = w.fields.planned s' (sheet_of s) m (told_sheet s') room short

    pub plan_at : planned.at ≡ 8 * (length s - 4)
    unfolding advance
    plan_at = omega (arith, total_size (body s w), body_size s w)

    pub plan_number : planned.number ≡ length (sheet_of s)
    unfolding advance
    plan_number = omega (arith, length_widths (body s w), sheet_length s w)

    -- the widths, and what is left of the memory
    abbrev over : List ℕ
    over = drop (11 + length (trace_widths (body s w))) m

    pub plan_widths : planned.widths ≡ trace_widths (first s) ++ (trace_widths (last s (body s w)) ++ over)
    unfolding advance values
    plan_widths =
        let ws : List ℕ = trace_widths (body s w) in
        let count : length (header_widths ++ ws) ≡ 11 + length ws = omega arith in
        let place : 0 + length (header_widths ++ ws) ≡ 11 + length ws = omega arith in
        sym (sets_append m 0 header_widths ws)
        ∙ sets-eq (header_widths ++ ws) m 0 (omega (arith, count, length_widths (body s w), room))
        ∙ ap (λ (n : ℕ). (header_widths ++ ws) ++ drop n m) place

    -- the widths before section_length, and those after it
    pub widths_first : take 4 planned.widths ≡ trace_widths (first s)
    unfolding values
    widths_first = ap (take 4) plan_widths

    pub widths_last : take (length (sheet_of s) - 4) (drop 4 planned.widths) ≡ trace_widths (last s (body s w))
    unfolding values
    widths_last =
        let ws : List ℕ = trace_widths (last s (body s w)) in
        let count : length (sheet_of s) - 4 ≡ length ws = omega (arith, sheet_length s w, length_widths (body s w)) in
        ap₂ (λ (n : ℕ) (l : List ℕ). take n (drop 4 l)) count plan_widths ∙ take-append_seam ws over

    -- reading these fields gives the sheet
    pub reads_sheet : sheet_of s ≡ read_all s 0 (take 4 planned.widths) ++ read_all s 24 (take (length (sheet_of s) - 4) (drop 4 planned.widths))
    unfolding values rows_of
    reads_sheet =
        let long : 20 ≤ length s = w.rows.long in
        sheet_numbers s w
        ∙ sym
        (ap₂ (λ (a b : List ℕ). read_all s 0 a ++ read_all s 24 b) widths_first widths_last
        ∙ ap₂ ◌++◌ (read_trace s 0 (first s) (first_spans s w) (first_thin s w) (omega arith))
        (read_trace s 24 (last s (body s w)) (last_spans s w) (last_thin s w) (omega (arith, last_size s w))))

-- ---- what the code's plan of an accepted section is

pub laid_out : (s m : List ℕ) {p : Place} {ws : List ℕ} → accept_of s ≡ Ok tt → 8 * length s ≤ length m → length m ≤ 32768
    → plan p ws ≡ plan_of s [] m → Laid s m p.number ws
laid_out s m {p} {ws} a long short e =
    let w : Whole s = whole s a in
    let room : 11 + length (body s w) ≤ length m = omega (arith, long, body_length s w) in
    let same : plan p ws ≡ planned s w m room short = e ∙ from_bits s w m room short in
    let count : p.number ≡ length (sheet_of s) = ap (λ (π : Plan). π.number) same ∙ plan_number s w m room short in
    let memory : ws ≡ (planned s w m room short).widths = ap (λ (π : Plan). π.widths) same in
    record {
      number = count;
      enough = omega (arith, count, sheet_length s w);
      inside = omega (arith, count, sheet_length s w, room);
      reads =
          reads_sheet s w m room short
          ∙ sym (ap₂ (λ (l : List ℕ) (n : ℕ). read_all s 0 (take 4 l) ++ read_all s 24 (take (n - 4) (drop 4 l))) memory count);
    }

-- ---- numbers put into lent memory

pub length_read : (s : List ℕ) (k : ℕ) (ws : List ℕ) → length (read_all s k ws) ≡ length ws
unfolding read_all
length_read s k [] = refl
length_read s k (w ∷ ws) = ap suc (length_read s (k + w) ws)

-- the fields before section_length and those after it, put into the same places, are the sheet in front of the memory
pub sheet_put : (s m : List ℕ) {n : ℕ} {ws : List ℕ} (out : List ℕ) → 4 ≤ length ws → Laid s m n ws
    → put_mid 4 (n - 4) (read_all s 0 (take 4 ws) ++ drop 4 out) (read_all s 24 (take (n - 4) (drop 4 ws))) ≡ sheet_of s ++ drop (length (sheet_of s)) out
sheet_put s m {n} {ws} out enough l =
    let a : List ℕ = read_all s 0 (take 4 ws) in
    let b : List ℕ = read_all s 24 (take (n - 4) (drop 4 ws)) in
    let four : length a ≡ 4 = length_read s 0 (take 4 ws) ∙ length-take-le 4 ws enough in
    ap₂ (λ (u v : List ℕ). u ++ (b ++ drop (n - 4) v)) (take_at a (drop 4 out) 4 four) (drop_at a (drop 4 out) 4 four)
    ∙ ap (λ (v : List ℕ). a ++ (b ++ v)) (Post-is 4 n out (omega (arith, l.enough)))
    ∙ sym (append_assoc a b (drop n out))
    ∙ ap₂ (λ (x : List ℕ) (k : ℕ). x ++ drop k out) (sym l.reads) l.number
