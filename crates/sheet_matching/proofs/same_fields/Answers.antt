-- `sheet_matching::same_fields` meets its contract. The loop's invariant: the fields that are left are the same as on the sheet just if all are.
-- Assumes nothing.
use Rattle.std.proofs.Common.{◌≡◌, ◌+◌, ◌<◌, ◌≤◌, ℕ, List, length, get_or, drop, true, false, ◌&&◌, ◌∙◌, arith, eqb, drop-cons, add-one}
use Rattle.std.proofs.lemmas.List.{length_push}
use Rattle.std.proofs.lemmas.Slice.Zip.{zip_turn, zip_end}
use Rattle.std.proofs.Math.ListN.{drop_of_length-le}
use borrow.Author.Tests.{eq-eqb, ne_eqb}
use Rattle.bits.specs.Bits.{field_of, read_all}
use Rattle.sheet_matching.specs.Matching.{same}
use Rattle.sheet_matching.proofs.same_fields.Goals as goal

module _ (s ws xs : List ℕ) (place i : ℕ) (h : i < length ws) (k : i < length xs) where
  -- this field and those after it
  same_next : same (read_all s place (drop i ws)) (drop i xs)
      ≡ (eqb (field_of s place (get_or ws i 0)) (get_or xs i 0) && same (read_all s (place + get_or ws i 0) (drop (i + 1) ws)) (drop (i + 1) xs))
  unfolding same read_all
  same_next = rw (add-one, drop-cons ws i 0 h, drop-cons xs i 0 k)

  same_not : {w x v : ℕ} → w ≡ get_or ws i 0 → x ≡ get_or xs i 0 → v ≡ field_of s place w → (v ≡ x → ⊥) → false ≡ same (read_all s place (drop i ws)) (drop i xs)
  same_not a b e d = rw (same_next, ← a, ← b, ← e, ne_eqb _ _ d)

  same_on : {w x v n : ℕ} → w ≡ get_or ws i 0 → x ≡ get_or xs i 0 → v ≡ field_of s place w → v ≡ x → n ≡ i + 1
      → same (read_all s (place + w) (drop n ws)) (drop n xs) ≡ same (read_all s place (drop i ws)) (drop i xs)
  same_on a b e d n = rw (n, same_next, ← a, ← b, ← e, eq-eqb _ _ d)

-- nothing is left
same_end : (s ws xs : List ℕ) (place i : ℕ) → length ws ≤ i → length xs ≤ i → true ≡ same (read_all s place (drop i ws)) (drop i xs)
unfolding same read_all
same_end s ws xs place i h k = rw (drop_of_length-le ws h, drop_of_length-le xs k)

pub overflow_add-place : goal.overflow_add-place
overflow_add-place c =
    let turn = zip_turn c.args.sheet.now c.args.widths.now c.loop-number.yielded c.into_iter-number-iterator.result c.loop-number.number-iterator c.next.new.self c.next.result (cc) (cc) c.loop-number.yielded_by (c.in-Some.number, c.in-Some.width) c.in-Some.is c.next.ensures.steps in
    omega (arith, c.type_inv.widths (length c.loop-number.yielded), turn.3 0)

pub returns-then-read-number : goal.returns-then-read-number
returns-then-read-number c =
    let turn = zip_turn c.args.sheet.now c.args.widths.now c.loop-number.yielded c.into_iter-number-iterator.result c.loop-number.number-iterator c.next.new.self c.next.result (cc) (cc) c.loop-number.yielded_by (c.in-Some.number, c.in-Some.width) c.in-Some.is c.next.ensures.steps in
    same_not c.args.section.now c.args.widths.now c.args.sheet.now c.loop-number.place (length c.loop-number.yielded) turn.1 turn.0
    (c.from-width.ensures ∙ turn.3 0) (turn.2 0) c.read.ensures c.if-read-number.true
    ∙ c.loop-number.invariant.3

pub loop-number-preserved : goal.loop-number-preserved
loop-number-preserved c =
    let turn = zip_turn c.args.sheet.now c.args.widths.now c.loop-number.yielded c.into_iter-number-iterator.result c.loop-number.number-iterator c.next.new.self c.next.result (cc) (cc) c.loop-number.yielded_by (c.in-Some.number, c.in-Some.width) c.in-Some.is c.next.ensures.steps in
    let more = length_push c.loop-number.yielded (c.in-Some.number, c.in-Some.width) in (
      (tt, tt),
      tt,
      omega (arith, more, c.type_inv.widths (length c.loop-number.yielded), turn.3 0, c.from-width.ensures),
      same_on c.args.section.now c.args.widths.now c.args.sheet.now c.loop-number.place (length c.loop-number.yielded) turn.1 turn.0
          (c.from-width.ensures ∙ turn.3 0) (turn.2 0) c.read.ensures c.if-read-number.false more
          ∙ c.loop-number.invariant.3,
    )

pub returns : goal.returns
returns c =
    let count = zip_end c.args.sheet.now c.args.widths.now c.loop-number.yielded c.into_iter-number-iterator.result c.loop-number.number-iterator c.next.new.self c.next.result (cc) (cc) c.loop-number.yielded_by c.in-None.is c.next.ensures.steps in
    same_end c.args.section.now c.args.widths.now c.args.sheet.now c.loop-number.place (length c.loop-number.yielded) (omega (arith, count)) (omega (arith, count))
    ∙ c.loop-number.invariant.3
