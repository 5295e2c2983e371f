-- `sheet::write_fields` meets its contract. The loop's invariant: writing the fields that are left gives what writing all of them gives.
-- Assumes nothing.
use Rattle.std.proofs.Common.{◌≡◌, ◌+◌, ◌<◌, ◌≤◌, ℕ, List, length, get_or, drop, ◌∙◌, arith, drop-cons, add-one}
use Rattle.std.proofs.lemmas.List.{length_push}
use Rattle.std.proofs.lemmas.Slice.Zip.{zip_turn, zip_end}
use Rattle.std.proofs.Math.ListN.{drop_of_length-le}
use Rattle.bits.specs.Bits.{written_of, write_all}
use Rattle.sheet.specs.Sheet.{pairs}
use Rattle.sheet.proofs.write_fields.Goals as goal

module _ (ws xs : List ℕ) (place i : ℕ) where
  -- this field and those after it
  write_next : (s : List ℕ) {l : List ℕ} {w x n : ℕ} → i < length ws → i < length xs → w ≡ get_or ws i 0 → x ≡ get_or xs i 0 → l ≡ written_of s place w x → n ≡ i + 1
      → write_all l (place + w) (pairs (drop n ws) (drop n xs)) ≡ write_all s place (pairs (drop i ws) (drop i xs))
  unfolding write_all
  write_next s h k a b e n = rw (e, n, add-one, drop-cons ws i 0 h, drop-cons xs i 0 k, ← a, ← b)

  -- nothing is left
  write_end : (s : List ℕ) → length ws ≤ i → s ≡ write_all s place (pairs (drop i ws) (drop i xs))
  unfolding write_all
  write_end s h = rw (drop_of_length-le ws h)

pub overflow_add-place : goal.overflow_add-place
overflow_add-place c =
    let turn = zip_turn c.args.sheet.now c.args.widths.now c.loop-number.yielded c.into_iter-number-iterator.result c.loop-number.number-iterator c.next.new.self c.next.result (cc) (cc) c.loop-number.yielded_by (c.in-Some.number, c.in-Some.width) c.in-Some.is c.next.ensures.steps in
    omega (arith, c.type_inv.widths (length c.loop-number.yielded), turn.3 0)

pub loop-number-preserved : goal.loop-number-preserved
loop-number-preserved c =
    let turn = zip_turn c.args.sheet.now c.args.widths.now c.loop-number.yielded c.into_iter-number-iterator.result c.loop-number.number-iterator c.next.new.self c.next.result (cc) (cc) c.loop-number.yielded_by (c.in-Some.number, c.in-Some.width) c.in-Some.is c.next.ensures.steps in
    let more = length_push c.loop-number.yielded (c.in-Some.number, c.in-Some.width) in (
      (tt, tt),
      tt,
      omega (arith, more, c.type_inv.widths (length c.loop-number.yielded), turn.3 0, c.from-width.ensures),
      write_next c.args.widths.now c.args.sheet.now c.loop-number.place (length c.loop-number.yielded) _ turn.1 turn.0
          (c.from-width.ensures ∙ turn.3 0) (turn.2 0) c.write.ensures.1 more
          ∙ c.loop-number.invariant.3,
    )

pub returns : goal.returns
returns c =
    let count = zip_end c.args.sheet.now c.args.widths.now c.loop-number.yielded c.into_iter-number-iterator.result c.loop-number.number-iterator c.next.new.self c.next.result (cc) (cc) c.loop-number.yielded_by c.in-None.is c.next.ensures.steps in
    write_end c.args.widths.now c.args.sheet.now c.loop-number.place (length c.loop-number.yielded) _ (omega (arith, count))
    ∙ c.loop-number.invariant.3
