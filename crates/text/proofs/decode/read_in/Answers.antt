-- `text::decode::read_in` meets its contract: each refusal is that of the first row that applies, and past them all the bytes of
-- the groups, but for those of the padding, are put into `out`.
-- Assumes nothing.
use mathlib.Core.Path.{◌≡◌, sym, ap, ◌∙◌}
use mathlib.Core.List.{List}
use Prim.Native.Nat.{ℕ, ◌-◌, ◌*◌, ◌/◌, ◌%◌, ◌<◌, ◌≤◌}
use native.Mathlib.Omega.{arith}
use lib.ListN.{length, get_or, take}
use Rattle.text.specs.Text.{padding, before, text_bit, count, decoded, spare}
use Rattle.bits.specs.Bits.{bytes_of}
use Rattle.bits.proofs.Bytes.{length_bytes_of}
use Rattle.std.specs.Prelude.{Ok}
use Rattle.units.specs.Answers.{memory}
use Rattle.base64_rules.proofs.Counts.{count_is}
use Rattle.base64_rules.proofs.Fill.{filled}
use Rattle.base64_rules.proofs.Padding.{padding_fits}
use Rattle.base64_rules.proofs.Spare.{spare_after}
use Rattle.text.proofs.Rows.{Accepted, reads_as, row_letter, row_spare, put_there, put_nowhere}
use Rattle.text.proofs.decode.read_in.Goals as goal

-- ---- after the padding: the code's counts are the definitions'

module _ (t : List ℕ) (p : ℕ) (is : p ≡ padding t) where
  is_before : length t - p ≡ before t
  unfolding before
  is_before = ap (λ (x : ℕ). length t - x) is

  is_count : 6 * (length t - p) / 8 ≡ count t
  unfolding count
  is_count = ap (λ (n : ℕ). 6 * n / 8) is_before

pub overflow_sub-n : goal.overflow_sub-n
overflow_sub-n c = omega (arith, padding_fits c.args.text.now c.requires.0, c.padding.ensures)

pub put_groups-requires : goal.put_groups-requires
put_groups-requires c = (c.requires.0, is_before c.args.text.now c.padding.result c.padding.ensures, c.requires.2)

-- ---- after the groups: the reader's own memory

pub returns-then-not-put_groups : goal.returns-then-not-put_groups
returns-then-not-put_groups c =
    let t = c.args.text.now in
    reads_as t c.args.out.now 13
    (row_letter t _ c.requires.0 c.requires.1 (sym c.put_groups.ensures.0 ∙ c.if-not-put_groups.true))

module _ (t own lent : List ℕ) (full : own ≡ memory 0 (bytes_of (text_bit t) (3 * (length t / 4))) lent) where
  front : (k : ℕ) → k ≤ 3 * (length t / 4) → take k own ≡ bytes_of (text_bit t) k
  unfolding bytes_of
  front k l = filled _ lent own _ k l full

  long : (k : ℕ) → k ≤ 3 * (length t / 4) → k ≡ length (take k own)
  long k l = sym (ap length (front k l) ∙ length_bytes_of (text_bit t) k)

  module _ (whole : length t % 4 ≡ 0) (p : ℕ) (is : p ≡ padding t) where
    within : 6 * (length t - p) / 8 ≤ 3 * (length t / 4)
    within = omega (arith, count_is t whole, is_count t p is)

    bytes : take (6 * (length t - p) / 8) own ≡ decoded t
    unfolding decoded
    bytes = front _ within ∙ ap (bytes_of (text_bit t)) (is_count t p is)

    -- the byte behind the whole ones has the spare bits
    behind : get_or (take (3 * (length t / 4)) own) (6 * (length t - p) / 8) 0
        ≡ get_or (bytes_of (text_bit t) (3 * (length t / 4))) (count t) 0
    behind =
        ap (λ (l : List ℕ). get_or l (6 * (length t - p) / 8) 0) (front _ (omega arith))
        ∙ ap (λ (k : ℕ). get_or (bytes_of (text_bit t) (3 * (length t / 4))) k 0) (is_count t p is)

    clean : get_or (take (3 * (length t / 4)) own) (6 * (length t - p) / 8) 0 ≡ 0 → spare t ≡ 0
    clean z = (spare_after t whole).0 (sym behind ∙ z)

    unclean : 0 < get_or (take (3 * (length t / 4)) own) (6 * (length t - p) / 8) 0 → spare t ≡ 0 → ⊥
    unclean h z = absurd (omega (arith, h, behind, (spare_after t whole).1 z))

pub slice_bounds-byte-end-2 : goal.slice_bounds-byte-end-2
slice_bounds-byte-end-2 c =
    long c.args.text.now _ _ (c.put_groups.ensures.1 c.if-not-put_groups.false) _ (omega arith)

pub returns-then-byte-gt0 : goal.returns-then-byte-gt0
returns-then-byte-gt0 c =
    let t = c.args.text.now in
    let full = c.put_groups.ensures.1 c.if-not-put_groups.false in
    let dirty = unclean t _ _ full c.requires.0 _ c.padding.ensures (omega (arith, c.byte.ensures)) in
    reads_as t c.args.out.now 14
    (row_spare t _ c.requires.0 c.requires.1 (sym c.put_groups.ensures.0 ∙ c.if-not-put_groups.false) dirty)

pub slice_bounds-put-end-2 : goal.slice_bounds-put-end-2
slice_bounds-put-end-2 c =
    let t = c.args.text.now in
    let full = c.put_groups.ensures.1 c.if-not-put_groups.false in
    long t _ _ full _ (within t _ _ full c.requires.0 _ c.padding.ensures)

pub returns-then-put : goal.returns-then-put
returns-then-put c =
    let t = c.args.text.now in
    let full = c.put_groups.ensures.1 c.if-not-put_groups.false in
    let accepted : Accepted t =
    record {
      whole = c.requires.0;
      short = c.requires.1;
      letters = sym c.put_groups.ensures.0 ∙ c.if-not-put_groups.false;
      clean = clean t _ _ full c.requires.0 _ c.padding.ensures (omega (arith, c.byte.ensures));
    } in
    let is =
    put_there t c.args.out.now accepted _ (bytes t _ _ full c.requires.0 _ c.padding.ensures)
    (sym c.put.ensures.0 ∙ c.if-put.true) in
    (ap Ok (is_count t _ c.padding.ensures) ∙ is.0, c.put.ensures.1 ∙ is.1)

pub returns-else-put : goal.returns-else-put
returns-else-put c =
    let t = c.args.text.now in
    let full = c.put_groups.ensures.1 c.if-not-put_groups.false in
    let accepted : Accepted t =
    record {
      whole = c.requires.0;
      short = c.requires.1;
      letters = sym c.put_groups.ensures.0 ∙ c.if-not-put_groups.false;
      clean = clean t _ _ full c.requires.0 _ c.padding.ensures (omega (arith, c.byte.ensures));
    } in
    let is =
    put_nowhere t c.args.out.now accepted _ (bytes t _ _ full c.requires.0 _ c.padding.ensures)
    (sym c.put.ensures.0 ∙ c.if-put.false) in
    (is.0, c.put.ensures.1 ∙ is.1)
