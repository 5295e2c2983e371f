-- `sheet_reading::read_fields` meets its contract. The loop's invariant: putting the fields that are left gives what putting all of them gives.
-- Assumes nothing.
use Rattle.std.proofs.Common.{◌≡◌, ◌+◌, ◌<◌, ◌≤◌, ℕ, List, length, get_or, take, drop, set, ap, ◌∙◌, arith, ◌∷◌, [], ◌++◌, drop-cons, add-one, append_assoc, length-set}
use Rattle.std.proofs.lemmas.List.{take_more_set, append-nil}
use Rattle.std.proofs.Math.ListN.{drop_of_length-le}
use lib.Seq.{take_all}
use Rattle.bits.specs.Bits.{field_of, read_all}
use Rattle.sheet_reading.proofs.read_fields.Goals as goal

module _ (s ws out : List ℕ) (place i : ℕ) where
  -- this field, put after those before it, and those after it
  read_next : {w v : ℕ} → i < length ws → i < length out → w ≡ get_or ws i 0 → v ≡ field_of s place w
      → take (i + 1) (set out i v) ++ read_all s (place + w) (drop (i + 1) ws) ≡ take i out ++ read_all s place (drop i ws)
  unfolding read_all
  read_next {w} {v} h k a e =
      ap (λ (l : List ℕ). l ++ read_all s (place + w) (drop (i + 1) ws)) (take_more_set out i v k)
      ∙ append_assoc (take i out) (v ∷ []) (read_all s (place + w) (drop (i + 1) ws))
      ∙ rw (e, add-one, drop-cons ws i 0 h, ← a)

  -- nothing is left
  read_end : length ws ≤ i → length out ≤ i → out ≡ take i out ++ read_all s place (drop i ws)
  unfolding read_all
  read_end h k = rw (drop_of_length-le ws h, append-nil, take_all i out k)

pub loop-i-preserved : goal.loop-i-preserved
loop-i-preserved c = (
  omega (arith, c.type_inv.widths c.loop-i.i),
  length-set c.loop-i.out c.loop-i.i c.read.result ∙ c.loop-i.invariant.1,
  read_next c.args.section.now c.args.widths.now c.loop-i.out c.loop-i.place c.loop-i.i c.loop-i-test.true (omega arith) c.from-width.ensures c.read.ensures
      ∙ c.loop-i.invariant.2,
)

pub returns : goal.returns
returns c =
    read_end c.args.section.now c.args.widths.now c.loop-i.out c.loop-i.place c.loop-i.i (omega arith) (omega arith) ∙ c.loop-i.invariant.2
