-- `fields::Numbers::value` meets its contract: the bits where there is no sheet, or else the sheet's number, which is 0 past its end.
-- Assumes nothing.
use mathlib.Core.Path.{◌≡◌, ◌∙◌, sym, ap}
use mathlib.Core.Bool.{Bool, true, false, cond}
use mathlib.Core.List.{List}
use Prim.Native.Nat.{ℕ, ◌≤◌, ◌^◌}
use lib.ListN.{length, get_or, get_or-eq_default}
use lib.Dec.{eqb}
use lib.Pow.{pow_pos}
use borrow.Author.Tests.{lt-ltb}
use Rattle.bits.specs.Bits.{field_of}
use Rattle.fields.specs.Fields.{held, source}
use Rattle.fields.proofs.Numbers.value.Goals as goal

-- nothing is held in any width
held_none : (w : ℕ) → held 0 w ≡ 0
unfolding held
held_none w = ap (λ (b : Bool). cond b 0 0) (lt-ltb 0 (2 ^ w) (pow_pos w))

-- no sheet; a number of the sheet; none
module _ (s x : List ℕ) (k i w : ℕ) where
  by_sheet : Bool → ℕ
  by_sheet b = cond b (field_of s k w) (held (get_or x i 0) w)

  from_bits : eqb (length x) 0 ≡ true → field_of s k w ≡ source s x k i w
  unfolding source by_sheet
  from_bits e = sym (ap by_sheet e)

  from_sheet : eqb (length x) 0 ≡ false → held (get_or x i 0) w ≡ source s x k i w
  unfolding source by_sheet
  from_sheet e = sym (ap by_sheet e)

  past_it : eqb (length x) 0 ≡ false → length x ≤ i → 0 ≡ source s x k i w
  past_it e h = sym (ap (λ (n : ℕ). held n w) (get_or-eq_default x 0 h) ∙ held_none w) ∙ from_sheet e

pub returns-then-is_empty : goal.returns-then-is_empty
returns-then-is_empty c =
    let a = c.args in
    c.read.ensures ∙ from_bits _ a.self.sheet.now a.at a.number a.width (sym c.is_empty.ensures ∙ c.if-is_empty.true)

pub returns-then-number-self : goal.returns-then-number-self
returns-then-number-self c =
    let a = c.args in
    c.held.ensures ∙ from_sheet a.self.section.now _ a.at a.number a.width (sym c.is_empty.ensures ∙ c.if-is_empty.false)

pub returns : goal.returns
returns c =
    let a = c.args in
    past_it a.self.section.now _ a.at a.number a.width (sym c.is_empty.ensures ∙ c.if-is_empty.false) c.if-number-self.false
