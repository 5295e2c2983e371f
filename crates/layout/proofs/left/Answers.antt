-- `layout::left` meets its contract: the differences are 0 where the numbers or the bytes do not suffice.
-- Assumes nothing.
use mathlib.Core.Path.{◌≡◌, sym, ◌∙◌}
use mathlib.Core.Bool.{true, false}
use mathlib.Core.List.{List}
use Prim.Native.Nat.{ℕ, ◌-◌, ◌/◌}
use native.Mathlib.Omega.{arith}
use lib.Dec.{eqb}
use lib.ListN.{length}
use Rattle.fields.specs.Fields.{Plan}
use Rattle.layout.specs.Layout.{left}
use Rattle.layout.proofs.left.Goals as goal

-- where there is no sheet; where there is one
module _ {r : ℕ} (s x : List ℕ) (π : Plan) where
  bits : eqb (length x) 0 ≡ true → r ≡ length s - 4 - π.at / 8 → r ≡ left s x π
  unfolding left
  bits h e = rw h e

  numbers : eqb (length x) 0 ≡ false → r ≡ length x - π.number → r ≡ left s x π
  unfolding left
  numbers h e = rw h e

pub returns-then-is_empty : goal.returns-then-is_empty
returns-then-is_empty c = λ m. bits _ c.args.numbers.sheet.now _ (sym c.is_empty.ensures ∙ c.if-is_empty.true) (omega arith)

pub returns-else-is_empty : goal.returns-else-is_empty
returns-else-is_empty c = λ m. numbers c.args.numbers.section.now _ _ (sym c.is_empty.ensures ∙ c.if-is_empty.false) (omega arith)
