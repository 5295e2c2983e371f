-- A typed answer that is handed on as numbers: equal answers give equal numbers and leave equal memory.
-- Assumes nothing.
use mathlib.Core.Path.{◌≡◌, ap, ◌∙◌}
use mathlib.Core.List.{List}
use Prim.Native.Nat.{ℕ}
use Rattle.std.specs.Prelude.{Result}
use Rattle.units.specs.declared.refusals.Refusal.{Refusal}
use Rattle.wire.specs.Given.{Numbers, given, given_into}
use Rattle.wire.specs.Wire.{wire}

pub handed : {A : Type 0} (numbersOf : A → Numbers) (out : List ℕ) {x y : A} {w : Result ℕ Refusal} {r : ℕ} {m : List ℕ} → r ≡ wire w
    → (w ≡ given (numbersOf x) out) × (m ≡ given_into (numbersOf x) out) → x ≡ y
    → (r ≡ wire (given (numbersOf y) out)) × (m ≡ given_into (numbersOf y) out)
handed {A} numbersOf out e q same = (
  e ∙ ap wire (q.0 ∙ ap (λ (z : A). given (numbersOf z) out) same),
  q.1 ∙ ap (λ (z : A). given_into (numbersOf z) out) same,
)
