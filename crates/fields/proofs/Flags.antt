-- The third and the fourth of bits in a row: code reads them at one sum, a table's rows come to them one by one.
-- Assumes nothing.
use mathlib.Core.Path.{◌≡◌, sym, ap₂, ◌∙◌}
use mathlib.Core.List.{List}
use Prim.Native.Nat.{ℕ, ◌+◌}
use native.Mathlib.Omega.{arith}
use Rattle.fields.specs.Fields.{source}

module _ (s x : List ℕ) (k i : ℕ) {r : ℕ} where
  pub third : r ≡ source s x (k + 2) (i + 2) 1 → source s x (k + 1 + 1) (i + 1 + 1) 1 ≡ r
  third e =
      let place : k + 1 + 1 ≡ k + 2 = omega arith in
      let number : i + 1 + 1 ≡ i + 2 = omega arith in
      ap₂ (λ (a b : ℕ). source s x a b 1) place number ∙ sym e

  pub fourth : r ≡ source s x (k + 3) (i + 3) 1 → source s x (k + 1 + 1 + 1) (i + 1 + 1 + 1) 1 ≡ r
  fourth e =
      let place : k + 1 + 1 + 1 ≡ k + 3 = omega arith in
      let number : i + 1 + 1 + 1 ≡ i + 3 = omega arith in
      ap₂ (λ (a b : ℕ). source s x a b 1) place number ∙ sym e
