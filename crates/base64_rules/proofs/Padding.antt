-- How many `=` end a text, by its last two characters; at most two, and no more than a text of whole groups has.
-- Assumes nothing.
use mathlib.Core.Path.{◌≡◌, ap, ◌∙◌}
use mathlib.Core.Logic.{⊎_elim}
use mathlib.Core.List.{List}
use Prim.Native.Nat.{ℕ, ◌-◌, ◌%◌, ◌<◌, ◌≤◌}
use native.Mathlib.Nat.{eq-zero-or-pos}
use native.Mathlib.Decide.{ℕ_discrete}
use native.Mathlib.Omega.{arith}
use lib.ListN.{length, get_or, get_or-eq_default}
use borrow.Author.Tests.{eq-eqb, ne_eqb}
use Rattle.base64_rules.specs.Base64.{padding, before}

module _ (t : List ℕ) where
  pub padding_none : (get_or t (length t - 1) 0 ≡ 61 → ⊥) → padding t ≡ 0
  unfolding padding
  padding_none h = rw (ne_eqb (get_or t (length t - 1) 0) 61 h)

  pub padding_one : get_or t (length t - 1) 0 ≡ 61 → (get_or t (length t - 2) 0 ≡ 61 → ⊥) → padding t ≡ 1
  unfolding padding
  padding_one e h = rw (eq-eqb (get_or t (length t - 1) 0) 61 e, ne_eqb (get_or t (length t - 2) 0) 61 h)

  pub padding_two : get_or t (length t - 1) 0 ≡ 61 → get_or t (length t - 2) 0 ≡ 61 → padding t ≡ 2
  unfolding padding
  padding_two e h = rw (eq-eqb (get_or t (length t - 1) 0) 61 e, eq-eqb (get_or t (length t - 2) 0) 61 h)

  pub padding_empty : length t ≡ 0 → padding t ≡ 0
  padding_empty e = padding_none (λ q. omega (arith, get_or-eq_default t 0 {n = length t - 1} (omega arith)))

  pub padding_cases : {C : Type 0} → (padding t ≡ 0 → C) → (padding t ≡ 1 → get_or t (length t - 1) 0 ≡ 61 → C)
      → (padding t ≡ 2 → get_or t (length t - 1) 0 ≡ 61 → get_or t (length t - 2) 0 ≡ 61 → C) → C
  padding_cases none one two =
      elim (ℕ_discrete (get_or t (length t - 1) 0) 61) [
        | no h ↦ none (padding_none h)
        | yes e ↦
            elim (ℕ_discrete (get_or t (length t - 2) 0) 61) [
              | no h ↦ one (padding_one e h) e
              | yes q ↦ two (padding_two e q) e q
            ]
      ]

  pub padding_le : padding t ≤ 2
  padding_le = padding_cases (λ p. omega arith) (λ p e. omega arith) (λ p e q. omega arith)

  pub padding_fits : length t % 4 ≡ 0 → padding t ≤ length t
  padding_fits h =
      ⊎_elim (λ z. omega (arith, padding_empty z)) (λ l. omega (arith, padding_le)) (eq-zero-or-pos (length t))

  -- what stands after the characters before the padding is `=`
  pub padding_at : (i : ℕ) → before t ≤ i → i < length t → get_or t i 0 ≡ 61
  unfolding before
  padding_at i h l =
      padding_cases (λ p. absurd (omega arith)) (λ p e. ap (λ (j : ℕ). get_or t j 0) (omega arith) ∙ e)
      (λ p e q.
      elim (ℕ_discrete i (length t - 1)) [
        | yes last ↦ ap (λ (j : ℕ). get_or t j 0) last ∙ e
        | no other ↦ ap (λ (j : ℕ). get_or t j 0) (omega arith) ∙ q
      ])
