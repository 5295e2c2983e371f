-- A promise names one answer and one content of lent memory: any two that it allows are equal. A public promise is an equation
-- with a definition of the inputs, or a pair of such equations; one with three or four is served by the first law, each in turn.
-- Assumes nothing.
use mathlib.Core.Path.{◌≡◌, sym, ◌∙◌}

pub one_answer : {A : Type 0} {defined r s : A} → r ≡ defined → s ≡ defined → r ≡ s
one_answer p q = p ∙ sym q

pub one_outcome : {A B : Type 0} {defined r s : A} {memory m n : B} → (r ≡ defined) × (m ≡ memory) → (s ≡ defined) × (n ≡ memory) → (r ≡ s) × (m ≡ n)
one_outcome p q = (one_answer p.0 q.0, one_answer p.1 q.1)
