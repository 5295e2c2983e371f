-- A place and the memory beside it are known by their plan: a promise that names the plan names one answer and one content of memory.
-- Assumes nothing.
use mathlib.Core.Path.{◌≡◌, ap}
use mathlib.Core.List.{List}
use Prim.Native.Nat.{ℕ}
use Rattle.fields.specs.declared.Place.{Place}
use Rattle.fields.specs.declared.Fields.{Fields}
use Rattle.fields.specs.Fields.{Plan, plan}
use Rattle.fields.specs.SoFar.{so_far}

place_of : Plan → Place
place_of π = record { at = π.at; number = π.number }

pub plan_only : (p q : Place) (m n : List ℕ) → plan p m ≡ plan q n → (p ≡ q) × (m ≡ n)
unfolding place_of
plan_only p q m n e = (ap place_of e, ap (λ (π : Plan). π.widths) e)

-- the same of the fields so far
pub so_far_only : (f g : Fields) → so_far f ≡ so_far g → (f.at ≡ g.at) × (f.number ≡ g.number) × (f.widths.now ≡ g.widths.now)
so_far_only f g e = (ap (λ (π : Plan). π.at) e, ap (λ (π : Plan). π.number) e, ap (λ (π : Plan). π.widths) e)
