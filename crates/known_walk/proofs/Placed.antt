-- What the answer of the walk for a known descriptor's place says, by case.
-- Assumes nothing.
use mathlib.Core.Path.{◌≡◌, refl, sym, ap, ◌∙◌, subst}
use mathlib.Core.List.{List, []}
use Prim.Native.Nat.{ℕ, ◌≤◌}
use native.Mathlib.Omega.{arith}
use Rattle.grammar.specs.Meaning.{values}
use Rattle.grammar.specs.Traces.{Trace}
use Rattle.descriptors.specs.declared.Cursor.{Cursor}
use Rattle.known_walk.specs.Known.{known_cursors, numbered, known_trace}
use Rattle.known_walk.specs.Places.{Stands, PlacedAt, Placed}
use Rattle.std.specs.Prelude.{Option, Some, None}

module _ (s : List ℕ) (at : ℕ) (t : Trace) {place : Option ℕ} (h : PlacedAt s at t place) where
  pub no_rows : place ≡ None → t ≡ []
  no_rows e = subst (PlacedAt s at t) e h

  pub at_is : (k : ℕ) → place ≡ Some k → k ≡ at
  at_is k e = (subst (PlacedAt s at t) e h).0

  pub stands_there : (k : ℕ) → place ≡ Some k → Stands s k t
  stands_there k e = (subst (PlacedAt s at t) e h).1

module _ (s : List ℕ) (c : Cursor) (n : ℕ) {place : Option ℕ} (h : Placed s c n place) where
  pub not_there : place ≡ None → known_trace s c n ≡ []
  not_there = no_rows s (numbered (known_cursors s c) n).at (known_trace s c n) h

  pub is_at : (at : ℕ) → place ≡ Some at → at ≡ (numbered (known_cursors s c) n).at
  is_at = at_is s (numbered (known_cursors s c) n).at (known_trace s c n) h

  pub stands_at : (at : ℕ) → place ≡ Some at → Stands s at (known_trace s c n)
  stands_at = stands_there s (numbered (known_cursors s c) n).at (known_trace s c n) h

-- a known descriptor has six bytes at least
pub low_enough : (s : List ℕ) (at : ℕ) (t : Trace) → Stands s at t → at ≤ 4090
low_enough s at t h = omega (arith, h.fits, h.low, h.inside)

-- a descriptor that stands has rows
has_rows : (s : List ℕ) (at : ℕ) (t : Trace) → Stands s at t → t ≡ [] → ⊥
unfolding values
has_rows s at t h e = let z : ◌≡◌ {A = ℕ} 0 1 = cc (h.rows, e) in omega arith

-- so two answers that `PlacedAt` allows are equal
pub placed_only : (s : List ℕ) (at : ℕ) (t : Trace) (p q : Option ℕ) → PlacedAt s at t p → PlacedAt s at t q → p ≡ q
placed_only s at t None None h g = refl
placed_only s at t None (Some k) h g = absurd (has_rows s k t g.1 h)
placed_only s at t (Some k) None h g = absurd (has_rows s k t h.1 g)
placed_only s at t (Some k) (Some j) h g = ap Some (h.0 ∙ sym g.0)
