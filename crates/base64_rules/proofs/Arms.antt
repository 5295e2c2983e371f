-- A match with an arm for each number in turn, the first of them at `base`: its last arm is taken where the number is none of
-- those before.
-- Assumes nothing.
use mathlib.Core.Path.{◌≡◌}
use Prim.Native.Nat.{ℕ, zero, suc, ◌+◌, ◌≤◌}
use native.Mathlib.Omega.{arith}

-- n is none of the first k numbers from `base` on
abbrev pub NoneOf : ℕ → ℕ → ℕ → Type 0
NoneOf base zero n = Unit {0}
NoneOf base (suc k) n = NoneOf base k n × (n ≡ base + k → ⊥)

pub past : (base k n : ℕ) → base ≤ n → NoneOf base k n → base + k ≤ n
past base zero n l h = omega arith
past base (suc k) n l h = omega (arith, past base k n l h.0, h.1)
