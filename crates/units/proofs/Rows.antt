-- Which row of a table is the first that applies: those that do not are passed, and the first that does is it.
-- Assumes nothing.
use mathlib.Core.Path.{◌≡◌, refl, ap, ◌∙◌}
use mathlib.Core.Bool.{Bool, true, false, cond}
use mathlib.Core.List.{List, [], ◌∷◌}
use Prim.Native.Nat.{ℕ, suc}
use native.Mathlib.Omega.{arith}
use Rattle.units.specs.Refusals.{first}

-- n is the number of the first row that applies
pub record Row (rows : List (Bool × ℕ)) (n : ℕ) : Type 0 where
  pub row : first rows ≡ n

pub none : Row [] 0
none = record { row = refl }

pub miss : {b : Bool} {m n : ℕ} {rows : List (Bool × ℕ)} → b ≡ false → Row rows n → Row ((b, m) ∷ rows) n
miss {m = m} {rows = rows} e r = record { row = ap (λ (t : Bool). cond t m (first rows)) e ∙ r.row }

pub hit : {b : Bool} {n : ℕ} {rows : List (Bool × ℕ)} → b ≡ true → Row ((b, n) ∷ rows) n
hit {n = n} {rows = rows} e = record { row = ap (λ (t : Bool). cond t n (first rows)) e }

-- where no row applies, the first does not, nor any of the rest
pub passed : (b : Bool) (row rest : ℕ) → cond b (suc row) rest ≡ 0 → (b ≡ false) × (rest ≡ 0)
passed true row rest e = absurd (omega arith)
passed false row rest e = (refl, e)
