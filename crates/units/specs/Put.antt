-- Bytes, characters or numbers put into a list from a place on.
-- Assumes nothing.
use Rattle.std.specs.Prelude.{◌≡◌, Bool, cond, ℕ, ◌+◌, List, length, leb}
use Rattle.std.proofs.lemmas.List.Edits.{sets}

-- whether the list has room for these from place i on
abbrev pub fits : List ℕ → ℕ → List ℕ → Bool
fits list i ns = leb (i + length ns) (length list)

-- the list with these from place i on, or as it was where they do not all fit
unfoldable pub put_into : List ℕ → ℕ → List ℕ → List ℕ
put_into list i ns = cond (fits list i ns) (sets list i ns) list

-- these stand in the list from place i on, j is the place after them, and all else is as it was
pub record Put (before : List ℕ) (i : ℕ) (ns : List ℕ) (j : ℕ) (now : List ℕ) : Type 0 where
  pub place : j ≡ i + length ns
  pub list : now ≡ sets before i ns
