-- Whether bytes are a section with a given field sheet.
-- Assumes nothing.
use Rattle.std.specs.Prelude.{ℕ, Bool, true, false, ◌&&◌, List, [], ◌∷◌, eqb, is_ok}
use Rattle.section.specs.Accept.{accept_of}
use Rattle.sheet_reading.specs.SheetOf.{sheet_of}

-- the same numbers
unfoldable pub same : List ℕ → List ℕ → Bool
same [] [] = true
same [] (y ∷ ys) = false
same (x ∷ xs) [] = false
same (x ∷ xs) (y ∷ ys) = eqb x y && same xs ys

-- the bytes s are a section, and x is its sheet
unfoldable pub is_sheet_of : List ℕ → List ℕ → Bool
is_sheet_of x s = is_ok (accept_of s) && same (sheet_of s) x
