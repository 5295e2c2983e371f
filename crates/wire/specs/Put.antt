-- The place after numbers that are put into a list; what the list then holds is passed on.
-- Assumes nothing.
pub use Rattle.units.specs.Put.{fits, put_into, Put}
use Rattle.std.specs.Prelude.{ℕ, ◌+◌, cond, List, length}

-- the place after the numbers, or i itself where they do not fit
unfoldable pub put_place : List ℕ → ℕ → List ℕ → ℕ
put_place list i ns = cond (fits list i ns) (i + length ns) i
