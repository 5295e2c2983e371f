-- A trace read by name: the value of a field, the parts of a list.
-- Assumes nothing.
use Rattle.std.specs.Prelude.{ℕ, zero, suc, Bool, false, cond, List, [], ◌∷◌, eqb}
use Prim.Native.String.{String}
use lib.Text.{eqt}
use Rattle.grammar.specs.Syntax.{Item, field, reserved}
use Rattle.grammar.specs.Traces.{Trace}

-- the name of a field, for the contracts of functions
abbrev pub Name : Type 0
Name = String

-- the row has this name; reserved bits have none
abbrev pub is_named : Name → Item → Bool
is_named n (field w m) = eqt m n
is_named n (reserved w) = false

-- the value of the first row of that name, 0 where there is none
unfoldable pub look : Trace → Name → ℕ
look [] n = 0
look (x ∷ t) n = cond (is_named n x.0) x.1 (look t n)

-- that value is 1
abbrev pub is_set : Trace → Name → Bool
is_set t n = eqb (look t n) 1

-- the values of all rows of that name, in order
unfoldable pub all_of : Trace → Name → List ℕ
all_of [] n = []
all_of (x ∷ t) n = cond (is_named n x.0) (x.1 ∷ all_of t n) (all_of t n)

-- ---- lists, each of whose parts opens with a row of one name

-- the rows before the first of that name
unfoldable pub before : Name → Trace → Trace
before n [] = []
before n (x ∷ t) = cond (is_named n x.0) [] (x ∷ before n t)

-- the rows from that one on whose number among those of that name is m, counted from 0
unfoldable pub from : Name → ℕ → Trace → Trace
from n m [] = []
from n zero (x ∷ t) = cond (is_named n x.0) (x ∷ t) (from n zero t)
from n (suc m) (x ∷ t) = cond (is_named n x.0) (from n m t) (from n (suc m) t)

-- its first row, and then those before the next of that name
unfoldable pub opening : Name → Trace → Trace
opening n [] = []
opening n (x ∷ t) = x ∷ before n t

-- part m of the list whose parts open with that name
unfoldable pub part : Name → ℕ → Trace → Trace
part n m t = opening n (from n m t)
