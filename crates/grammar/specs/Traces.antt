-- What is said of a trace: how many bits it covers, which bits it stands for, and when two differ in reserved values alone.
-- Assumes nothing.
use Rattle.std.specs.Prelude.{◌≡◌, List, [], ◌∷◌, ◌++◌, ℕ, ◌+◌}
use Rattle.bits.specs.Bits.{num}
use Rattle.grammar.specs.Syntax.{Item, field, reserved}
use Rattle.grammar.specs.Meaning.{width_of, width, Reading, broken, reached}

-- the rows that were read or written, in order, with their values
abbrev pub Trace : Type 0
Trace = List (Item × ℕ)

-- what a reading read; nothing, where a rule is broken
unfoldable pub trace_of : Reading → Trace
trace_of (broken n) = []
trace_of (reached k t) = t

-- its rows
unfoldable pub rows_of : Trace → List Item
rows_of [] = []
rows_of (x ∷ t) = x.0 ∷ rows_of t

-- how many bits it covers
abbrev pub size : Trace → ℕ
size t = width (rows_of t)

-- its values, in order: the sheet
unfoldable pub numbers : Trace → List ℕ
numbers [] = []
numbers (x ∷ t) = x.1 ∷ numbers t

-- traces one after another
unfoldable pub joined : List Trace → Trace
joined [] = []
joined (t ∷ ts) = t ++ joined ts

-- each row's value is the number that the bits of f make at its place, the first at place k
abbrev pub Spans : (ℕ → ℕ) → ℕ → Trace → Type 0
Spans f k [] = Unit {0}
Spans f k (x ∷ t) = (num f k (width_of x.0) ≡ x.1) × Spans f (k + width_of x.0) t

-- ---- reserved values

-- a named row has the same value twice, a reserved one may have any two
abbrev pub Keeps : Item → ℕ → ℕ → Type 0
Keeps (field w n) v v' = v ≡ v'
Keeps (reserved w) v v' = Unit {0}

-- as `Spans`, for the named rows alone
abbrev pub NamedSpans : (ℕ → ℕ) → ℕ → Trace → Type 0
NamedSpans f k [] = Unit {0}
NamedSpans f k (x ∷ t) = Keeps x.0 (num f k (width_of x.0)) x.1 × NamedSpans f (k + width_of x.0) t

-- the same rows in the same order, with the same values at the named ones
abbrev pub Alike : Trace → Trace → Type 0
Alike [] [] = Unit {0}
Alike [] (y ∷ u) = ⊥
Alike (x ∷ t) [] = ⊥
Alike (x ∷ t) (y ∷ u) = (x.0 ≡ y.0) × Keeps x.0 x.1 y.1 × Alike t u

-- a reserved value is set to 0
abbrev pub blank_value : Item → ℕ → ℕ
blank_value (field w n) v = v
blank_value (reserved w) v = 0

-- rows with every reserved one set to 0
unfoldable pub blank : Trace → Trace
blank [] = []
blank (x ∷ t) = (x.0, blank_value x.0 x.1) ∷ blank t
