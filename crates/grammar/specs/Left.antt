-- What is left of a section's rows where only what matters is compared: reserved values are set to 0, and section_length,
-- descriptor_loop_length, unknown descriptors and stuffing are taken out.
-- Assumes nothing.
use Rattle.std.specs.Prelude.{ℕ, Bool, cond, ◌&&◌, List, [], ◌∷◌, ◌++◌, leb, eqb}
use Rattle.grammar.specs.Traces.{Trace, numbers, joined, blank}
use Rattle.grammar.specs.Names.{Name, is_named, look, before}

-- ---- rows are taken out

-- the rows that do not have that name
unfoldable pub without : Name → Trace → Trace
without n [] = []
without n (x ∷ t) = cond (is_named n x.0) (without n t) (x ∷ without n t)

-- the parts of a list whose parts open with a row of that name
unfoldable pub parts : Name → Trace → List Trace
parts n [] = []
parts n (x ∷ t) = cond (is_named n x.0) ((x ∷ before n t) ∷ parts n t) (parts n t)

-- a descriptor of the standard's: identifier "CUEI", tag 0 to 4
abbrev pub is_own : Trace → Bool
is_own t = eqb (look t "identifier") 0x43554549 && leb (look t "splice_descriptor_tag") 4

-- only those of them, with reserved fields set to 0
unfoldable pub own : List Trace → List Trace
own [] = []
own (t ∷ ts) = cond (is_own t) (blank t ∷ own ts) (own ts)

-- ---- what is left

-- the rows before descriptor_loop_length, section_length left out as on every sheet
unfoldable pub front : Trace → Trace
front t = blank (without "section_length" (before "descriptor_loop_length" t))

-- the known descriptors
unfoldable pub descriptors : Trace → List Trace
descriptors t = own (parts "splice_descriptor_tag" (without "alignment_stuffing" t))

-- the numbers left of the section with these rows
unfoldable pub left : Trace → List ℕ
left t = numbers (front t ++ joined (descriptors t))
