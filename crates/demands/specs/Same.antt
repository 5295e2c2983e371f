-- Which two sheets demand 3 takes for the same cue: those that are equal once reserved fields are set to 0, and descriptor_loop_length,
-- unknown descriptors and stuffing are taken out.
-- Assumes nothing.
use Rattle.std.specs.Prelude.{◌≡◌, ℕ, List}
use Rattle.grammar.specs.Traces.{Trace}
use Rattle.grammar.specs.Left.{left}
use Rattle.sheet.specs.Sheet.{section_trace, section_of}

-- a sheet's numbers under the names of their fields; of the sheet of an accepted section these are its own rows (`sheet_left`)
unfoldable pub rows_of : List ℕ → Trace
rows_of x = section_trace (section_of x)

-- the two sheets are one cue's
abbrev pub Same : List ℕ → List ℕ → Type 0
Same x y = left (rows_of x) ≡ left (rows_of y)
