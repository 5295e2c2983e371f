-- Where what a table describes ends, as the table's function answers it, and as the outcome of a run: bytes as bits.
-- Assumes nothing.
use Rattle.std.specs.Prelude.{ℕ, ◌*◌, Option, Some, None}
use Rattle.grammar.specs.Meaning.{Outcome, breach, ends}

-- byte n is place 8 n; where a rule of the table is broken there is none, and the breach has no number yet
abbrev pub outcome : Option ℕ → Outcome
outcome (Some n) = ends (8 * n)
outcome None = breach 0
