-- Where a segmentation descriptor ends.
-- Assumes nothing.
use Rattle.std.specs.Prelude.{ℕ, ◌*◌, cond, ◌&&◌, List, [], length, leb}
use Rattle.bits.specs.Bits.{bit}
use Rattle.grammar.specs.Meaning.{Outcome, breach, run}
use Rattle.grammar.specs.Tables.{segmentation_descriptor}

-- where Table 20 ends, read after the identifier from byte `at` on, in the part up to byte `end`; a breach where it is broken, or the part does not lie within the bytes
unfoldable pub segmentation_end_at : List ℕ → ℕ → ℕ → Outcome
segmentation_end_at s at end =
    cond (leb at end && leb end (length s)) (run segmentation_descriptor [] (bit s) (8 * end) (8 * at)) (breach 0)
