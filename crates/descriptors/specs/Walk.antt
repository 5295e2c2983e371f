-- The walk over the descriptor loop: which descriptor stands at a cursor, and where the next one starts.
-- Assumes nothing.
use Rattle.std.specs.Prelude.{ℕ, ◌+◌, ◌*◌, ◌/◌, cond, List, [], length, leb, ltb, eqb, Option, Some, None, Result, Ok, Err}
use Rattle.units.specs.declared.refusals.Refusal.{Refusal}
use Rattle.bits.specs.Bits.{bit, num}
use Rattle.grammar.specs.Meaning.{Outcome, breach, ends, run}
use Rattle.grammar.specs.Syntax.{Prog}
use Rattle.grammar.specs.Tables.{bytes, avail_descriptor, dtmf_descriptor, segmentation_descriptor, time_descriptor, audio_descriptor, splice_descriptor}
use Rattle.descriptors.specs.declared.Cursor.{Cursor}
use Rattle.descriptors.specs.declared.Kind.{Kind}
use Rattle.descriptors.specs.declared.Kind.TheVariants.{Avail, Dtmf, Segmentation, Time, Audio, Unknown}

-- Table 16: the kind of a descriptor with the identifier "CUEI", by its tag
unfoldable pub by_tag : ℕ → Kind
by_tag t =
    cond (eqb t 0) Avail (cond (eqb t 1) Dtmf (cond (eqb t 2) Segmentation (cond (eqb t 3) Time (cond (eqb t 4) Audio Unknown))))

-- the kind of the descriptor at byte `at`: its identifier stands after the tag and the length
unfoldable pub kind_of : List ℕ → ℕ → Kind
kind_of s at = cond (eqb (num (bit s) (8 * (at + 2)) 32) 0x43554549) (by_tag (num (bit s) (8 * at) 8)) Unknown

-- what a step answers: a descriptor's kind and the cursor after it, nothing, or a refusal
abbrev pub Step : Type 0
Step = Result (Option (Kind × Cursor)) Refusal

-- what a step answers for a descriptor that ends as the outcome says
unfoldable pub found : List ℕ → Cursor → Outcome → Step
found s c (breach n) = Err Refusal.Descriptor
found s c (ends k) = Ok (Some (kind_of s c.at, record { at = k / 8; end = c.end }))

-- nothing is left: Ok None; the loop reaches past the bytes, or the descriptor at the cursor breaks its table: refused; else the descriptor's kind and the cursor after it
unfoldable pub step_of : List ℕ → Cursor → Step
step_of s c =
    cond (leb c.end c.at) (Ok None)
    (cond (ltb (length s) c.end) (Err Refusal.Descriptor)
    (found s c (run splice_descriptor [] (bit s) (8 * c.end) (8 * c.at))))

-- ---- for a private function

-- the table of a kind, after the identifier
unfoldable pub table_of : Kind → Prog
table_of Avail = avail_descriptor
table_of Dtmf = dtmf_descriptor
table_of Segmentation = segmentation_descriptor
table_of Time = time_descriptor
table_of Audio = audio_descriptor
table_of Unknown = bytes "private_byte"
