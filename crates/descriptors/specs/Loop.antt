-- The descriptors of a loop, as the walk from a cursor finds them, and what was read of them.
-- Assumes nothing.
use Rattle.std.specs.Prelude.{ℕ, zero, suc, ◌-◌, ◌*◌, List, [], ◌∷◌, ◌++◌, Some, None, Ok, Err}
use Rattle.bits.specs.Bits.{bit}
use Rattle.grammar.specs.Meaning.{read}
use Rattle.grammar.specs.Tables.{splice_descriptor}
use Rattle.grammar.specs.Traces.{Trace, trace_of}
use Rattle.descriptors.specs.declared.Cursor.{Cursor}
use Rattle.descriptors.specs.Walk.{Step, step_of}

-- a cursor with a descriptor, and on from the next one; nothing where there is none
unfoldable pub on_step : Step → Cursor → (Cursor → List Cursor) → List Cursor
on_step (Ok (Some (kind, next))) c more = c ∷ more next
on_step (Ok None) c more = []
on_step (Err refusal) c more = []

-- the cursors at which a descriptor stands, in order, by at most n steps
unfoldable pub walk : ℕ → List ℕ → Cursor → List Cursor
walk zero s c = []
walk (suc n) s c = on_step (step_of s c) c (walk n s)

-- all of them: a step goes on by a byte at least
unfoldable pub walked : List ℕ → Cursor → List Cursor
walked s c = walk (c.end - c.at) s c

-- what Table 17 reads at a cursor
unfoldable pub trace_at : List ℕ → Cursor → Trace
trace_at s c = trace_of (read splice_descriptor [] (bit s) (8 * c.end) (8 * c.at))

-- and at each of these, one after another
unfoldable pub traces_at : List ℕ → List Cursor → Trace
traces_at s [] = []
traces_at s (c ∷ cs) = trace_at s c ++ traces_at s cs
