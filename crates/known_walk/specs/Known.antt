-- The known descriptors that the walk from a cursor finds, and what was read of each.
-- Assumes nothing.
use Rattle.std.specs.Prelude.{ℕ, zero, suc, Bool, true, false, cond, List, [], ◌∷◌, length, leb, Some, None, Ok, Err}
use Rattle.grammar.specs.Traces.{Trace}
use Rattle.descriptors.specs.declared.Cursor.{Cursor}
use Rattle.descriptors.specs.declared.Kind.{Kind}
use Rattle.descriptors.specs.Walk.{Step, kind_of, step_of}
use Rattle.descriptors.specs.Loop.{walked, trace_at}

-- the five kinds that the standard defines
abbrev pub is_known : Kind → Bool
is_known Kind.Avail = true
is_known Kind.Dtmf = true
is_known Kind.Segmentation = true
is_known Kind.Time = true
is_known Kind.Audio = true
is_known Kind.Unknown = false

-- those of the cursors at which a known one stands
unfoldable pub known_among : List ℕ → List Cursor → List Cursor
known_among s [] = []
known_among s (c ∷ cs) = cond (is_known (kind_of s c.at)) (c ∷ known_among s cs) (known_among s cs)

-- the known descriptors that the walk from a cursor finds, in no more bytes than a section may have
unfoldable pub known_cursors : List ℕ → Cursor → List Cursor
known_cursors s c = cond (leb (length s) 4096) (known_among s (walked s c)) []

-- a cursor at which nothing stands
abbrev pub nowhere : Cursor
nowhere = record { at = 0; end = 0 }

-- the cursor of that number, counted from 0
unfoldable pub numbered : List Cursor → ℕ → Cursor
numbered [] n = nowhere
numbered (c ∷ cs) zero = c
numbered (c ∷ cs) (suc n) = numbered cs n

-- the rows of known descriptor n, none where there is no such descriptor
unfoldable pub known_trace : List ℕ → Cursor → ℕ → Trace
known_trace s c n = trace_at s (numbered (known_cursors s c) n)

-- the rows, where a step finds a known descriptor
abbrev pub of_known : Step → Trace → Trace
of_known (Ok (Some (kind, next))) t = cond (is_known kind) t []
of_known (Ok None) t = []
of_known (Err refusal) t = []

-- the rows of the known descriptor that stands at a cursor, none where none stands there, in no more bytes than a section may have
unfoldable pub standing_trace : List ℕ → Cursor → Trace
standing_trace s c = cond (leb (length s) 4096) (of_known (step_of s c) (trace_at s c)) []
