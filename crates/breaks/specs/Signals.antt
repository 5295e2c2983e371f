-- What a time signal says by the descriptors of its section: the break, and the longest duration.
-- Assumes nothing.
use Rattle.std.specs.Prelude.{ℕ, ◌+◌, ◌*◌, Bool, true, false, not, cond, ◌&&◌, ◌||◌, List, [], ◌∷◌, Option, Some, None, Result, Ok, Err, leb}
use Rattle.grammar.specs.Meaning.{is_among}
use Rattle.bits.specs.Bits.{field_of, flag_of}
use Rattle.descriptors.specs.declared.Cursor.{Cursor}
use Rattle.descriptors.specs.declared.Kind.{Kind}
use Rattle.descriptors.specs.Walk.{kind_of}
use Rattle.descriptors.specs.Loop.{trace_at}
use Rattle.known_walk.specs.Known.{known_cursors}
use Rattle.units.specs.declared.clock.EventId.{EventId}
use Rattle.units.specs.declared.clock.Ticks.{Ticks}
use Rattle.units.specs.declared.refusals.Refusal.{Refusal}
use Rattle.segmentation_reading.specs.Places.{upid_place, after_upid}
use Rattle.descriptor_reading.specs.declared.answers.Descriptor.{Descriptor}
use Rattle.descriptor_reading.specs.Descriptor.{descriptor_of}
use Rattle.breaks.specs.declared.Break.{Break}
use Rattle.breaks.specs.declared.signal.Measure.{Measure}
use Rattle.breaks.specs.declared.signal.Signal.{Signal}

-- ---- the known descriptors of an open section, in order

-- what is read where a known descriptor stands
abbrev pub Reading : Type 0
Reading = Result Descriptor Refusal

-- what stands at each of these cursors
unfoldable pub read_at : List ℕ → List Cursor → List Reading
read_at s [] = []
read_at s (c ∷ cs) = descriptor_of (trace_at s c) ∷ read_at s cs

-- what each known descriptor from a cursor on says
unfoldable pub known_readings : List ℕ → Cursor → List Reading
known_readings s c = read_at s (known_cursors s c)

-- ---- the break (003)

-- the segmentation types that open a break
abbrev pub break_types : List ℕ
break_types = 0x22 ∷ 0x30 ∷ 0x32 ∷ 0x34 ∷ 0x36 ∷ []

-- an uncancelled segmentation descriptor of one of these types
abbrev pub opens : Reading → Bool
opens (Ok (Descriptor.Avail id)) = false
opens (Ok (Descriptor.Dtmf preroll n)) = false
opens (Ok (Descriptor.Segmentation d)) = is_among d.segmentation_type_id break_types
opens (Ok (Descriptor.CancelledSegmentation id)) = false
opens (Ok (Descriptor.Time seconds ns offset)) = false
opens (Ok (Descriptor.Audio n)) = false
opens (Err r) = false

-- at least one of them does
unfoldable pub some_opens : List Reading → Bool
some_opens [] = false
some_opens (d ∷ ds) = opens d || some_opens ds

-- ---- how long it lasts

-- a duration with the event whose descriptor carries it
abbrev pub measure_of : EventId → Option Ticks → Option Measure
measure_of id None = None
measure_of id (Some t) = Some (record { event = id; ticks = t })

-- the duration that an uncancelled segmentation descriptor carries
abbrev pub carried : Reading → Option Measure
carried (Ok (Descriptor.Avail id)) = None
carried (Ok (Descriptor.Dtmf preroll n)) = None
carried (Ok (Descriptor.Segmentation d)) = measure_of d.segmentation_event_id d.duration
carried (Ok (Descriptor.CancelledSegmentation id)) = None
carried (Ok (Descriptor.Time seconds ns offset)) = None
carried (Ok (Descriptor.Audio n)) = None
carried (Err r) = None

-- the same where the descriptor opens a break: no other measures it (02, §2)
abbrev pub counted : Reading → Option Measure
counted d = cond (opens d) (carried d) None

-- the longer of two, and of two as long the first; an absent one is shorter than any
abbrev pub longer : Option Measure → Option Measure → Option Measure
longer None b = b
longer (Some x) None = Some x
longer (Some x) (Some y) = cond (leb y.ticks.0 x.ticks.0) (Some x) (Some y)

-- the longest of what each descriptor gives
unfoldable pub longest_by : (Reading → Option Measure) → List Reading → Option Measure
longest_by f [] = None
longest_by f (d ∷ ds) = longer (f d) (longest_by f ds)

-- what a time signal says by its descriptors: whether a break opens, what it is billed by (02, §2), and the longest duration of all,
-- that of the DASH event (000, clause 4.4.5)
unfoldable pub signal_of : List Reading → Signal
signal_of ds = record { opened = some_opens ds; billed = longest_by counted ds; longest = longest_by carried ds }

-- a break that lasts so long; without a duration it has no measure, and is never one of zero ticks
abbrev pub lasting : Option Measure → Break
lasting None = Break.Unmeasured
lasting (Some m) = Break.Measured m.ticks

-- the break that a time signal opens, if it does
abbrev pub break_of : Signal → Break
break_of g = cond g.opened (lasting g.billed) Break.None

-- a time signal's break, by its descriptors
unfoldable pub signal_break : List Reading → Break
signal_break ds = break_of (signal_of ds)

-- ---- for private functions

-- a kind is that of segmentation descriptors
abbrev pub is_segmentation : Kind → Bool
is_segmentation Kind.Avail = false
is_segmentation Kind.Dtmf = false
is_segmentation Kind.Segmentation = true
is_segmentation Kind.Time = false
is_segmentation Kind.Audio = false
is_segmentation Kind.Unknown = false

-- a segmentation descriptor stands from byte `at` on, and is not cancelled
abbrev pub uncancelled : List ℕ → ℕ → Bool
uncancelled s at = is_segmentation (kind_of s at) && not (flag_of s (8 * (at + 10)))

-- one that stands so opens a break, by the byte `at` after its identifier
abbrev pub opens_at : List ℕ → ℕ → Bool
opens_at s at = is_among (field_of s (8 * after_upid s (upid_place s at)) 8) break_types

-- what was found so far, and one descriptor more
abbrev pub with_one : Signal → Reading → Signal
with_one g d =
    record { opened = g.opened || opens d; billed = longer g.billed (counted d); longest = longer g.longest (carried d) }
