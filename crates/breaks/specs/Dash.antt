-- The duration of the DASH event that a time signal makes (000, clause 4.4.5; 02, §2).
-- Assumes nothing.
use Rattle.std.specs.Prelude.{ℕ, List, Option, Some, None, Result, Ok, Err}
use Rattle.units.specs.declared.clock.Ticks.{Ticks}
use Rattle.units.specs.declared.refusals.Refusal.{Refusal}
use Rattle.opening.specs.First.{open_of, asked}
use Rattle.command_reading.specs.declared.answers.Command.{Command}
use Rattle.command_reading.specs.Command.{command}
use Rattle.breaks.specs.declared.signal.Measure.{Measure}
use Rattle.breaks.specs.Signals.{Reading, known_readings, signal_of}

-- so long, or none where no descriptor carries a duration; one of 0 ticks is a duration
abbrev pub dash_of : Option Measure → Option Ticks
dash_of None = None
dash_of (Some m) = Some m.ticks

-- of a time signal the longest of all, whether or not it opens a break; no other command has one
abbrev pub dash_by : Result Command Refusal → List Reading → Result (Option Ticks) Refusal
dash_by (Ok Command.Null) ds = Ok None
dash_by (Ok (Command.Schedule n)) ds = Ok None
dash_by (Ok (Command.Insert i)) ds = Ok None
dash_by (Ok (Command.CancelledInsert id)) ds = Ok None
dash_by (Ok (Command.TimeSignal t)) ds = Ok (dash_of (signal_of ds).longest)
dash_by (Ok Command.BandwidthReservation) ds = Ok None
dash_by (Ok (Command.Private identifier n)) ds = Ok None
dash_by (Ok Command.Unread) ds = Ok None
dash_by (Err r) ds = Err r

-- of any bytes; a refusal and SEALED go out as such
unfoldable pub dash_duration : List ℕ → Result (Option Ticks) Refusal
dash_duration s = asked (open_of s) Err (λ c. dash_by (command s) (known_readings s c))
