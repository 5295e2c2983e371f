-- The break of a section (003).
-- Assumes nothing.
use Rattle.std.specs.Prelude.{ℕ, cond, List, Option, Some, None, Result, Ok, Err}
use Rattle.units.specs.declared.refusals.Refusal.{Refusal}
use Rattle.opening.specs.First.{open_of, asked}
use Rattle.command_reading.specs.declared.answers.BreakDuration.{BreakDuration}
use Rattle.command_reading.specs.declared.answers.Insert.{Insert}
use Rattle.command_reading.specs.declared.answers.Command.{Command}
use Rattle.command_reading.specs.Command.{command}
use Rattle.breaks.specs.declared.Break.{Break}
use Rattle.breaks.specs.Signals.{Reading, known_readings, signal_break}

-- as long as an insert's break_duration says; without one it has no measure, and is never one of zero ticks
abbrev pub lasting_break : Option BreakDuration → Break
lasting_break None = Break.Unmeasured
lasting_break (Some d) = Break.Measured d.duration

-- an insert opens one where it leaves the network
abbrev pub insert_break : Insert → Break
insert_break i = cond i.out_of_network_indicator (lasting_break i.avails.break_duration) Break.None

-- by the command and the known descriptors; the refusal of a command goes out as such
abbrev pub break_by : Result Command Refusal → List Reading → Result Break Refusal
break_by (Ok Command.Null) ds = Ok Break.None
break_by (Ok (Command.Schedule n)) ds = Ok Break.None
break_by (Ok (Command.Insert i)) ds = Ok (insert_break i)
break_by (Ok (Command.CancelledInsert id)) ds = Ok Break.None
break_by (Ok (Command.TimeSignal t)) ds = Ok (signal_break ds)
break_by (Ok Command.BandwidthReservation) ds = Ok Break.None
break_by (Ok (Command.Private identifier n)) ds = Ok Break.None
break_by (Ok Command.Unread) ds = Ok Break.Unread
break_by (Err r) ds = Err r

-- a refusal by rows 1 to 10 goes out as such; a sealed section is unread
abbrev pub refused_break : Refusal → Result Break Refusal
refused_break Refusal.Sealed = Ok Break.Unread
refused_break r = Err r

-- of any bytes: by their refusal, or else by the command and the known descriptors
unfoldable pub break_answer : List ℕ → Result Break Refusal
break_answer s = asked (open_of s) refused_break (λ c. break_by (command s) (known_readings s c))
