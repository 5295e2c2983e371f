-- The effective time and the first DVB check.
-- Assumes nothing.
use Rattle.std.specs.Prelude.{ℕ, Bool, List, [], ◌∷◌, Option, Some, None, Result, Ok, Err}
use Rattle.units.specs.declared.clock.Ticks.{Ticks}
use Rattle.units.specs.declared.refusals.Refusal.{Refusal}
use Rattle.units.specs.Clock.{ticks, clock_sum}
use Rattle.grammar.specs.Meaning.{is_among}
use Rattle.grammar.specs.Names.{look}
use Rattle.section.specs.Accept.{the}
use Rattle.opening.specs.First.{open_of, asked}
use Rattle.command_reading.specs.declared.answers.SpliceTime.{SpliceTime}
use Rattle.command_reading.specs.declared.answers.Command.{Command}
use Rattle.command_reading.specs.Command.{command_trace, command}

-- ---- the effective time

-- a given time, moved by the section's adjustment on the 33-bit clock
abbrev pub moved_by : ℕ → SpliceTime → Option Ticks
moved_by adjustment SpliceTime.Immediate = None
moved_by adjustment SpliceTime.NotGiven = None
moved_by adjustment (SpliceTime.Given t) = Some (clock_sum t (ticks adjustment))

-- of an insert, which has a time where it is one of the program, or of a time signal; the refusal of a command goes out as such
abbrev pub effective_by : ℕ → Result Command Refusal → Result (Option Ticks) Refusal
effective_by adjustment (Ok Command.Null) = Ok None
effective_by adjustment (Ok (Command.Schedule n)) = Ok None
effective_by adjustment (Ok (Command.Insert i)) = Ok (moved_by adjustment i.time)
effective_by adjustment (Ok (Command.CancelledInsert id)) = Ok None
effective_by adjustment (Ok (Command.TimeSignal t)) = Ok (moved_by adjustment t)
effective_by adjustment (Ok Command.BandwidthReservation) = Ok None
effective_by adjustment (Ok (Command.Private identifier n)) = Ok None
effective_by adjustment (Ok Command.Unread) = Ok None
effective_by adjustment (Err r) = Err r

-- a section's, by its pts_adjustment and its command; a refusal and SEALED go out as such
unfoldable pub effective_time : List ℕ → Result (Option Ticks) Refusal
effective_time s = asked (open_of s) Err (λ c. effective_by (the s "pts_adjustment") (command s))

-- ---- the first DVB check (001, Table 1)

-- a splice insert or a time signal passes it; a refusal and SEALED go out as such
unfoldable pub dvb : List ℕ → Result Bool Refusal
dvb s = asked (open_of s) Err (λ c. Ok (is_among (look (command_trace s) "splice_command_type") (0x05 ∷ 0x06 ∷ [])))
