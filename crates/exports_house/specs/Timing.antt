-- The effective time and the DVB-DASH answers as lists of numbers: the number of the case and then its values.
-- Assumes nothing.
use Rattle.std.specs.Prelude.{Bool, true, false, [], ◌∷◌, Option, Some, None, Result, Ok, Err}
use Rattle.units.specs.declared.clock.Ticks.{Ticks}
use Rattle.units.specs.declared.refusals.Refusal.{Refusal}
use Rattle.units.specs.Refusals.{number_of}
use Rattle.wire.specs.Given.{Numbers, refused, these}

-- no time, or a time on the stream's clock
abbrev pub effective_time_numbers : Result (Option Ticks) Refusal → Numbers
effective_time_numbers (Ok None) = these (0 ∷ [])
effective_time_numbers (Ok (Some t)) = these (1 ∷ t.0 ∷ [])
effective_time_numbers (Err r) = refused (number_of r)

-- 0 for no, 1 for yes
abbrev pub dvb_numbers : Result Bool Refusal → Numbers
dvb_numbers (Ok false) = these (0 ∷ [])
dvb_numbers (Ok true) = these (1 ∷ [])
dvb_numbers (Err r) = refused (number_of r)

-- no duration, or so many ticks
abbrev pub dash_duration_numbers : Result (Option Ticks) Refusal → Numbers
dash_duration_numbers (Ok None) = these (0 ∷ [])
dash_duration_numbers (Ok (Some t)) = these (1 ∷ t.0 ∷ [])
dash_duration_numbers (Err r) = refused (number_of r)
