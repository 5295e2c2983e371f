-- Ticks of the 90 kHz clock as milliseconds, the sum of two times of the 33-bit clock, and event ids.
-- Assumes nothing.
use Rattle.std.specs.Prelude.{ℕ, ◌+◌, ◌/◌, ◌%◌, ◌^◌}
use Rattle.units.specs.declared.clock.Ticks.{Ticks}
use Rattle.units.specs.declared.clock.Millis.{Millis}
use Rattle.units.specs.declared.clock.EventId.{EventId}

-- so many ticks; so many milliseconds; the event of that number
abbrev pub ticks : ℕ → Ticks
ticks n = record { 0 = n }

abbrev pub millis : ℕ → Millis
millis n = record { 0 = n }

abbrev pub event_id : ℕ → EventId
event_id n = record { 0 = n }

-- the whole milliseconds in these ticks, of which 90 make one
abbrev pub millis_of : Ticks → Millis
millis_of t = millis (t.0 / 90)

-- the clock has 33 bits: its sum starts again from 0 at 2 ^ 33
abbrev pub clock_sum : Ticks → Ticks → Ticks
clock_sum a b = ticks ((a.0 + b.0) % 2 ^ 33)
