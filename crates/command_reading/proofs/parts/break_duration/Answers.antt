-- `command_reading::parts::break_duration` meets its contract.
-- Assumes nothing.
use Rattle.std.specs.Prelude.{Some}
use Rattle.units.specs.Clock.{ticks}
use Rattle.command_reading.specs.Places.{break_at}
use Rattle.command_reading.proofs.parts.break_duration.Goals as goal

pub returns-then-duration_flag : goal.returns-then-duration_flag
unfolding break_at
returns-then-duration_flag c =
    rw c.if-duration_flag.true (λ i. Some (record { auto_return = c.flag.ensures i; duration = ticks (c.read.ensures i) }))

pub returns-else-duration_flag : goal.returns-else-duration_flag
unfolding break_at
returns-else-duration_flag c = rw c.if-duration_flag.false
