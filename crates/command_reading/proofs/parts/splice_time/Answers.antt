-- `command_reading::parts::splice_time` meets its contract: the flag, and where it is 1 the time.
-- Assumes nothing.
use mathlib.Core.Path.{sym, ◌∙◌}
use Rattle.units.specs.Clock.{ticks}
use Rattle.command_reading.specs.declared.answers.SpliceTime.{SpliceTime}
use Rattle.command_reading.specs.Places.{time_at}
use Rattle.command_reading.proofs.parts.splice_time.Goals as goal

pub returns-then-flag : goal.returns-then-flag
unfolding time_at
returns-then-flag c =
    rw (sym c.flag.ensures ∙ c.if-flag.true) (λ i. SpliceTime.Given (ticks (c.read.ensures i)))

pub returns-else-flag : goal.returns-else-flag
unfolding time_at
returns-else-flag c = rw (sym c.flag.ensures ∙ c.if-flag.false)
