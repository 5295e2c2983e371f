-- `command_reading::parts::insert_time` meets its contract.
-- Assumes nothing.
use mathlib.Core.Path.{sym, ◌∙◌}
use native.Mathlib.Omega.{arith}
use Rattle.command_reading.proofs.Times.{time_from}
use Rattle.command_reading.proofs.parts.insert_time.Goals as goal

pub returns-then-flag : goal.returns-then-flag
returns-then-flag c = rw (sym c.flag.ensures ∙ c.if-flag.true)

pub returns-then-not-flag : goal.returns-then-not-flag
returns-then-not-flag c =
    rw (
      sym c.flag.ensures ∙ c.if-flag.false,
      sym c.flag-2.ensures ∙ c.if-not-flag.true,
    )

pub returns : goal.returns
returns c =
    rw (
      sym c.flag.ensures ∙ c.if-flag.false,
      sym c.flag-2.ensures ∙ c.if-not-flag.false,
    )
    (c.splice_time.ensures ∙ time_from c.args.s.now 20 (omega arith))
