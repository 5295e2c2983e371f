-- `command_reading::parts::insert_mode` meets its contract.
-- Assumes nothing.
use mathlib.Core.Path.{sym, ◌∙◌}
use native.Mathlib.Omega.{arith}
use Rattle.bits.proofs.Fields.{field_lt}
use Rattle.units.specs.declared.mode.Mode.{Mode}
use Rattle.command_reading.proofs.parts.insert_mode.Goals as goal

pub overflow_cast-result : goal.overflow_cast-result
overflow_cast-result c = omega (arith, field_lt c.args.s.now 160 8)

pub returns-then-flag : goal.returns-then-flag
returns-then-flag c = rw (sym c.flag.ensures ∙ c.if-flag.true)

pub returns-else-flag : goal.returns-else-flag
returns-else-flag c = rw (sym c.flag.ensures ∙ c.if-flag.false) (λ i. Mode.Components (c.read.ensures i))
