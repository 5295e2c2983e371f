-- `command_events::parts::event_time` meets its contract.
-- Assumes nothing.
use mathlib.Core.Path.{sym, ◌∙◌}
use Prim.Native.Nat.{◌+◌, ◌*◌}
use native.Mathlib.Omega.{arith}
use Rattle.bits.proofs.Fields.{field_lt}
use Rattle.command_reading.specs.declared.answers.EventTime.{EventTime}
use Rattle.command_events.proofs.parts.event_time.Goals as goal

pub overflow_cast-result : goal.overflow_cast-result
overflow_cast-result c =
    let a = c.args in
    omega (arith, field_lt a.s.now (8 * (a.at + 6)) 32)

pub overflow_cast-result-else-flag : goal.overflow_cast-result-else-flag
overflow_cast-result-else-flag c =
    let a = c.args in
    omega (arith, field_lt a.s.now (8 * (a.at + 6)) 8)

pub returns-then-flag : goal.returns-then-flag
returns-then-flag c = rw (sym c.flag.ensures ∙ c.if-flag.true) (λ i. EventTime.Program (c.quad.ensures i))

pub returns-else-flag : goal.returns-else-flag
returns-else-flag c = rw (sym c.flag.ensures ∙ c.if-flag.false) (λ i. EventTime.Components (c.read.ensures i))
