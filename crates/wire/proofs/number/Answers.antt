-- `wire::number` meets its contract: a refusal's number, at most 17, is put above 2^63.
-- Assumes nothing.
use mathlib.Core.Path.{sym, ap, ◌∙◌}
use Prim.Native.Nat.{ℕ, ◌+◌, ◌^◌}
use native.Mathlib.Omega.{arith}
use Rattle.units.proofs.Numbers.{number_at_most}
use Rattle.wire.specs.Wire.{wire}
use Rattle.wire.proofs.number.Goals as goal

pub overflow_add-result : goal.overflow_add-result
overflow_add-result c = omega (arith, c.number.ensures, number_at_most c.in-Err.refusal)

pub returns-in-Err : goal.returns-in-Err
returns-in-Err c = ap (λ (n : ℕ). 2 ^ 63 + n) c.number.ensures ∙ ap wire (sym c.in-Err.is)
