-- `fields::Fields::bytes` meets its contract: the count is the fewest bytes that reach the end.
-- Assumes nothing.
use mathlib.Core.Path.{sym, ◌∙◌}
use Prim.Native.Nat.{◌+◌, ◌-◌, ◌/◌}
use native.Mathlib.Omega.{arith}
use Rattle.fields.proofs.Sweeps.{no_bytes, some_bytes}
use Rattle.fields.proofs.Fields.bytes.Goals as goal

pub returns-then-end-at-clause-plan : goal.returns-then-end-at-clause-plan
returns-then-end-at-clause-plan c = sym (no_bytes c.args.end _ c.if-end-at.true)

pub returns-clause-plan : goal.returns-clause-plan
returns-clause-plan c =
    let a = c.args in
    c.groups.ensures.plan ∙ some_bytes ((a.end - a.self.now.at - 1) / 8 + 1) a.end _ (omega arith) (omega arith)
