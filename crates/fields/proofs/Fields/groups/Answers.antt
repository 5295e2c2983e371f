-- `fields::Fields::groups` meets its contract. The loop's invariant: the groups that are left, from here on, are all of them.
-- Assumes nothing.
use mathlib.Core.Path.{refl, sym, ◌∙◌}
use native.Mathlib.Omega.{arith}
use Rattle.fields.proofs.Counts.{going_first, going_on, going_over}
use Rattle.fields.proofs.Fields.groups.Goals as goal

pub loop-init : goal.loop-init
loop-init c = record { plan = going_first; memory = refl }

pub loop-preserved : goal.loop-preserved
loop-preserved c =
    let loop = c.loop in record {
      plan = going_on c.loop-test.true loop.invariant.plan c.lay.ensures.plan;
      memory = c.lay.ensures.memory ∙ loop.invariant.memory;
    }

pub returns-clause-plan : goal.returns-clause-plan
returns-clause-plan c = sym (going_over (omega arith) c.loop.invariant.plan)
