-- `layout_commands::insert_components` meets its contract. The loop's invariant: the components that are left, from here on, are all of them.
-- Assumes nothing.
use mathlib.Core.Path.{refl, sym, ◌∙◌}
use native.Mathlib.Omega.{arith}
use Rattle.fields.proofs.Counts.{going_first, going_on, going_over}
use Rattle.layout_commands.proofs.insert_components.Goals as goal

pub loop-init : goal.loop-init
loop-init c = record { going = λ env end e. going_first; memory = refl }

pub loop-preserved : goal.loop-preserved
loop-preserved c =
    let component = c.insert_component in
    let loop = c.loop in record {
      going = λ env end e. going_on (omega arith) (loop.invariant.going env end e) (sym (component.ensures.lays env end e).lays);
      memory = component.ensures.memory ∙ loop.invariant.memory;
    }

pub returns-clause-lays : goal.returns-clause-lays
returns-clause-lays c = λ env end e. going_over (omega arith) (c.loop.invariant.going env end e)
