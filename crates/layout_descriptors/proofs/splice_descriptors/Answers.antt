-- `layout_descriptors::splice_descriptors` meets its contract. The loop's invariant: the descriptors from here on are all of them.
-- Assumes nothing.
use mathlib.Core.Path.{refl, ◌∙◌}
use native.Mathlib.Omega.{arith}
use Rattle.fields.proofs.Descents.{sweep_over, sweep_on_lem, sweep_last}
use Rattle.layout_descriptors.proofs.splice_descriptors.Goals as goal

pub loop-fields-init : goal.loop-fields-init
loop-fields-init c = record { all = λ env. refl; memory = refl }

pub loop-fields-preserved : goal.loop-fields-preserved
loop-fields-preserved c =
    let loop = c.loop-fields in
    let next = c.splice_descriptor in record {
      all = λ env.
          loop.invariant.all env ∙ sweep_on_lem _ _ _ _ (omega arith) c.loop-fields-test.true (next.ensures.lays env _).lays c.if-fields-at.false;
      memory = next.ensures.memory ∙ loop.invariant.memory;
    }

pub returns-then-fields-at-clause-lays : goal.returns-then-fields-at-clause-lays
returns-then-fields-at-clause-lays c =
    λ env.
    c.loop-fields.invariant.all env
    ∙ sweep_last _ _ _ _ (omega arith) c.loop-fields-test.true (c.splice_descriptor.ensures.lays env _).lays c.if-fields-at.true

pub returns-clause-lays : goal.returns-clause-lays
returns-clause-lays c = λ env. c.loop-fields.invariant.all env ∙ sweep_over _ _ _ _ c.loop-fields-test.false
