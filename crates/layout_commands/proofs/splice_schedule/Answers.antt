-- `layout_commands::splice_schedule` meets its contract. The loop's invariant: the events that are left, from here on, are all of them.
-- Assumes nothing.
use mathlib.Core.Path.{refl, sym, ◌∙◌}
use native.Mathlib.Omega.{arith}
use Rattle.grammar.specs.Tables.{splice_schedule}
use Rattle.fields.proofs.Lays.{finished, pass, repeated}
use Rattle.fields.proofs.Counts.{going_first, going_on, going_over}
use Rattle.layout_commands.proofs.splice_schedule.Goals as goal

pub loop-init : goal.loop-init
loop-init c = record { going = λ env end. going_first; memory = refl }

pub loop-preserved : goal.loop-preserved
loop-preserved c =
    let event = c.schedule_event in
    let loop = c.loop in record {
      going = λ env end. going_on (omega arith) (loop.invariant.going env end) (sym (event.ensures.lays env end).lays);
      memory = event.ensures.memory ∙ loop.invariant.memory;
    }

pub returns-clause-lays : goal.returns-clause-lays
unfolding splice_schedule
returns-clause-lays c =
    λ env end.
    pass c.lay.ensures.plan
    (repeated _ (sym c.value-splice_count.ensures) (going_over (omega arith) (c.loop.invariant.going _ end)) (finished refl))
