-- `layout_descriptors::segmentation_descriptor` meets its contract: where it is not cancelled, one line for each of its parts.
-- Assumes nothing.
use mathlib.Core.Path.{refl, sym, ap, ◌∙◌}
use borrow.Author.Tests.{eq-eqb, ne_eqb}
use Rattle.grammar.specs.Tables.{segmentation_descriptor}
use Rattle.fields.specs.SoFar.{so_far}
use Rattle.fields.proofs.Lays.{finished, pass, pass_last, yes, no, yes_last, no_last, called}
use Rattle.fields.proofs.Flags.{third}
use Rattle.layout_descriptors.proofs.segmentation_descriptor.Goals as goal
use Rattle.layout_descriptors.proofs.segmentation_descriptor.Goals.{then-segmentation_duration_flag-eq1, else-segmentation_duration_flag-eq1}

pub returns-then-cancelled-ne0-clause-lays : goal.returns-then-cancelled-ne0-clause-lays
unfolding segmentation_descriptor
returns-then-cancelled-ne0-clause-lays c =
    λ env.
    pass c.lay.ensures.plan
    (no_last (ne_eqb _ 0 (λ q. c.if-cancelled-ne0.true (c.value-cancelled.ensures ∙ q))) (finished refl))

pub returns-clause-lays : goal.returns-clause-lays
unfolding segmentation_descriptor
returns-clause-lays c =
    let duration = sym c.value-segmentation_duration_flag.ensures in
    λ env.
    pass c.lay.ensures.plan
    (yes_last (eq-eqb _ 0 (sym c.value-cancelled.ensures ∙ c.if-cancelled-ne0.false))
    (pass c.lay-2.ensures.plan
    (called (c.delivery.ensures.lays _ _ _ (third _ _ _ _ c.value-delivery_not_restricted_flag.ensures))
    (called (c.segmentation_components.ensures.lays _ _ (sym c.value-program_segmentation_flag.ensures))
    (elim c.if-segmentation_duration_flag-eq1.branch [
      | then-segmentation_duration_flag-eq1 w ↦ yes (eq-eqb _ 1 (duration ∙ w.if-segmentation_duration_flag-eq1.true)) (pass_last (ap so_far w.fields-is ∙ w.lay-then-segmentation_duration_flag-eq1.ensures.plan)) (called (c.segmentation_end.ensures.lays _) (finished refl))
      | else-segmentation_duration_flag-eq1 w ↦ no (ne_eqb _ 1 (λ q. w.if-segmentation_duration_flag-eq1.false (sym duration ∙ q))) (finished (sym (ap so_far w.fields-is))) (called (c.segmentation_end.ensures.lays _) (finished refl))
    ])))))
