-- `layout_descriptors::segmentation_components` meets its contract: nothing, or a count and as many components.
-- Assumes nothing.
use mathlib.Core.Path.{refl, sym, ◌∙◌}
use borrow.Author.Tests.{eq-eqb, ne_eqb}
use Rattle.grammar.specs.Tables.{segmentation_components}
use Rattle.fields.proofs.Lays.{finished, pass, yes_last, no_last, many}
use Rattle.layout_descriptors.proofs.segmentation_components.Goals as goal

pub returns-then-program_segmentation_flag-ne0-clause-lays : goal.returns-then-program_segmentation_flag-ne0-clause-lays
unfolding segmentation_components
returns-then-program_segmentation_flag-ne0-clause-lays c =
    λ env end e. no_last (ne_eqb _ 0 (λ q. c.if-program_segmentation_flag-ne0.true (sym e ∙ q))) (finished refl)

pub returns-clause-lays : goal.returns-clause-lays
unfolding segmentation_components
returns-clause-lays c =
    λ env end e.
    yes_last (eq-eqb _ 0 (e ∙ c.if-program_segmentation_flag-ne0.false))
    (pass c.lay.ensures.plan (many _ (sym c.value-component_count.ensures) c.groups.ensures.plan (finished refl)))
