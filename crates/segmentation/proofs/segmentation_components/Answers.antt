-- `segmentation::segmentation_components` meets its contract: nothing where the flag is set, else a count and six bytes for each component.
-- Assumes nothing.
use mathlib.Core.Path.{refl, sym, ◌∙◌}
use Prim.Native.Nat.{◌*◌, ◌<◌}
use native.Mathlib.Omega.{arith}
use lib.ListN.{get_or}
use borrow.Author.Tests.{eq-eqb, ne_eqb}
use Rattle.grammar.specs.Tables.{segmentation_components}
use Rattle.grammar.proofs.Run.{pass, short, yes_last, no_last, finished, all_there, not_all_there}
use Rattle.grammar.proofs.Places.{octet}
use Rattle.segmentation.proofs.segmentation_components.Goals as goal

pub returns-then-program_segmentation_flag-ne0 : goal.returns-then-program_segmentation_flag-ne0
unfolding segmentation_components
returns-then-program_segmentation_flag-ne0 c env e =
    no_last (ne_eqb _ 0 (λ q. c.if-program_segmentation_flag-ne0.true (sym e ∙ q))) (finished refl)

pub returns-then-end-at-lt1 : goal.returns-then-end-at-lt1
unfolding segmentation_components
returns-then-end-at-lt1 c env e = yes_last (eq-eqb _ 0 (e ∙ c.if-program_segmentation_flag-ne0.false)) (short (omega arith))

pub overflow_cast-component_count : goal.overflow_cast-component_count
overflow_cast-component_count c = omega (arith, c.shared_slice_known-1.given c.args.part.at)

pub overflow_mul-component_count : goal.overflow_mul-component_count
overflow_mul-component_count c = omega (arith, c.shared_slice_known-1.given c.args.part.at)

pub returns-then-end-at : goal.returns-then-end-at
unfolding segmentation_components
returns-then-end-at c env e =
    let a = c.args.part in
    let byte : get_or a.s.now a.at 0 < 256 = omega (arith, c.shared_slice_known-1.given a.at) in
    yes_last (eq-eqb _ 0 (e ∙ c.if-program_segmentation_flag-ne0.false))
    (pass (omega arith) (not_all_there (get_or a.s.now a.at 0) (octet a.s.now a.at (8 * a.at) byte refl) (omega arith) (omega arith)))

pub returns : goal.returns
unfolding segmentation_components
returns c env e =
    let a = c.args.part in
    let byte : get_or a.s.now a.at 0 < 256 = omega (arith, c.shared_slice_known-1.given a.at) in
    yes_last (eq-eqb _ 0 (e ∙ c.if-program_segmentation_flag-ne0.false))
    (pass (omega arith) (all_there (get_or a.s.now a.at 0) (octet a.s.now a.at (8 * a.at) byte refl) (omega arith) (finished (omega arith))))
