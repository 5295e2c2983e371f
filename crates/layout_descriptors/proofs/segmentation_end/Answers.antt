-- `layout_descriptors::segmentation_end` meets its contract: the two bytes at the end stand there for some types, and where the part is not used up.
-- Assumes nothing.
use native.Mathlib.Omega.{arith}
use mathlib.Core.Path.{◌≡◌, refl, sym, ap, ◌∙◌}
use mathlib.Core.List.{[], ◌∷◌}
use Prim.Native.Nat.{ℕ, ◌+◌}
use borrow.Author.Tests.{lt-ltb, le-ltb}
use Rattle.grammar.specs.Syntax.{Prog, field, among, more, done, fields, branch}
use Rattle.grammar.specs.Meaning.{Env, value_of, is_among}
use Rattle.grammar.specs.Tables.{sub_segmented, segmentation_end}
use Rattle.fields.specs.Fields.{Source, Plan, laid, times_on, Lays}
use Rattle.fields.proofs.Lays.{finished, pass, pass_last, yes_last, no_last, many}
use Rattle.fields.proofs.Below.{below}
use Rattle.layout_descriptors.proofs.segmentation_end.Goals as goal
use Rattle.layout_descriptors.proofs.segmentation_end.Goals.{else-is_sub_segmented-via-then-is_sub_segmented+else-fields-end, else-is_sub_segmented-via-else-is_sub_segmented}

-- what comes after the types
abbrev subs : Prog
subs =
    branch (among "segmentation_type_id" sub_segmented)
    (branch more (fields (field 8 "sub_segment_num" ∷ field 8 "sub_segments_expected" ∷ []) done) done done)
    done
    done

-- up to the types, then on from there
up_to : {v : Source} {end length id : ℕ} {π σ τ υ ρ : Plan} → length ≡ v (π.at + 8) (π.number + 1) 8 → σ ≡ laid (8 ∷ 8 ∷ []) π
    → τ ≡ times_on length (laid (8 ∷ [])) σ → id ≡ v τ.at τ.number 8 → υ ≡ laid (8 ∷ 8 ∷ 8 ∷ []) τ
    → ((e : Env) → value_of e "segmentation_type_id" ≡ id → Lays subs e v end υ ρ) → (env : Env) → Lays segmentation_end env v end π ρ
unfolding segmentation_end
up_to l a b i t h env = pass a (many _ (sym l) b (pass t (h _ (sym i))))

pub overflow_cast-segmentation_type_id : goal.overflow_cast-segmentation_type_id
overflow_cast-segmentation_type_id c = omega (arith, below _ _ _ _ _ c.value-segmentation_type_id.ensures)

pub returns-then-fields-end-clause-lays : goal.returns-then-fields-end-clause-lays
returns-then-fields-end-clause-lays c =
    up_to c.value-segmentation_upid_length.ensures c.lay.ensures.plan c.groups.ensures.plan c.value-segmentation_type_id.ensures c.lay-2.ensures.plan
    (λ e id.
    yes_last (ap (λ (t : ℕ). is_among t sub_segmented) id ∙ sym c.is_sub_segmented.ensures ∙ c.if-is_sub_segmented.true)
    (yes_last (lt-ltb _ _ c.if-fields-end.true) (pass_last c.lay-then-fields-end.ensures.plan)))

pub returns-else-is_sub_segmented-clause-lays : goal.returns-else-is_sub_segmented-clause-lays
returns-else-is_sub_segmented-clause-lays c =
    up_to c.value-segmentation_upid_length.ensures c.lay.ensures.plan c.groups.ensures.plan c.value-segmentation_type_id.ensures c.lay-2.ensures.plan
    (λ e id.
    elim c.else-is_sub_segmented.branch [
      | else-is_sub_segmented-via-then-is_sub_segmented+else-fields-end w ↦
          yes_last (ap (λ (t : ℕ). is_among t sub_segmented) id ∙ sym c.is_sub_segmented.ensures ∙ w.if-is_sub_segmented.true)
          (no_last (le-ltb _ _ w.if-fields-end.false) (finished refl))
      | else-is_sub_segmented-via-else-is_sub_segmented w ↦
          no_last (ap (λ (t : ℕ). is_among t sub_segmented) id ∙ sym c.is_sub_segmented.ensures ∙ w.if-is_sub_segmented.false) (finished refl)
    ])
