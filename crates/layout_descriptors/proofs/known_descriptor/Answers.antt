-- `layout_descriptors::known_descriptor` meets its contract: by tag, the table of the descriptor's kind.
-- Assumes nothing.
use mathlib.Core.Path.{◌≡◌, ap, ◌∙◌, subst, sym}
use Prim.Native.Nat.{ℕ, ◌<◌}
use native.Mathlib.Omega.{arith}
use lib.Dec.{eqb}
use Rattle.grammar.specs.Meaning.{Env, value_of}
use Rattle.grammar.specs.Tables.{bytes, avail_descriptor, time_descriptor, known_descriptor}
use Rattle.descriptors.specs.declared.Kind.{Kind}
use Rattle.descriptors.specs.declared.Kind.TheVariants.{Avail, Dtmf, Segmentation, Time, Audio, Unknown}
use Rattle.descriptors.specs.Walk.{by_tag, table_of}
use Rattle.descriptors.proofs.ByKind.{no_tag}
use Rattle.fields.specs.Fields.{Source, Plan, Lays}
use Rattle.fields.proofs.Lays.{pass_last, chosen}
use Rattle.fields.proofs.Sweeps.{lays_bytes}
use Rattle.layout_descriptors.proofs.known_descriptor.Goals as goal

-- the table of the kind that the tag says
by_tag_lem : {env : Env} {v : Source} {end : ℕ} {π ρ : Plan} (t : ℕ) → value_of env "splice_descriptor_tag" ≡ t
    → Lays (table_of (by_tag t)) env v end π ρ → Lays (known_descriptor (bytes "private_byte")) env v end π ρ
unfolding by_tag table_of known_descriptor
by_tag_lem {env} t e =
    let is-it : (x : ℕ) → eqb (value_of env "splice_descriptor_tag") x ≡ eqb t x = λ x. ap (λ (y : ℕ). eqb y x) e in
    chosen table_of (eqb t 0) Avail _ (is-it 0) (λ r. r)
    (chosen table_of (eqb t 1) Dtmf _ (is-it 1) (λ r. r)
    (chosen table_of (eqb t 2) Segmentation _ (is-it 2) (λ r. r)
    (chosen table_of (eqb t 3) Time _ (is-it 3) (λ r. r)
    (chosen table_of (eqb t 4) Audio Unknown (is-it 4) (λ r. r) (λ r. r)))))

-- bytes where the tag says none
no_known : {env : Env} {v : Source} {end : ℕ} {π ρ : Plan} (t : ℕ) → value_of env "splice_descriptor_tag" ≡ t → 4 < t
    → Lays (bytes "private_byte") env v end π ρ → Lays (known_descriptor (bytes "private_byte")) env v end π ρ
unfolding table_of
no_known {env} {v} {end} {π} {ρ} t e h l = by_tag_lem t e (subst (λ (k : Kind). Lays (table_of k) env v end π ρ) (sym (no_tag t h)) l)

past : (t : ℕ) → (t ≡ 0 → ⊥) → (t ≡ 1 → ⊥) → (t ≡ 2 → ⊥) → (t ≡ 3 → ⊥) → (t ≡ 4 → ⊥) → 4 < t
past t a b c d e = omega arith

pub returns-in-0-clause-lays : goal.returns-in-0-clause-lays
unfolding avail_descriptor by_tag table_of
returns-in-0-clause-lays c = λ env e. by_tag_lem 0 (e ∙ c.in-0.is) (pass_last c.lay.ensures.plan)

pub returns-in-1-clause-lays : goal.returns-in-1-clause-lays
unfolding by_tag table_of
returns-in-1-clause-lays c = λ env e. by_tag_lem 1 (e ∙ c.in-1.is) (c.dtmf_descriptor.ensures.lays _ _)

pub returns-in-2-clause-lays : goal.returns-in-2-clause-lays
unfolding by_tag table_of
returns-in-2-clause-lays c = λ env e. by_tag_lem 2 (e ∙ c.in-2.is) (c.segmentation_descriptor.ensures.lays _)

pub returns-in-3-clause-lays : goal.returns-in-3-clause-lays
unfolding by_tag table_of time_descriptor
returns-in-3-clause-lays c = λ env e. by_tag_lem 3 (e ∙ c.in-3.is) (pass_last c.lay-in-3.ensures.plan)

pub returns-in-4-clause-lays : goal.returns-in-4-clause-lays
unfolding by_tag table_of
returns-in-4-clause-lays c = λ env e. by_tag_lem 4 (e ∙ c.in-4.is) (c.audio_descriptor.ensures.lays _ _)

pub returns-in_default-clause-lays : goal.returns-in_default-clause-lays
returns-in_default-clause-lays c =
    let tag : ℕ = c.args.splice_descriptor_tag in
    let none : 4 < tag = omega arith in
    λ env e. no_known tag e none (lays_bytes "private_byte" c.bytes.ensures.plan)
