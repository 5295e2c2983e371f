-- `layout_descriptors::splice_descriptor` meets its contract: the part that descriptor_length gives, by its identifier.
-- Assumes nothing.
use native.Mathlib.Omega.{arith}
use mathlib.Core.Path.{◌≡◌, refl, sym, ap, ◌∙◌}
use mathlib.Core.List.{[], ◌∷◌}
use Prim.Native.Nat.{ℕ, ◌+◌, ◌*◌}
use borrow.Author.Tests.{eq-eqb, ne_eqb}
use Rattle.grammar.specs.Syntax.{Prog, is, done, branch}
use Rattle.grammar.specs.Meaning.{Env, value_of}
use Rattle.grammar.specs.Tables.{bytes, known_descriptor, splice_descriptor}
use Rattle.fields.specs.Fields.{Source, Plan, laid, Lays}
use Rattle.fields.proofs.Lays.{finished, pass, yes_last, no_last, framed}
use Rattle.fields.proofs.Sweeps.{lays_bytes}
use Rattle.fields.proofs.Below.{below}
use Rattle.layout_descriptors.proofs.splice_descriptor.Goals as goal

-- what comes after the identifier
abbrev known : Prog
known = branch (is "identifier" 0x43554549) (known_descriptor (bytes "private_byte")) (bytes "private_byte") done

-- up to the identifier, then on from there
up_to : {v : Source} {tag length id : ℕ} {π σ τ ρ : Plan} → tag ≡ v π.at π.number 8 → length ≡ v (π.at + 8) (π.number + 1) 8
    → σ ≡ laid (8 ∷ 8 ∷ []) π → id ≡ v σ.at σ.number 32 → τ ≡ laid (32 ∷ []) σ
    → ((e : Env) → value_of e "identifier" ≡ id → value_of e "splice_descriptor_tag" ≡ tag → Lays known e v (σ.at + 8 * length) τ ρ)
    → (env : Env) (end : ℕ) → Lays splice_descriptor env v end π ρ
unfolding splice_descriptor
up_to {σ = σ} t l a i b h env end =
    pass a (framed _ (ap (λ (n : ℕ). σ.at + 8 * n) (sym l)) (pass b (h _ (sym i) (sym t))) (finished refl))

pub overflow_mul-end : goal.overflow_mul-end
overflow_mul-end c = omega (arith, below _ _ _ _ _ c.value-descriptor_length.ensures)

pub overflow_add-end : goal.overflow_add-end
overflow_add-end c = omega (arith, below _ _ _ _ _ c.value-descriptor_length.ensures)

pub returns-then-identifier-eq1129661769-clause-lays : goal.returns-then-identifier-eq1129661769-clause-lays
returns-then-identifier-eq1129661769-clause-lays c =
    up_to c.value-splice_descriptor_tag.ensures c.value-descriptor_length.ensures c.lay.ensures.plan c.value-identifier.ensures c.lay-2.ensures.plan
    (λ e id tag. yes_last (eq-eqb _ 0x43554549 (id ∙ c.if-identifier-eq1129661769.true)) (c.known_descriptor.ensures.lays _ tag))

pub returns-else-identifier-eq1129661769-clause-lays : goal.returns-else-identifier-eq1129661769-clause-lays
returns-else-identifier-eq1129661769-clause-lays c =
    up_to c.value-splice_descriptor_tag.ensures c.value-descriptor_length.ensures c.lay.ensures.plan c.value-identifier.ensures c.lay-2.ensures.plan
    (λ e id tag. no_last (ne_eqb _ 0x43554549 (λ q. c.if-identifier-eq1129661769.false (sym id ∙ q))) (lays_bytes "private_byte" c.bytes.ensures.plan))
