-- `descriptors::kind_at` meets its contract: the identifier tells whose tag it is, and the tag the kind.
-- Assumes nothing.
use mathlib.Core.Path.{◌≡◌, refl, sym, ◌∙◌}
use Prim.Native.Nat.{ℕ, ◌<◌}
use native.Mathlib.Omega.{arith}
use lib.ListN.{get_or}
use Rattle.descriptors.specs.Walk.{by_tag, kind_of}
use Rattle.descriptors.proofs.ByKind.{own, foreign, no_tag}
use Rattle.descriptors.proofs.kind_at.Goals as goal

pub returns-then-identifier-ne-CUEI : goal.returns-then-identifier-ne-CUEI
returns-then-identifier-ne-CUEI c = sym (foreign _ _ (λ e. c.if-identifier-ne-CUEI.true (c.identifier.ensures ∙ e)))

pub returns-in-0 : goal.returns-in-0
unfolding by_tag
returns-in-0 c =
    let tagged : (tag : ℕ) → get_or c.args.s.now c.args.at 0 ≡ tag → kind_of c.args.s.now c.args.at ≡ by_tag tag = λ tag e. let a = c.args in
    own a.s.now a.at tag (sym c.identifier.ensures ∙ c.if-identifier-ne-CUEI.false)
    (omega (arith, c.shared_slice_known-2-1.given a.at)) e in
    sym (tagged 0 c.in-0.is)

pub returns-in-1 : goal.returns-in-1
unfolding by_tag
returns-in-1 c =
    let tagged : (tag : ℕ) → get_or c.args.s.now c.args.at 0 ≡ tag → kind_of c.args.s.now c.args.at ≡ by_tag tag = λ tag e. let a = c.args in
    own a.s.now a.at tag (sym c.identifier.ensures ∙ c.if-identifier-ne-CUEI.false)
    (omega (arith, c.shared_slice_known-2-1.given a.at)) e in
    sym (tagged 1 c.in-1.is)

pub returns-in-2 : goal.returns-in-2
unfolding by_tag
returns-in-2 c =
    let tagged : (tag : ℕ) → get_or c.args.s.now c.args.at 0 ≡ tag → kind_of c.args.s.now c.args.at ≡ by_tag tag = λ tag e. let a = c.args in
    own a.s.now a.at tag (sym c.identifier.ensures ∙ c.if-identifier-ne-CUEI.false)
    (omega (arith, c.shared_slice_known-2-1.given a.at)) e in
    sym (tagged 2 c.in-2.is)

pub returns-in-3 : goal.returns-in-3
unfolding by_tag
returns-in-3 c =
    let tagged : (tag : ℕ) → get_or c.args.s.now c.args.at 0 ≡ tag → kind_of c.args.s.now c.args.at ≡ by_tag tag = λ tag e. let a = c.args in
    own a.s.now a.at tag (sym c.identifier.ensures ∙ c.if-identifier-ne-CUEI.false)
    (omega (arith, c.shared_slice_known-2-1.given a.at)) e in
    sym (tagged 3 c.in-3.is)

pub returns-in-4 : goal.returns-in-4
unfolding by_tag
returns-in-4 c =
    let tagged : (tag : ℕ) → get_or c.args.s.now c.args.at 0 ≡ tag → kind_of c.args.s.now c.args.at ≡ by_tag tag = λ tag e. let a = c.args in
    own a.s.now a.at tag (sym c.identifier.ensures ∙ c.if-identifier-ne-CUEI.false)
    (omega (arith, c.shared_slice_known-2-1.given a.at)) e in
    sym (tagged 4 c.in-4.is)

pub returns-in_default : goal.returns-in_default
returns-in_default c =
    let tagged : (tag : ℕ) → get_or c.args.s.now c.args.at 0 ≡ tag → kind_of c.args.s.now c.args.at ≡ by_tag tag = λ tag e. let a = c.args in
    own a.s.now a.at tag (sym c.identifier.ensures ∙ c.if-identifier-ne-CUEI.false)
    (omega (arith, c.shared_slice_known-2-1.given a.at)) e in
    let a = c.args in
    let tag : ℕ = get_or a.s.now a.at 0 in
    let r = c.in_default.in_default-own.rest in
    let other : 4 < get_or a.s.now a.at 0 = omega (arith, r.0.0.0.0.1, r.0.0.0.1, r.0.0.1, r.0.1, r.1) in
    sym (tagged tag refl ∙ no_tag tag other)
