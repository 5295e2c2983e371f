-- `descriptor_lists::parts::segmentation_component` meets its contract.
-- Assumes nothing.
use mathlib.Core.Path.{sym, ◌∙◌}
use mathlib.Core.Bool.{Bool, true, false, cond}
use mathlib.Core.List.{List}
use Prim.Native.Nat.{ℕ, ◌+◌, ◌*◌, ◌≤◌, ◌<◌}
use native.Mathlib.Omega.{arith}
use borrow.Author.Tests.{eq-eqb, ne_eqb, lt-ltb, le-ltb}
use Rattle.bits.specs.Bits.{flag_of}
use Rattle.bits.proofs.Fields.{field_lt}
use Rattle.units.specs.Clock.{ticks}
use Rattle.std.specs.Prelude.{Ok}
use Rattle.descriptor_reading.specs.Places.{tag_at, components_at, segmentation_component_at}
use Rattle.descriptor_lists.proofs.parts.segmentation_component.Goals as goal

-- the count of components is a byte
few : (s : List ℕ) (at : ℕ) → components_at s at < 256
few s at = go (flag_of s (8 * (at + 4))) (flag_of s (8 * (at + 5))) (field_lt s (8 * (at + 6)) 8)
  where
    go : (b d : Bool) {n : ℕ} → n < 256 → cond b 0 (cond d 0 n) < 256
    go true d h = omega arith
    go false true h = omega arith
    go false false h = h

pub returns-then-octet-ne2 : goal.returns-then-octet-ne2
unfolding segmentation_component_at
returns-then-octet-ne2 c =
    let a = c.args in
    rw (ne_eqb (tag_at a.s.now a.at) 2 (λ e. c.if-octet-ne2.true (c.octet.ensures ∙ e)))

pub returns-then-component_count-m : goal.returns-then-component_count-m
unfolding segmentation_component_at
returns-then-component_count-m c =
    let a = c.args in
    let count = components_at a.s.now (a.at + 6) in
    let past : count ≤ a.m = omega (arith, c.if-component_count-m.true, c.component_count.ensures) in
    rw (eq-eqb (tag_at a.s.now a.at) 2 (sym c.octet.ensures ∙ c.if-octet-ne2.false), le-ltb a.m count past)

pub overflow_mul-place : goal.overflow_mul-place
overflow_mul-place c =
    let a = c.args in
    omega (arith, few a.s.now (a.at + 6))

pub overflow_add-place-2 : goal.overflow_add-place-2
overflow_add-place-2 c =
    let a = c.args in
    omega (arith, few a.s.now (a.at + 6))

pub overflow_mul-place-2 : goal.overflow_mul-place-2
overflow_mul-place-2 c =
    let a = c.args in
    omega (arith, few a.s.now (a.at + 6))

pub overflow_add-place-3 : goal.overflow_add-place-3
overflow_add-place-3 c =
    let a = c.args in
    omega (arith, few a.s.now (a.at + 6))

pub returns : goal.returns
unfolding segmentation_component_at
returns c =
    let a = c.args in
    let count = components_at a.s.now (a.at + 6) in
    let inside : a.m < count = omega (arith, c.if-component_count-m.false, c.component_count.ensures) in
    rw (eq-eqb (tag_at a.s.now a.at) 2 (sym c.octet.ensures ∙ c.if-octet-ne2.false), lt-ltb a.m count inside)
    (λ i. Ok (record { component_tag = c.octet-2.ensures i; pts_offset = ticks (c.read.ensures i) }))
