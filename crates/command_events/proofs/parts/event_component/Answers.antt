-- `command_events::parts::event_component` meets its contract: there are no more components than a byte counts, so their places are within a word.
-- Assumes nothing.
use mathlib.Core.Path.{◌≡◌, ap, ◌∙◌}
use mathlib.Core.Bool.{Bool, true, false, cond}
use mathlib.Core.List.{List}
use Prim.Native.Nat.{ℕ, ◌+◌, ◌*◌, ◌<◌}
use native.Mathlib.Omega.{arith}
use Rattle.std.specs.Prelude.{Ok}
use borrow.Author.Tests.{lt-ltb, le-ltb}
use Rattle.bits.specs.Bits.{field_of, flag_of}
use Rattle.bits.proofs.Fields.{field_lt}
use Rattle.command_events.specs.Places.{components_at, event_component_at}
use Rattle.command_events.proofs.parts.event_component.Goals as goal

-- there are no more components than a byte counts
few : (s : List ℕ) (at : ℕ) → components_at s at < 256
few s at = go (flag_of s (8 * (at + 4))) (flag_of s (8 * (at + 5) + 1))
  where
    go : (a b : Bool) → cond a 0 (cond b 0 (field_of s (8 * (at + 6)) 8)) < 256
    go true b = omega arith
    go false true = omega arith
    go false false = omega (arith, field_lt s (8 * (at + 6)) 8)

pub returns-then-component_count-m : goal.returns-then-component_count-m
unfolding event_component_at
returns-then-component_count-m c =
    let a = c.args in
    let b = c.component_count in
    rw (le-ltb a.m (components_at a.s.now a.at) (omega (arith, b.ensures)))

pub overflow_mul-place : goal.overflow_mul-place
overflow_mul-place c =
    let a = c.args in
    omega (arith, c.component_count.ensures, few a.s.now a.at)

pub overflow_add-place-2 : goal.overflow_add-place-2
overflow_add-place-2 c =
    let a = c.args in
    omega (arith, c.component_count.ensures, few a.s.now a.at)

pub overflow_mul-place-2 : goal.overflow_mul-place-2
overflow_mul-place-2 c =
    let a = c.args in
    omega (arith, c.component_count.ensures, few a.s.now a.at)

pub overflow_cast-result : goal.overflow_cast-result
overflow_cast-result c =
    let a = c.args in
    omega (arith, field_lt a.s.now (8 * (a.at + 7 + 5 * a.m)) 8)

pub overflow_add-place-3 : goal.overflow_add-place-3
overflow_add-place-3 c =
    let a = c.args in
    omega (arith, c.component_count.ensures, few a.s.now a.at)

pub overflow_cast-result-2 : goal.overflow_cast-result-2
overflow_cast-result-2 c =
    let a = c.args in
    omega (arith, field_lt a.s.now (8 * (a.at + 7 + 5 * a.m + 1)) 32)

pub returns : goal.returns
unfolding event_component_at
returns c =
    let a = c.args in
    let after : a.at + 7 + 5 * a.m + 1 ≡ a.at + 8 + 5 * a.m = omega arith in
    rw (lt-ltb a.m (components_at a.s.now a.at) (omega (arith, c.component_count.ensures)))
    (λ i.
    Ok
    (record {
      component_tag = c.read.ensures i;
      utc_splice_time = (c.quad.ensures ∙ ap (λ (x : ℕ). field_of a.s.now (8 * x) 32) after) i;
    }))
