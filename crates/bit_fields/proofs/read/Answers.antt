-- `bit_fields::read` meets its contract: a field that is within the bytes is cut out of its word by a shift up and a shift down.
-- Assumes nothing.
use mathlib.Core.Path.{◌≡◌, sym, ap, ◌∙◌}
use mathlib.Core.Bool.{true}
use Prim.Native.Nat.{ℕ, ◌-◌, ◌*◌, ◌/◌, ◌%◌, ◌^◌, ◌≤◌}
use native.Mathlib.Omega.{arith}
use Rattle.bit_fields.specs.Bits.{bit, within, field_of}
use Rattle.bit_fields.proofs.Num.{num_in_word}
use Rattle.bit_fields.proofs.Bytes.{bit_lt}
use Rattle.bit_fields.proofs.Within.{within_width, within_end, field_in, field_out, field_none}
use Rattle.bit_fields.proofs.read.Goals as goal

pub returns-then-width-eq0 : goal.returns-then-width-eq0
returns-then-width-eq0 c =
    let a = c.args in
    sym (ap (field_of a.s.now a.at) c.if-width-eq0.true ∙ field_none a.s.now a.at)

pub gather-requires : goal.gather-requires
gather-requires c =
    let inside : within c.args.s.now c.args.at c.args.width ≡ true = sym c.is_within.ensures ∙ c.if-is_within.true in
    let a = c.args in
    omega (arith, within_end a.s.now a.at a.width (inside))

pub overflow_sub-result : goal.overflow_sub-result
overflow_sub-result c =
    let inside : within c.args.s.now c.args.at c.args.width ≡ true = sym c.is_within.ensures ∙ c.if-is_within.true in
    let a = c.args in
    omega (arith, within_width a.s.now a.at a.width (inside))

pub returns-then-is_within : goal.returns-then-is_within
returns-then-is_within c =
    let inside : within c.args.s.now c.args.at c.args.width ≡ true = sym c.is_within.ensures ∙ c.if-is_within.true in
    let a = c.args in
    let narrow : a.width ≤ 56 = omega (arith, within_width a.s.now a.at a.width (inside)) in
    ap (λ (x : ℕ). x * 2 ^ (a.at % 8) % 2 ^ 64 / 2 ^ (64 - a.width)) c.gather.ensures
    ∙ num_in_word (bit a.s.now) (bit_lt a.s.now) a.at a.width narrow
    ∙ sym (field_in a.s.now a.at a.width (inside))

pub returns-else-is_within : goal.returns-else-is_within
returns-else-is_within c =
    let a = c.args in
    sym (field_out a.s.now a.at a.width (sym c.is_within.ensures ∙ c.if-is_within.false))
