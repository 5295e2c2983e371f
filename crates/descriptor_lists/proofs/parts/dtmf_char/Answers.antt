-- `descriptor_lists::parts::dtmf_char` meets its contract.
-- Assumes nothing.
use mathlib.Core.Path.{sym, ◌∙◌}
use Prim.Native.Nat.{◌+◌, ◌*◌, ◌≤◌, ◌<◌}
use native.Mathlib.Omega.{arith}
use borrow.Author.Tests.{eq-eqb, ne_eqb, lt-ltb, le-ltb}
use Rattle.bits.specs.Bits.{field_of}
use Rattle.bits.proofs.Fields.{field_lt}
use Rattle.std.specs.Prelude.{Ok}
use Rattle.descriptor_reading.specs.Places.{tag_at, dtmf_char_at}
use Rattle.descriptor_lists.proofs.parts.dtmf_char.Goals as goal

pub returns-then-octet-ne1 : goal.returns-then-octet-ne1
unfolding dtmf_char_at
returns-then-octet-ne1 c =
    let a = c.args in
    rw (ne_eqb (tag_at a.s.now a.at) 1 (λ e. c.if-octet-ne1.true (c.octet.ensures ∙ e)))

pub returns-then-dtmf_count-m : goal.returns-then-dtmf_count-m
unfolding dtmf_char_at
returns-then-dtmf_count-m c =
    let a = c.args in
    let count = field_of a.s.now (8 * (a.at + 7)) 3 in
    let past : count ≤ a.m = omega (arith, c.if-dtmf_count-m.true, c.read-dtmf_count.ensures) in
    rw (eq-eqb (tag_at a.s.now a.at) 1 (sym c.octet.ensures ∙ c.if-octet-ne1.false), le-ltb a.m count past)

pub overflow_add-at-3 : goal.overflow_add-at-3
overflow_add-at-3 c =
    let a = c.args in
    omega (arith, c.if-dtmf_count-m.false, c.read-dtmf_count.ensures, field_lt a.s.now (8 * (a.at + 7)) 3)

pub returns : goal.returns
unfolding dtmf_char_at
returns c =
    let a = c.args in
    let count = field_of a.s.now (8 * (a.at + 7)) 3 in
    let inside : a.m < count = omega (arith, c.if-dtmf_count-m.false, c.read-dtmf_count.ensures) in
    rw (eq-eqb (tag_at a.s.now a.at) 1 (sym c.octet.ensures ∙ c.if-octet-ne1.false), lt-ltb a.m count inside)
    (λ i. Ok (c.octet-2.ensures i))
