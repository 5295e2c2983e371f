-- `descriptor_lists::parts::audio_component` meets its contract.
-- Assumes nothing.
use mathlib.Core.Path.{sym, ◌∙◌}
use Prim.Native.Nat.{◌+◌, ◌*◌, ◌≤◌, ◌<◌}
use native.Mathlib.Omega.{arith}
use borrow.Author.Tests.{eq-eqb, ne_eqb, lt-ltb, le-ltb}
use Rattle.bits.specs.Bits.{field_of}
use Rattle.bits.proofs.Fields.{field_lt}
use Rattle.std.specs.Prelude.{Ok}
use Rattle.descriptor_reading.specs.Places.{tag_at, audio_component_at}
use Rattle.descriptor_lists.proofs.parts.audio_component.Goals as goal

pub returns-then-octet-ne4 : goal.returns-then-octet-ne4
unfolding audio_component_at
returns-then-octet-ne4 c =
    let a = c.args in
    rw (ne_eqb (tag_at a.s.now a.at) 4 (λ e. c.if-octet-ne4.true (c.octet.ensures ∙ e)))

pub returns-then-audio_count-m : goal.returns-then-audio_count-m
unfolding audio_component_at
returns-then-audio_count-m c =
    let a = c.args in
    let count = field_of a.s.now (8 * (a.at + 6)) 4 in
    let past : count ≤ a.m = omega (arith, c.if-audio_count-m.true, c.read-audio_count.ensures) in
    rw (eq-eqb (tag_at a.s.now a.at) 4 (sym c.octet.ensures ∙ c.if-octet-ne4.false), le-ltb a.m count past)

pub overflow_mul-place : goal.overflow_mul-place
overflow_mul-place c =
    let a = c.args in
    omega (arith, field_lt a.s.now (8 * (a.at + 6)) 4)

pub overflow_add-place-2 : goal.overflow_add-place-2
overflow_add-place-2 c =
    let a = c.args in
    omega (arith, field_lt a.s.now (8 * (a.at + 6)) 4)

pub overflow_mul-place-2 : goal.overflow_mul-place-2
overflow_mul-place-2 c =
    let a = c.args in
    omega (arith, field_lt a.s.now (8 * (a.at + 6)) 4)

pub overflow_cast-result : goal.overflow_cast-result
overflow_cast-result c =
    let a = c.args in
    omega (arith, field_lt a.s.now (8 * (a.at + 7 + 5 * a.m)) 8)

pub overflow_add-place-3 : goal.overflow_add-place-3
overflow_add-place-3 c =
    let a = c.args in
    omega (arith, field_lt a.s.now (8 * (a.at + 6)) 4)

pub overflow_cast-result-2 : goal.overflow_cast-result-2
overflow_cast-result-2 c =
    let a = c.args in
    omega (arith, field_lt a.s.now (8 * (a.at + 7 + 5 * a.m) + 8) 24)

pub overflow_add-place-4 : goal.overflow_add-place-4
overflow_add-place-4 c =
    let a = c.args in
    omega (arith, field_lt a.s.now (8 * (a.at + 6)) 4)

pub overflow_cast-result-3 : goal.overflow_cast-result-3
overflow_cast-result-3 c =
    let a = c.args in
    omega (arith, field_lt a.s.now (8 * (a.at + 7 + 5 * a.m) + 32) 3)

pub overflow_add-place-5 : goal.overflow_add-place-5
overflow_add-place-5 c =
    let a = c.args in
    omega (arith, field_lt a.s.now (8 * (a.at + 6)) 4)

pub overflow_cast-result-4 : goal.overflow_cast-result-4
overflow_cast-result-4 c =
    let a = c.args in
    omega (arith, field_lt a.s.now (8 * (a.at + 7 + 5 * a.m) + 35) 4)

pub overflow_add-place-6 : goal.overflow_add-place-6
overflow_add-place-6 c =
    let a = c.args in
    omega (arith, field_lt a.s.now (8 * (a.at + 6)) 4)

pub returns : goal.returns
unfolding audio_component_at
returns c =
    let a = c.args in
    let count = field_of a.s.now (8 * (a.at + 6)) 4 in
    let inside : a.m < count = omega (arith, c.if-audio_count-m.false, c.read-audio_count.ensures) in
    rw (eq-eqb (tag_at a.s.now a.at) 4 (sym c.octet.ensures ∙ c.if-octet-ne4.false), lt-ltb a.m count inside)
    (λ i.
    Ok (record {
      component_tag = c.read.ensures i;
      iso_code = c.read-2.ensures i;
      bit_stream_mode = c.read-3.ensures i;
      num_channels = c.read-4.ensures i;
      full_srvc_audio = c.flag.ensures i;
    }))
