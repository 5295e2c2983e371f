-- `descriptor_reading::parts::descriptor` meets its contract, by the tag.
-- Assumes nothing.
use mathlib.Core.Path.{sym, ap, ◌∙◌}
use Prim.Native.Nat.{ℕ, ◌+◌, ◌*◌}
use native.Mathlib.Omega.{arith}
use borrow.Author.Tests.{ne_eqb}
use Rattle.bits.proofs.Fields.{field_lt}
use Rattle.std.specs.Prelude.{Ok}
use Rattle.descriptor_reading.specs.declared.answers.Descriptor.{Descriptor}
use Rattle.descriptor_reading.specs.Places.{tag_at, segmentation_at, descriptor_at}
use Rattle.descriptor_reading.proofs.parts.descriptor.Goals as goal

pub overflow_cast-result : goal.overflow_cast-result
overflow_cast-result c =
    let a = c.args in
    omega (arith, field_lt a.s.now (8 * (a.at + 6)) 32)

pub overflow_cast-result-in-1 : goal.overflow_cast-result-in-1
overflow_cast-result-in-1 c =
    let a = c.args in
    omega (arith, field_lt a.s.now (8 * (a.at + 7)) 3)

pub overflow_cast-result-in-3 : goal.overflow_cast-result-in-3
overflow_cast-result-in-3 c =
    let a = c.args in
    omega (arith, field_lt a.s.now (8 * (a.at + 12)) 32)

pub overflow_cast-result-in-3-2 : goal.overflow_cast-result-in-3-2
overflow_cast-result-in-3-2 c =
    let a = c.args in
    omega (arith, field_lt a.s.now (8 * (a.at + 16)) 16)

pub overflow_cast-result-in-4 : goal.overflow_cast-result-in-4
overflow_cast-result-in-4 c =
    let a = c.args in
    omega (arith, field_lt a.s.now (8 * (a.at + 6)) 4)

pub returns-in-0 : goal.returns-in-0
unfolding descriptor_at
returns-in-0 c = rw (sym c.octet.ensures ∙ c.in-0.is) (λ i. Ok (Descriptor.Avail (c.quad.ensures i)))

pub returns-in-1 : goal.returns-in-1
unfolding descriptor_at
returns-in-1 c =
    rw (sym c.octet.ensures ∙ c.in-1.is)
    (λ i. Ok (Descriptor.Dtmf (c.octet-in-1.ensures i) (c.read.ensures i)))

pub returns-in-2 : goal.returns-in-2
unfolding descriptor_at
returns-in-2 c =
    let a = c.args in
    rw (sym c.octet.ensures ∙ c.in-2.is)
    (ap Ok (c.segmentation.ensures ∙ ap (λ (n : ℕ). segmentation_at a.s.now (a.at + 6) (a.at + 2 + n)) c.octet-descriptor_length.ensures))

pub returns-in-3 : goal.returns-in-3
unfolding descriptor_at
returns-in-3 c =
    rw (sym c.octet.ensures ∙ c.in-3.is)
    (λ i. Ok (Descriptor.Time (c.read-in-3.ensures i) (c.quad-in-3.ensures i) (c.pair.ensures i)))

pub returns-in-4 : goal.returns-in-4
unfolding descriptor_at
returns-in-4 c = rw (sym c.octet.ensures ∙ c.in-4.is) (λ i. Ok (Descriptor.Audio (c.read-in-4.ensures i)))

pub returns-in_default : goal.returns-in_default
unfolding descriptor_at
returns-in_default c =
    let a = c.args in
    let tag = tag_at a.s.now a.at in
    let was = c.octet.ensures in
    let no = c.in_default.in_default-own.rest in
    rw (
      ne_eqb tag 0 (λ e. no.0.0.0.0.1 (was ∙ e)),
      ne_eqb tag 1 (λ e. no.0.0.0.1 (was ∙ e)),
      ne_eqb tag 2 (λ e. no.0.0.1 (was ∙ e)),
      ne_eqb tag 3 (λ e. no.0.1 (was ∙ e)),
      ne_eqb tag 4 (λ e. no.1 (was ∙ e)),
    )
