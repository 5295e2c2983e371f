-- `descriptor_reading::parts::upid` meets its contract.
-- Assumes nothing.
use mathlib.Core.Path.{sym, ap, ◌∙◌}
use Prim.Native.Nat.{ℕ, ◌+◌, ◌*◌}
use native.Mathlib.Omega.{arith}
use borrow.Author.Tests.{eq-eqb, ne_eqb}
use Rattle.bits.specs.Bits.{field_of}
use Rattle.std.specs.Prelude.{Ok}
use Rattle.descriptor_reading.specs.Places.{tag_at, upid_at}
use Rattle.segmentation_reading.proofs.Room.{upid_room}
use Rattle.descriptor_reading.proofs.parts.upid.Goals as goal

pub returns-then-octet-ne2 : goal.returns-then-octet-ne2
unfolding upid_at
returns-then-octet-ne2 c =
    let a = c.args in
    rw (ne_eqb (tag_at a.s.now a.at) 2 (λ e. c.if-octet-ne2.true (c.octet.ensures ∙ e)))

pub returns-then-flag : goal.returns-then-flag
unfolding upid_at
returns-then-flag c =
    let a = c.args in
    rw (
      eq-eqb (tag_at a.s.now a.at) 2 (sym c.octet.ensures ∙ c.if-octet-ne2.false),
      sym c.flag.ensures ∙ c.if-flag.true,
    )

pub overflow_add-place : goal.overflow_add-place
overflow_add-place c =
    let a = c.args in
    omega (arith, upid_room a.s.now (a.at + 6))

pub overflow_add-result : goal.overflow_add-result
overflow_add-result c =
    let a = c.args in
    omega (arith, upid_room a.s.now (a.at + 6))

pub returns : goal.returns
unfolding upid_at
returns c =
    let a = c.args in
    let place = c.upid_place-place.ensures in
    rw (
      eq-eqb (tag_at a.s.now a.at) 2 (sym c.octet.ensures ∙ c.if-octet-ne2.false),
      sym c.flag.ensures ∙ c.if-flag.false,
    )
    (λ i.
    Ok (record {
      at = place i + 2;
      length = (c.octet-segmentation_upid_length.ensures ∙ ap (λ (x : ℕ). field_of a.s.now (8 * (x + 1)) 8) place) i;
    }))
