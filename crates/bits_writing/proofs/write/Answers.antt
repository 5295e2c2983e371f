-- `bits_writing::write` meets its contract: each test rules one cause out, and past both the field can be written.
-- Assumes nothing.
use mathlib.Core.Path.{◌≡◌, sym, ◌∙◌}
use mathlib.Core.Bool.{true, false}
use native.Mathlib.Omega.{arith}
use Rattle.bit_fields.specs.Bits.{within, writable}
use Rattle.bit_fields.proofs.Cases.{large, small}
use Rattle.bit_fields.proofs.Within.{within_width, not_within, too_large, can_write, written_out}
use Rattle.bits_writing.proofs.write.Goals as goal

pub returns-then-not-is_within : goal.returns-then-not-is_within
returns-then-not-is_within c =
    let a = c.args in
    let no_way : writable a.s.now a.at a.width a.value ≡ false = not_within a.s.now a.at a.width a.value (sym c.is_within.ensures ∙ c.if-not-is_within.true) in
    (sym no_way, sym (written_out a.s.now a.at a.width a.value no_way))

pub overflow_shr-value : goal.overflow_shr-value
overflow_shr-value c =
    let inside : within c.args.s.now c.args.at c.args.width ≡ true = sym c.is_within.ensures ∙ c.if-not-is_within.false in
    let a = c.args in
    omega (arith, within_width a.s.now a.at a.width (inside))

pub returns-then-value-width-ne0 : goal.returns-then-value-width-ne0
returns-then-value-width-ne0 c =
    let inside : within c.args.s.now c.args.at c.args.width ≡ true = sym c.is_within.ensures ∙ c.if-not-is_within.false in
    let a = c.args in
    let no_way : writable a.s.now a.at a.width a.value ≡ false =
    too_large a.s.now a.at a.width a.value (inside) (large a.value a.width c.if-value-width-ne0.true) in
    (sym no_way, sym (written_out a.s.now a.at a.width a.value no_way))

pub put-requires : goal.put-requires
put-requires c =
    let inside : within c.args.s.now c.args.at c.args.width ≡ true = sym c.is_within.ensures ∙ c.if-not-is_within.false in
    let can : writable c.args.s.now c.args.at c.args.width c.args.value ≡ true = let a = c.args in
    can_write a.s.now a.at a.width a.value (inside) (small a.value a.width c.if-value-width-ne0.false) in
    can

pub returns : goal.returns
returns c =
    let inside : within c.args.s.now c.args.at c.args.width ≡ true = sym c.is_within.ensures ∙ c.if-not-is_within.false in
    let can : writable c.args.s.now c.args.at c.args.width c.args.value ≡ true = let a = c.args in
    can_write a.s.now a.at a.width a.value (inside) (small a.value a.width c.if-value-width-ne0.false) in
    (sym (can), c.put.ensures)
