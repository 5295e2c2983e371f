-- `bits_writing::changed` meets its contract: only in the first and the last byte that the field touches are there other bits.
-- Assumes nothing.
use mathlib.Core.Path.{sym, ◌∙◌}
use Prim.Native.Nat.{◌+◌, ◌*◌, ◌≤◌}
use native.Mathlib.Omega.{arith}
use lib.ListN.{length}
use Rattle.bit_fields.proofs.Within.{within_width, within_end, writable_within, writable_small}
use Rattle.bits_writing.proofs.Word.{word_at}
use Rattle.bits_writing.proofs.changed.Goals as goal

pub overflow_add-n : goal.overflow_add-n
overflow_add-n c =
    let narrow : c.args.width ≤ 48 = let a = c.args in
    within_width a.s.now a.at a.width (writable_within a.s.now a.at a.width a.value c.requires.1) in
    omega (arith, narrow)

pub overflow_add-n-2 : goal.overflow_add-n-2
overflow_add-n-2 c =
    let narrow : c.args.width ≤ 48 = let a = c.args in
    within_width a.s.now a.at a.width (writable_within a.s.now a.at a.width a.value c.requires.1) in
    omega (arith, narrow)

pub overflow_mul-after : goal.overflow_mul-after
overflow_mul-after c =
    let narrow : c.args.width ≤ 48 = let a = c.args in
    within_width a.s.now a.at a.width (writable_within a.s.now a.at a.width a.value c.requires.1) in
    omega (arith, narrow)

pub bounds-s-at : goal.bounds-s-at
bounds-s-at c =
    let inside : c.args.at + c.args.width ≤ 8 * length c.args.s.now = let a = c.args in
    within_end a.s.now a.at a.width (writable_within a.s.now a.at a.width a.value c.requires.1) in
    omega (arith, inside)

pub bounds-s-at-2 : goal.bounds-s-at-2
bounds-s-at-2 c =
    let inside : c.args.at + c.args.width ≤ 8 * length c.args.s.now = let a = c.args in
    within_end a.s.now a.at a.width (writable_within a.s.now a.at a.width a.value c.requires.1) in
    omega (arith, inside)

pub joined-requires : goal.joined-requires
joined-requires c =
    let narrow : c.args.width ≤ 48 = let a = c.args in
    within_width a.s.now a.at a.width (writable_within a.s.now a.at a.width a.value c.requires.1) in
    let a = c.args in
    (omega arith, writable_small a.s.now a.at a.width a.value c.requires.1, omega (arith, narrow))

pub returns : goal.returns
returns c =
    let a = c.args in
    c.joined.ensures
    ∙ sym
    (word_at a.s.now (λ k. (c.type_inv.s k).fits) a.at a.width a.value c.requires.0
    (writable_small a.s.now a.at a.width a.value c.requires.1))
