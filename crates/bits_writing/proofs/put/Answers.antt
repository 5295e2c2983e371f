-- `bits_writing::put` meets its contract: the bytes that the field touches are stored from the word of the patched bits, and the others hold none of its bits.
-- Assumes nothing.
use mathlib.Core.Path.{sym, ◌∙◌}
use Prim.Native.Nat.{◌+◌, ◌/◌, ◌%◌, ◌≤◌}
use native.Mathlib.Omega.{arith}
use Rattle.bit_fields.proofs.Bytes.{AreBytes}
use Rattle.bit_fields.proofs.Within.{within_width, within_end, writable_within, written_in}
use Rattle.bits_writing.specs.Scattered.{Scattered}
use Rattle.bits_writing.proofs.Word.{scattered, written_none}
use Rattle.bits_writing.proofs.put.Goals as goal

pub returns-then-width-eq0 : goal.returns-then-width-eq0
returns-then-width-eq0 c =
    let are_bytes : AreBytes c.args.s.now = λ i. (c.type_inv.s i).fits in
    let a = c.args in
    sym (written_none a.s.now a.at a.width a.value (are_bytes) c.if-width-eq0.true)

pub overflow_add-at : goal.overflow_add-at
overflow_add-at c =
    let narrow_at : c.args.width ≤ 48 = let a = c.args in
    within_width a.s.now a.at a.width (writable_within a.s.now a.at a.width a.value c.requires) in
    omega (arith, narrow_at)

pub overflow_add-at-2 : goal.overflow_add-at-2
overflow_add-at-2 c =
    let narrow_at : c.args.width ≤ 48 = let a = c.args in
    within_width a.s.now a.at a.width (writable_within a.s.now a.at a.width a.value c.requires) in
    omega (arith, narrow_at)

pub scatter-requires : goal.scatter-requires
scatter-requires c =
    let narrow_at : c.args.width ≤ 48 = let a = c.args in
    within_width a.s.now a.at a.width (writable_within a.s.now a.at a.width a.value c.requires) in
    let a = c.args in
    omega (arith, narrow_at, within_end a.s.now a.at a.width (writable_within a.s.now a.at a.width a.value c.requires))

pub returns : goal.returns
returns c =
    let are_bytes : AreBytes c.args.s.now = λ i. (c.slice_known-1.given i).fits in
    let a = c.args in
    let n = (a.at % 8 + a.width + 7) / 8 in
    let stored : Scattered a.s.now (a.at / 8) n c.changed-word.result c.scatter.new.s =
    c.scatter.ensures in
    scattered a.s.now a.at a.width a.value (a.at / 8) n c.scatter.new.s
    (are_bytes)
    (rw c.changed-word.ensures at stored)
    (omega arith) (omega arith)
    ∙ sym (written_in a.s.now a.at a.width a.value c.requires)
