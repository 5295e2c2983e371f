-- `segmentation::segmentation_end` meets its contract: the UPID's bytes by their count, three bytes, and two more where the type may carry them and something is left.
-- Assumes nothing.
use mathlib.Core.Path.{◌≡◌, refl, sym, ◌∙◌}
use mathlib.Core.Bool.{Bool, true, false}
use Prim.Native.Nat.{◌+◌, ◌<◌}
use native.Mathlib.Omega.{arith}
use lib.ListN.{get_or}
use Rattle.grammar.specs.Meaning.{is_among}
use Rattle.grammar.specs.Tables.{sub_segmented}
use Rattle.segmentation.proofs.FromUpid.{no_rows, upid_cut, type_cut, other_type, left_out, one_byte, two_bytes}
use Rattle.segmentation.proofs.segmentation_end.Goals as goal

pub returns-then-end-at-lt2 : goal.returns-then-end-at-lt2
returns-then-end-at-lt2 c env =
    let a = c.args.part in
    no_rows a.s.now a.at a.end env (omega arith) c.if-end-at-lt2.true

pub overflow_cast-segmentation_upid_length : goal.overflow_cast-segmentation_upid_length
overflow_cast-segmentation_upid_length c =
    let upid-byte : let a = c.args.part in get_or a.s.now (a.at + 1) 0 < 256 = omega (arith, c.shared_slice_known-1.given (c.args.part.at + 1)) in
    omega (arith, upid-byte)

pub returns-then-end-at : goal.returns-then-end-at
returns-then-end-at c env =
    let upid-byte : let a = c.args.part in get_or a.s.now (a.at + 1) 0 < 256 = omega (arith, c.shared_slice_known-1.given (c.args.part.at + 1)) in
    let a = c.args.part in
    upid_cut a.s.now a.at a.end env (upid-byte) c.if-end-at-lt2.false c.if-end-at.true

pub returns-then-end-n-lt3 : goal.returns-then-end-n-lt3
returns-then-end-n-lt3 c env =
    let upid-byte : let a = c.args.part in get_or a.s.now (a.at + 1) 0 < 256 = omega (arith, c.shared_slice_known-1.given (c.args.part.at + 1)) in
    let a = c.args.part in
    type_cut a.s.now a.at a.end env (upid-byte) c.if-end-at-lt2.false _ refl c.if-end-at.false c.if-end-n-lt3.true

pub returns-then-not-is_sub_segmented : goal.returns-then-not-is_sub_segmented
returns-then-not-is_sub_segmented c env =
    let upid-byte : let a = c.args.part in get_or a.s.now (a.at + 1) 0 < 256 = omega (arith, c.shared_slice_known-1.given (c.args.part.at + 1)) in
    let type-byte : let a = c.args.part in get_or a.s.now (a.at + 2 + get_or a.s.now (a.at + 1) 0) 0 < 256 = let a = c.args.part in
    omega (arith, c.shared_slice_known-2-1.given (a.at + 2 + get_or a.s.now (a.at + 1) 0)) in
    let sub-segments : (t : Bool) → c.is_sub_segmented.result ≡ t → let a = c.args.part in is_among (get_or a.s.now (a.at + 2 + get_or a.s.now (a.at + 1) 0) 0) sub_segmented ≡ t = λ t e. sym c.is_sub_segmented.ensures ∙ e in
    let a = c.args.part in
    other_type a.s.now a.at a.end env (upid-byte) c.if-end-at-lt2.false _ refl c.if-end-at.false
    (type-byte) c.if-end-n-lt3.false (sub-segments false c.if-not-is_sub_segmented.true)

pub returns-then-end-n-eq3 : goal.returns-then-end-n-eq3
returns-then-end-n-eq3 c env =
    let upid-byte : let a = c.args.part in get_or a.s.now (a.at + 1) 0 < 256 = omega (arith, c.shared_slice_known-1.given (c.args.part.at + 1)) in
    let type-byte : let a = c.args.part in get_or a.s.now (a.at + 2 + get_or a.s.now (a.at + 1) 0) 0 < 256 = let a = c.args.part in
    omega (arith, c.shared_slice_known-2-1.given (a.at + 2 + get_or a.s.now (a.at + 1) 0)) in
    let sub-segments : (t : Bool) → c.is_sub_segmented.result ≡ t → let a = c.args.part in is_among (get_or a.s.now (a.at + 2 + get_or a.s.now (a.at + 1) 0) 0) sub_segmented ≡ t = λ t e. sym c.is_sub_segmented.ensures ∙ e in
    let a = c.args.part in
    left_out a.s.now a.at a.end env (upid-byte) c.if-end-at-lt2.false _ refl c.if-end-at.false
    (type-byte) c.if-end-n-lt3.false (sub-segments true c.if-not-is_sub_segmented.false) c.if-end-n-eq3.true

pub returns-then-end-n-lt5 : goal.returns-then-end-n-lt5
returns-then-end-n-lt5 c env =
    let upid-byte : let a = c.args.part in get_or a.s.now (a.at + 1) 0 < 256 = omega (arith, c.shared_slice_known-1.given (c.args.part.at + 1)) in
    let type-byte : let a = c.args.part in get_or a.s.now (a.at + 2 + get_or a.s.now (a.at + 1) 0) 0 < 256 = let a = c.args.part in
    omega (arith, c.shared_slice_known-2-1.given (a.at + 2 + get_or a.s.now (a.at + 1) 0)) in
    let sub-segments : (t : Bool) → c.is_sub_segmented.result ≡ t → let a = c.args.part in is_among (get_or a.s.now (a.at + 2 + get_or a.s.now (a.at + 1) 0) 0) sub_segmented ≡ t = λ t e. sym c.is_sub_segmented.ensures ∙ e in
    let a = c.args.part in
    one_byte a.s.now a.at a.end env (upid-byte) c.if-end-at-lt2.false _ refl c.if-end-at.false
    (type-byte) c.if-end-n-lt3.false (sub-segments true c.if-not-is_sub_segmented.false) c.if-end-n-eq3.false c.if-end-n-lt5.true

pub returns : goal.returns
returns c env =
    let upid-byte : let a = c.args.part in get_or a.s.now (a.at + 1) 0 < 256 = omega (arith, c.shared_slice_known-1.given (c.args.part.at + 1)) in
    let type-byte : let a = c.args.part in get_or a.s.now (a.at + 2 + get_or a.s.now (a.at + 1) 0) 0 < 256 = let a = c.args.part in
    omega (arith, c.shared_slice_known-2-1.given (a.at + 2 + get_or a.s.now (a.at + 1) 0)) in
    let sub-segments : (t : Bool) → c.is_sub_segmented.result ≡ t → let a = c.args.part in is_among (get_or a.s.now (a.at + 2 + get_or a.s.now (a.at + 1) 0) 0) sub_segmented ≡ t = λ t e. sym c.is_sub_segmented.ensures ∙ e in
    let a = c.args.part in
    two_bytes a.s.now a.at a.end env (upid-byte) c.if-end-at-lt2.false _ refl c.if-end-at.false
    (type-byte) c.if-end-n-lt3.false (sub-segments true c.if-not-is_sub_segmented.false) c.if-end-n-lt5.false
