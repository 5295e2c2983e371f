-- `segmentation_numbers::lists::segmentation` meets its contract: numbers and parts, each of which leaves room for the next.
-- Assumes nothing.
use mathlib.Core.Path.{◌≡◌}
use mathlib.Core.List.{List, [], ◌∷◌}
use Prim.Native.Nat.{ℕ}
use native.Mathlib.Omega.{arith}
use lib.ListN.{length-append}
use Rattle.std.proofs.Common.{append_assoc}
use Rattle.wire.specs.Wire.{mode_numbers}
use Rattle.wire.proofs.Placed.{stands, put_as, behind, told}
use Rattle.wire.proofs.Short.{mode_short}
use Rattle.segmentation_reading.specs.declared.answers.Segmentation.{Segmentation}
use Rattle.segmentation_numbers.specs.Numbers.{delivery_numbers, duration_numbers, sub_segment_numbers}
use Rattle.segmentation_numbers.proofs.Short.{delivery_short, duration_short, sub_segments_short}
use Rattle.segmentation_numbers.proofs.lists.segmentation.Goals as goal

-- the five numbers in front of the sub-segment
abbrev five : Segmentation → List ℕ
five x = x.segmentation_upid_type ∷ x.segmentation_upid_length ∷ x.segmentation_type_id ∷ x.segment_num ∷ x.segments_expected ∷ []

pub returns : goal.returns
returns c =
    let x = c.args.x in
    let mode = mode_short x.mode in
    let delivery = delivery_short x.delivery in
    let duration = duration_short x.duration in
    let sub = sub_segments_short x.sub_segments in
    let id : (2 ∷ c.from.result ∷ []) ≡ (2 ∷ x.segmentation_event_id.0 ∷ []) = cc in
    let numbers : (c.from-2.result ∷ c.from-3.result ∷ c.from-4.result ∷ c.from-5.result ∷ c.from-6.result ∷ []) ≡ five x = cc in
    let p1 = stands {m = c.args.list.now} (omega arith) (put_as _ _ id c.put-n.ensures) in
    let p2 = behind (mode_numbers x.mode) p1 (simp length-append (omega arith)) c.mode-n.ensures in
    let p3 = behind (delivery_numbers x.delivery) p2 (simp length-append (omega arith)) c.delivery-n.ensures in
    let p4 = behind (duration_numbers x.duration) p3 (simp length-append (omega arith)) c.duration-n.ensures in
    let p5 = behind (five x) p4 (simp length-append (omega arith)) (put_as _ _ numbers c.put-n-2.ensures) in
    let p6 = behind (sub_segment_numbers x.sub_segments) p5 (simp length-append (omega arith)) c.sub_segments.ensures in
    told (simp append_assoc) p6
