-- `segmentation_reading::uncancelled` meets its contract: each part by its place.
-- Assumes nothing.
use mathlib.Core.Path.{◌≡◌, ap, ap₂, ◌∙◌}
use mathlib.Core.List.{List}
use Prim.Native.Nat.{ℕ, ◌+◌, ◌*◌, ◌≤◌}
use native.Mathlib.Omega.{arith}
use Rattle.units.specs.Clock.{event_id}
use Rattle.bits.specs.Bits.{field_of}
use Rattle.bits.proofs.Fields.{field_lt}
use Rattle.segmentation_reading.specs.Places.{upid_place, after_upid, sub_segments_at, uncancelled_at}
use Rattle.segmentation_reading.proofs.Room.{upid_room}
use Rattle.segmentation_reading.proofs.uncancelled.Goals as goal

pub overflow_cast-segmentation_event_id : goal.overflow_cast-segmentation_event_id
overflow_cast-segmentation_event_id c =
    let a = c.args in
    omega (arith, c.quad.ensures, field_lt a.s.now (8 * a.at) 32)

pub overflow_add-after : goal.overflow_add-after
overflow_add-after c =
    let type-near : c.type_place-after.result ≤ 67334 = let a = c.args in
    let s = a.s.now in
    omega (arith, c.type_place-after.ensures, upid_room s a.at, field_lt s (8 * (upid_place s a.at + 1)) 8) in
    omega (arith, type-near)

pub sub_segments-sub_segments-requires : goal.sub_segments-sub_segments-requires
sub_segments-sub_segments-requires c =
    let type-near : c.type_place-after.result ≤ 67334 = let a = c.args in
    let s = a.s.now in
    omega (arith, c.type_place-after.ensures, upid_room s a.at, field_lt s (8 * (upid_place s a.at + 1)) 8) in
    omega (arith, type-near)

pub overflow_add-upid : goal.overflow_add-upid
overflow_add-upid c =
    let upid-near : c.upid_place-upid.result ≤ 67077 = let a = c.args in
    omega (arith, c.upid_place-upid.ensures, upid_room a.s.now a.at) in
    omega (arith, upid-near)

pub overflow_add-after-2 : goal.overflow_add-after-2
overflow_add-after-2 c =
    let type-near : c.type_place-after.result ≤ 67334 = let a = c.args in
    let s = a.s.now in
    omega (arith, c.type_place-after.ensures, upid_room s a.at, field_lt s (8 * (upid_place s a.at + 1)) 8) in
    omega (arith, type-near)

pub overflow_add-after-3 : goal.overflow_add-after-3
overflow_add-after-3 c =
    let type-near : c.type_place-after.result ≤ 67334 = let a = c.args in
    let s = a.s.now in
    omega (arith, c.type_place-after.ensures, upid_room s a.at, field_lt s (8 * (upid_place s a.at + 1)) 8) in
    omega (arith, type-near)

pub returns : goal.returns
unfolding uncancelled_at
returns c =
    let a = c.args in
    let s : List ℕ = a.s.now in
    let upid : c.upid_place-upid.result ≡ upid_place s a.at = c.upid_place-upid.ensures in
    let after : c.type_place-after.result ≡ after_upid s (upid_place s a.at) = c.type_place-after.ensures in
    let type : c.octet-segmentation_type_id.result ≡ field_of s (8 * after_upid s (upid_place s a.at)) 8 =
    c.octet-segmentation_type_id.ensures ∙ ap (λ (x : ℕ). field_of s (8 * x) 8) after in
    λ i.
    record {
      segmentation_event_id = event_id (c.quad.ensures i);
      mode = c.mode-mode.ensures i;
      delivery = c.delivery-delivery.ensures i;
      duration = c.duration-duration.ensures i;
      segmentation_upid_type = (c.octet.ensures ∙ ap (λ (x : ℕ). field_of s (8 * x) 8) upid) i;
      segmentation_upid_length = (c.octet-2.ensures ∙ ap (λ (x : ℕ). field_of s (8 * (x + 1)) 8) upid) i;
      segmentation_type_id = type i;
      segment_num = (c.octet-3.ensures ∙ ap (λ (x : ℕ). field_of s (8 * (x + 1)) 8) after) i;
      segments_expected = (c.octet-4.ensures ∙ ap (λ (x : ℕ). field_of s (8 * (x + 2)) 8) after) i;
      sub_segments = (c.sub_segments-sub_segments.ensures ∙ ap₂ (λ (x y : ℕ). sub_segments_at s x (y + 3) a.end) type after) i;
    }
