-- `segmentation_reading::type_place` meets its contract: after the two bytes of the UPID's type and length, and the UPID.
-- Assumes nothing.
use mathlib.Core.Path.{◌≡◌, ap, ◌∙◌}
use Prim.Native.Nat.{ℕ, ◌+◌, ◌*◌, ◌≤◌, ◌<◌}
use native.Mathlib.Omega.{arith}
use Rattle.bits.specs.Bits.{field_of}
use Rattle.bits.proofs.Fields.{field_lt}
use Rattle.segmentation_reading.specs.Places.{upid_place}
use Rattle.segmentation_reading.proofs.Room.{upid_room}
use Rattle.segmentation_reading.proofs.type_place.Goals as goal

pub overflow_add-upid : goal.overflow_add-upid
overflow_add-upid c =
    let upid-near : c.upid_place-upid.result ≤ 67077 = let a = c.args in
    omega (arith, c.upid_place-upid.ensures, upid_room a.s.now a.at) in
    omega (arith, upid-near)

pub overflow_add-result : goal.overflow_add-result
overflow_add-result c =
    let upid-near : c.upid_place-upid.result ≤ 67077 = let a = c.args in
    omega (arith, c.upid_place-upid.ensures, upid_room a.s.now a.at) in
    omega (arith, upid-near)

pub overflow_add-result-2 : goal.overflow_add-result-2
overflow_add-result-2 c =
    let upid-near : c.upid_place-upid.result ≤ 67077 = let a = c.args in
    omega (arith, c.upid_place-upid.ensures, upid_room a.s.now a.at) in
    let upid-short : c.octet-segmentation_upid_length.result < 256 = let a = c.args in
    omega (arith, c.octet-segmentation_upid_length.ensures, field_lt a.s.now (8 * (c.upid_place-upid.result + 1)) 8) in
    omega (arith, upid-near, upid-short)

pub returns : goal.returns
returns c =
    let a = c.args in
    let s = a.s.now in
    let upid : c.upid_place-upid.result ≡ upid_place s a.at = c.upid_place-upid.ensures in
    let long : c.octet-segmentation_upid_length.result ≡ field_of s (8 * (upid_place s a.at + 1)) 8 = c.octet-segmentation_upid_length.ensures ∙ ap (λ (x : ℕ). field_of s (8 * (x + 1)) 8) upid in
    omega (arith, upid, long)
