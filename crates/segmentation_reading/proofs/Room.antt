-- How far from its start the parts of a segmentation descriptor can stand.
-- Assumes nothing.
use mathlib.Core.Bool.{Bool, true, false, cond}
use mathlib.Core.List.{List}
use Prim.Native.Nat.{ℕ, ◌+◌, ◌*◌, ◌≤◌, ◌<◌}
use native.Mathlib.Omega.{arith}
use Rattle.bits.specs.Bits.{flag_of}
use Rattle.bits.proofs.Fields.{field_lt}
use Rattle.segmentation_reading.specs.Places.{after_components, upid_place}

pub after_room : (s : List ℕ) (at : ℕ) → after_components s at ≤ at + 1537
after_room s at = go (flag_of s (8 * (at + 5))) (field_lt s (8 * (at + 6)) 8)
  where
    go : (b : Bool) {n : ℕ} → n < 256 → cond b (at + 6) (at + 7 + 6 * n) ≤ at + 1537
    go true h = omega arith
    go false h = omega arith

pub upid_room : (s : List ℕ) (at : ℕ) → upid_place s at ≤ at + 1542
unfolding upid_place
upid_room s at = go (flag_of s (8 * (at + 5) + 1)) (after_room s at)
  where
    go : (b : Bool) {n : ℕ} → n ≤ at + 1537 → cond b (n + 5) n ≤ at + 1542
    go true h = omega arith
    go false h = omega arith
