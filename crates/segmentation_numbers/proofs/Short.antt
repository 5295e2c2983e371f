-- How many numbers a segmentation descriptor and its parts have at most.
-- Assumes nothing.
use Prim.Native.Nat.{◌≤◌}
use native.Mathlib.Omega.{arith}
use lib.Dec.{lit≤}
use lib.ListN.{length, length-append}
use Rattle.std.specs.Prelude.{Option, Some, None}
use Rattle.units.specs.declared.clock.Ticks.{Ticks}
use Rattle.segmentation_reading.specs.declared.answers.Restrictions.{Restrictions}
use Rattle.segmentation_reading.specs.declared.answers.SubSegment.{SubSegment}
use Rattle.segmentation_reading.specs.declared.answers.Segmentation.{Segmentation}
use Rattle.wire.proofs.Short.{mode_short}
use Rattle.segmentation_numbers.specs.Numbers.{delivery_numbers, duration_numbers, sub_segment_numbers, segmentation_numbers}

pub delivery_short : (x : Option Restrictions) → length (delivery_numbers x) ≤ 5
delivery_short None = lit≤ tt
delivery_short (Some r) = lit≤ tt

pub duration_short : (x : Option Ticks) → length (duration_numbers x) ≤ 2
duration_short None = lit≤ tt
duration_short (Some t) = lit≤ tt

pub sub_segments_short : (x : Option SubSegment) → length (sub_segment_numbers x) ≤ 3
sub_segments_short None = lit≤ tt
sub_segments_short (Some sub) = lit≤ tt

pub segmentation_short : (x : Segmentation) → length (segmentation_numbers x) ≤ 19
segmentation_short x =
    simp length-append
    (omega
    (arith, mode_short x.mode, delivery_short x.delivery, duration_short x.duration, sub_segments_short x.sub_segments))
