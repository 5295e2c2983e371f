-- What an uncancelled segmentation descriptor says as a flat list of numbers: where a part has cases, the number of the case and then
-- its values; a value that is absent has no number.
-- Assumes nothing.
use Rattle.std.specs.Prelude.{ℕ, List, [], ◌∷◌, ◌++◌, Option, Some, None}
use Rattle.units.specs.declared.clock.Ticks.{Ticks}
use Rattle.segmentation_reading.specs.declared.answers.Restrictions.{Restrictions}
use Rattle.segmentation_reading.specs.declared.answers.SubSegment.{SubSegment}
use Rattle.segmentation_reading.specs.declared.answers.Segmentation.{Segmentation}
use Rattle.wire.specs.Wire.{flag_number, mode_numbers}

-- not restricted, or three flags and the device restrictions
abbrev pub delivery_numbers : Option Restrictions → List ℕ
delivery_numbers None = 0 ∷ []
delivery_numbers (Some r) =
    1 ∷ flag_number r.web_delivery_allowed_flag ∷ flag_number r.no_regional_blackout_flag ∷ flag_number r.archive_allowed_flag
    ∷ r.device_restrictions ∷ []

-- absent, or present in ticks
abbrev pub duration_numbers : Option Ticks → List ℕ
duration_numbers None = 0 ∷ []
duration_numbers (Some t) = 1 ∷ t.0 ∷ []

-- absent, or the number of this one and how many are expected
abbrev pub sub_segment_numbers : Option SubSegment → List ℕ
sub_segment_numbers None = 0 ∷ []
sub_segment_numbers (Some sub) = 1 ∷ sub.sub_segment_num ∷ sub.sub_segments_expected ∷ []

-- a segmentation descriptor is case 2: its id, its parts, and the numbers between them
abbrev pub segmentation_numbers : Segmentation → List ℕ
segmentation_numbers d =
    2 ∷ d.segmentation_event_id.0
    ∷ (mode_numbers d.mode
    ++ (delivery_numbers d.delivery
    ++ (duration_numbers d.duration
    ++ (d.segmentation_upid_type ∷ d.segmentation_upid_length ∷ d.segmentation_type_id ∷ d.segment_num ∷ d.segments_expected
    ∷ sub_segment_numbers d.sub_segments))))
