-- The parts of a segmentation descriptor (Table 20) by the places at which they stand.
-- Assumes nothing.
use Rattle.std.specs.Prelude.{ℕ, ◌+◌, ◌*◌, cond, ◌&&◌, List, ltb, Option, Some, None}
use Rattle.bits.specs.Bits.{field_of, flag_of}
use Rattle.units.specs.Clock.{ticks, event_id}
use Rattle.grammar.specs.Meaning.{is_among}
use Rattle.grammar.specs.Tables.{sub_segmented}
use Rattle.units.specs.declared.clock.Ticks.{Ticks}
use Rattle.units.specs.declared.mode.Mode.{Mode}
use Rattle.segmentation_reading.specs.declared.answers.Restrictions.{Restrictions}
use Rattle.segmentation_reading.specs.declared.answers.SubSegment.{SubSegment}
use Rattle.segmentation_reading.specs.declared.answers.Segmentation.{Segmentation}

-- ---- by the byte `at` after the identifier

-- where the components end
abbrev pub after_components : List ℕ → ℕ → ℕ
after_components s at = cond (flag_of s (8 * (at + 5))) (at + 6) (at + 7 + 6 * field_of s (8 * (at + 6)) 8)

-- where the UPID's type stands
unfoldable pub upid_place : List ℕ → ℕ → ℕ
upid_place s at = cond (flag_of s (8 * (at + 5) + 1)) (after_components s at + 5) (after_components s at)

-- of the program, or of so many components
abbrev pub mode_at : List ℕ → ℕ → Mode
mode_at s at = cond (flag_of s (8 * (at + 5))) Mode.Program (Mode.Components (field_of s (8 * (at + 6)) 8))

-- not restricted, or the four restrictions
abbrev pub delivery_at : List ℕ → ℕ → Option Restrictions
delivery_at s at =
    cond (flag_of s (8 * (at + 5) + 2)) None
    (Some (record {
      web_delivery_allowed_flag = flag_of s (8 * (at + 5) + 3);
      no_regional_blackout_flag = flag_of s (8 * (at + 5) + 4);
      archive_allowed_flag = flag_of s (8 * (at + 5) + 5);
      device_restrictions = field_of s (8 * (at + 5) + 6) 2;
    }))

-- the 40 bits of segmentation_duration, where its flag is set
abbrev pub duration_at : List ℕ → ℕ → Option Ticks
duration_at s at =
    cond (flag_of s (8 * (at + 5) + 1)) (Some (ticks (field_of s (8 * after_components s at) 40))) None

-- the two bytes after segments_expected at byte `at - 1`, where the type may have them and the descriptor does not end before
abbrev pub sub_segments_at : List ℕ → ℕ → ℕ → ℕ → Option SubSegment
sub_segments_at s type at end =
    cond (is_among type sub_segmented && ltb at end)
    (Some (record { sub_segment_num = field_of s (8 * at) 8; sub_segments_expected = field_of s (8 * (at + 1)) 8 })) None

-- from the UPID's type at byte `at` on: where segmentation_type_id stands
abbrev pub after_upid : List ℕ → ℕ → ℕ
after_upid s at = at + 2 + field_of s (8 * (at + 1)) 8

-- a descriptor that is not cancelled and ends before byte `end`
unfoldable pub uncancelled_at : List ℕ → ℕ → ℕ → Segmentation
uncancelled_at s at end =
    let upid = upid_place s at in
    let type = after_upid s upid in
    record {
      segmentation_event_id = event_id (field_of s (8 * at) 32);
      mode = mode_at s at;
      delivery = delivery_at s at;
      duration = duration_at s at;
      segmentation_upid_type = field_of s (8 * upid) 8;
      segmentation_upid_length = field_of s (8 * (upid + 1)) 8;
      segmentation_type_id = field_of s (8 * type) 8;
      segment_num = field_of s (8 * (type + 1)) 8;
      segments_expected = field_of s (8 * (type + 2)) 8;
      sub_segments = sub_segments_at s (field_of s (8 * type) 8) (type + 3) end;
    }
