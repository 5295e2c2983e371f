-- What known descriptors say: every value is that of a field on the section's sheet, under the field's name.
-- Assumes nothing.
use Rattle.std.specs.Prelude.{ℕ, ◌+◌, ◌/◌, Bool, cond, not, ◌&&◌, List, [], ◌∷◌, length, get_or, ltb, eqb, Option, Some, None, Result, Ok, Err}
use Prim.Native.String.{String}
use Rattle.units.specs.declared.refusals.Refusal.{Refusal}
use Rattle.units.specs.Clock.{ticks, event_id}
use Rattle.grammar.specs.Traces.{Trace, size}
use Rattle.grammar.specs.Names.{is_named, look, is_set, all_of, part}
use Rattle.descriptors.specs.declared.Cursor.{Cursor}
use Rattle.known_walk.specs.Known.{known_cursors, numbered, known_trace, standing_trace}
use Rattle.units.specs.declared.clock.Ticks.{Ticks}
use Rattle.units.specs.declared.mode.Mode.{Mode}
use Rattle.segmentation_reading.specs.declared.answers.Restrictions.{Restrictions}
use Rattle.segmentation_reading.specs.declared.answers.SubSegment.{SubSegment}
use Rattle.descriptor_reading.specs.declared.answers.Descriptor.{Descriptor}
use Rattle.descriptor_reading.specs.declared.answers.SegmentationComponent.{SegmentationComponent}
use Rattle.descriptor_reading.specs.declared.answers.AudioComponent.{AudioComponent}
use Rattle.descriptor_reading.specs.declared.answers.Part.{Part}

-- ---- the parts of a descriptor

-- the descriptor has the identifier "CUEI" and that tag
abbrev pub is_tag : Trace → ℕ → Bool
is_tag t v = eqb (look t "identifier") 0x43554549 && eqb (look t "splice_descriptor_tag") v

-- of the whole program, or of so many components
abbrev pub mode_of : Trace → Mode
mode_of t = cond (is_set t "program_segmentation_flag") Mode.Program (Mode.Components (look t "component_count"))

-- delivery is not restricted, or by these flags
abbrev pub delivery_of : Trace → Option Restrictions
delivery_of t =
    cond (is_set t "delivery_not_restricted_flag") None
    (Some (record {
      web_delivery_allowed_flag = is_set t "web_delivery_allowed_flag";
      no_regional_blackout_flag = is_set t "no_regional_blackout_flag";
      archive_allowed_flag = is_set t "archive_allowed_flag";
      device_restrictions = look t "device_restrictions";
    }))

-- how long the segment lasts, where that is said
abbrev pub duration_of : Trace → Option Ticks
duration_of t = cond (is_set t "segmentation_duration_flag") (Some (ticks (look t "segmentation_duration"))) None

-- there where the sheet has them
abbrev pub sub_segments_of : Trace → Option SubSegment
sub_segments_of t =
    cond (ltb 0 (length (all_of t "sub_segment_num")))
    (Some (record { sub_segment_num = look t "sub_segment_num"; sub_segments_expected = look t "sub_segments_expected" })) None

-- a cancelled one has its id only
unfoldable pub segmentation_of : Trace → Descriptor
segmentation_of t =
    cond (is_set t "segmentation_event_cancel_indicator") (Descriptor.CancelledSegmentation (event_id (look t "segmentation_event_id")))
    (Descriptor.Segmentation
    (record {
      segmentation_event_id = event_id (look t "segmentation_event_id");
      mode = mode_of t;
      delivery = delivery_of t;
      duration = duration_of t;
      segmentation_upid_type = look t "segmentation_upid_type";
      segmentation_upid_length = look t "segmentation_upid_length";
      segmentation_type_id = look t "segmentation_type_id";
      segment_num = look t "segment_num";
      segments_expected = look t "segments_expected";
      sub_segments = sub_segments_of t;
    }))

-- ---- the descriptor

-- the known descriptor with the rows t, by its tag (Table 16)
unfoldable pub descriptor_of : Trace → Result Descriptor Refusal
descriptor_of t =
    cond (is_tag t 0) (Ok (Descriptor.Avail (look t "provider_avail_id")))
    (cond (is_tag t 1) (Ok (Descriptor.Dtmf (look t "preroll") (look t "dtmf_count")))
    (cond (is_tag t 2) (Ok (segmentation_of t))
    (cond (is_tag t 3) (Ok (Descriptor.Time (look t "TAI_seconds") (look t "TAI_ns") (look t "UTC_offset")))
    (cond (is_tag t 4) (Ok (Descriptor.Audio (look t "audio_count")))
    (Err Refusal.NotHere)))))

-- ---- by number

-- the characters of the DTMF descriptor with the rows t
abbrev pub dtmf_chars : Trace → List ℕ
dtmf_chars t = cond (is_tag t 1) (all_of t "DTMF_char") []

-- character m of them
unfoldable pub dtmf_char_of : Trace → ℕ → Result ℕ Refusal
dtmf_char_of t m = cond (ltb m (length (dtmf_chars t))) (Ok (get_or (dtmf_chars t) m 0)) (Err Refusal.NotHere)

-- component m of the segmentation descriptor with the rows t
unfoldable pub segmentation_component_of : Trace → ℕ → Result SegmentationComponent Refusal
segmentation_component_of t m =
    let u = part "component_tag" m t in
    cond (is_tag t 2 && ltb m (look t "component_count"))
    (Ok (record { component_tag = look u "component_tag"; pts_offset = ticks (look u "pts_offset") }))
    (Err Refusal.NotHere)

-- component m of the audio descriptor with the rows t
unfoldable pub audio_component_of : Trace → ℕ → Result AudioComponent Refusal
audio_component_of t m =
    let u = part "component_tag" m t in
    cond (is_tag t 4 && ltb m (look t "audio_count"))
    (Ok (record {
      component_tag = look u "component_tag";
      iso_code = look u "ISO_code";
      bit_stream_mode = look u "Bit_Stream_Mode";
      num_channels = look u "Num_Channels";
      full_srvc_audio = is_set u "Full_Srvc_Audio";
    }))
    (Err Refusal.NotHere)

-- ---- the UPID

-- the rows up to the first of that name, and that one
unfoldable pub through : String → Trace → Trace
through n [] = []
through n (x ∷ t) = cond (is_named n x.0) (x ∷ []) (x ∷ through n t)

-- where the UPID of the descriptor with the rows t lies, which stands from byte `at` on: after the row of its length, and as long as that says
unfoldable pub upid_of : ℕ → Trace → Result Part Refusal
upid_of at t =
    cond (is_tag t 2 && not (is_set t "segmentation_event_cancel_indicator"))
    (Ok (record { at = at + size (through "segmentation_upid_length" t) / 8; length = look t "segmentation_upid_length" }))
    (Err Refusal.NotHere)

-- the UPID of known descriptor n
unfoldable pub upid : List ℕ → Cursor → ℕ → Result Part Refusal
upid s c n = upid_of (numbered (known_cursors s c) n).at (known_trace s c n)

-- the UPID of what stands at a cursor
unfoldable pub standing_upid : List ℕ → Cursor → Result Part Refusal
standing_upid s c = upid_of c.at (standing_trace s c)
