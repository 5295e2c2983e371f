-- For private functions, here and in `descriptor_lists`: the parts of a known descriptor by the byte at which they stand.
-- Assumes nothing.
use Rattle.std.specs.Prelude.{ℕ, ◌+◌, ◌*◌, cond, not, ◌&&◌, List, eqb, ltb, Result, Ok, Err}
use Rattle.bits.specs.Bits.{field_of, flag_of}
use Rattle.units.specs.declared.refusals.Refusal.{Refusal}
use Rattle.units.specs.Clock.{ticks, event_id}
use Rattle.segmentation_reading.specs.Places.{upid_place, uncancelled_at}
use Rattle.descriptor_reading.specs.declared.answers.Descriptor.{Descriptor}
use Rattle.descriptor_reading.specs.declared.answers.SegmentationComponent.{SegmentationComponent}
use Rattle.descriptor_reading.specs.declared.answers.AudioComponent.{AudioComponent}
use Rattle.descriptor_reading.specs.declared.answers.Part.{Part}

-- ---- a segmentation descriptor, by the byte after the identifier

-- which ends before byte `end`; a cancelled one has its id only
unfoldable pub segmentation_at : List ℕ → ℕ → ℕ → Descriptor
segmentation_at s at end =
    cond (flag_of s (8 * (at + 4))) (Descriptor.CancelledSegmentation (event_id (field_of s (8 * at) 32))) (Descriptor.Segmentation (uncancelled_at s at end))

-- how many components it has
abbrev pub components_at : List ℕ → ℕ → ℕ
components_at s at = cond (flag_of s (8 * (at + 4))) 0 (cond (flag_of s (8 * (at + 5))) 0 (field_of s (8 * (at + 6)) 8))

-- ---- the descriptor that stands from byte `at` on

-- splice_descriptor_tag
abbrev pub tag_at : List ℕ → ℕ → ℕ
tag_at s at = field_of s (8 * at) 8

-- what it says, by its tag
unfoldable pub descriptor_at : List ℕ → ℕ → Result Descriptor Refusal
descriptor_at s at =
    cond (eqb (tag_at s at) 0) (Ok (Descriptor.Avail (field_of s (8 * (at + 6)) 32)))
    (cond (eqb (tag_at s at) 1) (Ok (Descriptor.Dtmf (field_of s (8 * (at + 6)) 8) (field_of s (8 * (at + 7)) 3)))
    (cond (eqb (tag_at s at) 2) (Ok (segmentation_at s (at + 6) (at + 2 + field_of s (8 * (at + 1)) 8)))
    (cond (eqb (tag_at s at) 3)
    (Ok (Descriptor.Time (field_of s (8 * (at + 6)) 48) (field_of s (8 * (at + 12)) 32) (field_of s (8 * (at + 16)) 16)))
    (cond (eqb (tag_at s at) 4) (Ok (Descriptor.Audio (field_of s (8 * (at + 6)) 4)))
    (Err Refusal.NotHere)))))

-- character m, if it is a DTMF descriptor that has so many
unfoldable pub dtmf_char_at : List ℕ → ℕ → ℕ → Result ℕ Refusal
dtmf_char_at s at m =
    cond (eqb (tag_at s at) 1 && ltb m (field_of s (8 * (at + 7)) 3)) (Ok (field_of s (8 * (at + 8 + m)) 8)) (Err Refusal.NotHere)

-- component m, if it is a segmentation descriptor that has so many
unfoldable pub segmentation_component_at : List ℕ → ℕ → ℕ → Result SegmentationComponent Refusal
segmentation_component_at s at m =
    let place = at + 13 + 6 * m in
    cond (eqb (tag_at s at) 2 && ltb m (components_at s (at + 6)))
    (Ok (record { component_tag = field_of s (8 * place) 8; pts_offset = ticks (field_of s (8 * place + 15) 33) }))
    (Err Refusal.NotHere)

-- component m, if it is an audio descriptor that has so many
unfoldable pub audio_component_at : List ℕ → ℕ → ℕ → Result AudioComponent Refusal
audio_component_at s at m =
    let place = at + 7 + 5 * m in
    cond (eqb (tag_at s at) 4 && ltb m (field_of s (8 * (at + 6)) 4))
    (Ok (record {
      component_tag = field_of s (8 * place) 8;
      iso_code = field_of s (8 * place + 8) 24;
      bit_stream_mode = field_of s (8 * place + 32) 3;
      num_channels = field_of s (8 * place + 35) 4;
      full_srvc_audio = flag_of s (8 * place + 39);
    }))
    (Err Refusal.NotHere)

-- where its UPID bytes lie and how many they are, if it is a segmentation descriptor that is not cancelled
unfoldable pub upid_at : List ℕ → ℕ → Result Part Refusal
upid_at s at =
    let upid = upid_place s (at + 6) in
    cond (eqb (tag_at s at) 2 && not (flag_of s (8 * (at + 10))))
    (Ok (record { at = upid + 2; length = field_of s (8 * (upid + 1)) 8 })) (Err Refusal.NotHere)
