-- The parts of known descriptors that are asked for by number, as lists of numbers.
-- Assumes nothing.
use Rattle.std.specs.Prelude.{ℕ, [], ◌∷◌, Result, Ok, Err}
use Rattle.units.specs.declared.refusals.Refusal.{Refusal}
use Rattle.units.specs.Refusals.{number_of}
use Rattle.descriptor_reading.specs.declared.answers.SegmentationComponent.{SegmentationComponent}
use Rattle.descriptor_reading.specs.declared.answers.AudioComponent.{AudioComponent}
use Rattle.descriptor_reading.specs.declared.answers.Part.{Part}
use Rattle.wire.specs.Wire.{flag_number}
use Rattle.wire.specs.Given.{Numbers, refused, these}

-- a character of a DTMF descriptor
abbrev pub dtmf_char_numbers : Result ℕ Refusal → Numbers
dtmf_char_numbers (Ok c) = these (c ∷ [])
dtmf_char_numbers (Err r) = refused (number_of r)

-- a component of a segmentation descriptor: its tag and its offset
abbrev pub segmentation_component_numbers : Result SegmentationComponent Refusal → Numbers
segmentation_component_numbers (Ok c) = these (c.component_tag ∷ c.pts_offset.0 ∷ [])
segmentation_component_numbers (Err r) = refused (number_of r)

-- a component of an audio descriptor
abbrev pub audio_component_numbers : Result AudioComponent Refusal → Numbers
audio_component_numbers (Ok c) =
    these (c.component_tag ∷ c.iso_code ∷ c.bit_stream_mode ∷ c.num_channels ∷ flag_number c.full_srvc_audio ∷ [])
audio_component_numbers (Err r) = refused (number_of r)

-- where the UPID bytes lie in the section, and how many they are
abbrev pub upid_numbers : Result Part Refusal → Numbers
upid_numbers (Ok part) = these (part.at ∷ part.length ∷ [])
upid_numbers (Err r) = refused (number_of r)
