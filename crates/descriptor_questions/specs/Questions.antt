-- The typed questions on the lists of a section's known descriptors: rows 1 to 10, then SEALED (17), then NOTHERE (16) where there
-- is no such part. Known descriptor n, by number from 0; unknown ones are not counted.
-- Assumes nothing.
use Rattle.std.specs.Prelude.{ℕ, List, Result, Err}
use Rattle.units.specs.declared.refusals.Refusal.{Refusal}
use Rattle.opening.specs.First.{open_of, asked}
use Rattle.descriptor_reading.specs.declared.answers.SegmentationComponent.{SegmentationComponent}
use Rattle.descriptor_reading.specs.declared.answers.AudioComponent.{AudioComponent}
use Rattle.known_walk.specs.Known.{known_trace}
use Rattle.descriptor_reading.specs.Descriptor.{dtmf_char_of, segmentation_component_of, audio_component_of}

-- character m of a DTMF descriptor
unfoldable pub dtmf_char : List ℕ → ℕ → ℕ → Result ℕ Refusal
dtmf_char s n m = asked (open_of s) Err (λ c. dtmf_char_of (known_trace s c n) m)

-- component m of a segmentation descriptor
unfoldable pub segmentation_component : List ℕ → ℕ → ℕ → Result SegmentationComponent Refusal
segmentation_component s n m = asked (open_of s) Err (λ c. segmentation_component_of (known_trace s c n) m)

-- component m of an audio descriptor
unfoldable pub audio_component : List ℕ → ℕ → ℕ → Result AudioComponent Refusal
audio_component s n m = asked (open_of s) Err (λ c. audio_component_of (known_trace s c n) m)
