-- The typed questions on a section: rows 1 to 10, then SEALED (17), then NOTHERE (16) where there is no such part.
-- Those on its command and on the lists of known descriptors are passed on.
-- Assumes nothing.
unfoldable pub use Rattle.command_questions.specs.Questions.{command, insert_component, schedule_event, event_component, private_byte}
unfoldable pub use Rattle.descriptor_questions.specs.Questions.{dtmf_char, segmentation_component, audio_component}
use Rattle.std.specs.Prelude.{ℕ, List, [], length, take, drop, Result, Ok, Err}
use Rattle.units.specs.declared.refusals.Refusal.{Refusal}
use Rattle.opening.specs.First.{open_of, asked}
use Rattle.descriptor_reading.specs.declared.answers.Descriptor.{Descriptor}
use Rattle.descriptor_reading.specs.declared.answers.Part.{Part}
use Rattle.known_walk.specs.Known.{known_cursors, known_trace}
use Rattle.descriptor_reading.specs.Descriptor.{descriptor_of}
use Rattle.descriptor_reading.specs.Descriptor as Says

-- ---- the known descriptors, by number from 0; unknown ones are not counted

-- how many there are
unfoldable pub known_count : List ℕ → Result ℕ Refusal
known_count s = asked (open_of s) Err (λ c. Ok (length (known_cursors s c)))

-- what number n says
unfoldable pub known_descriptor : List ℕ → ℕ → Result Descriptor Refusal
known_descriptor s n = asked (open_of s) Err (λ c. descriptor_of (known_trace s c n))

-- ---- the UPID of known descriptor n

-- where its bytes lie, or why there are none
unfoldable pub upid : List ℕ → ℕ → Result Part Refusal
upid s n = asked (open_of s) Err (λ c. Says.upid s c n)

-- that part of the bytes, none where it is refused
unfoldable pub part_of : List ℕ → Result Part Refusal → List ℕ
part_of s (Ok part) = take part.length (drop part.at s)
part_of s (Err refusal) = []

-- the UPID bytes themselves
unfoldable pub upid_bytes : List ℕ → ℕ → List ℕ
upid_bytes s n = part_of s (upid s n)
