-- What known descriptors say as flat lists of numbers: the number of the case and then its values; a value that is absent has no
-- number.
-- Assumes nothing.
use Rattle.std.specs.Prelude.{ℕ, [], ◌∷◌, Result, Ok, Err}
use Rattle.units.specs.declared.refusals.Refusal.{Refusal}
use Rattle.units.specs.Refusals.{number_of}
use Rattle.descriptor_reading.specs.declared.answers.Descriptor.{Descriptor}
use Rattle.segmentation_numbers.specs.Numbers.{segmentation_numbers}
use Rattle.wire.specs.Given.{Numbers, refused, these}

-- how many known descriptors there are
abbrev pub known_count_numbers : Result ℕ Refusal → Numbers
known_count_numbers (Ok n) = these (n ∷ [])
known_count_numbers (Err r) = refused (number_of r)

-- a known descriptor: its case in the order of the enum, and then its values
abbrev pub descriptor_numbers : Result Descriptor Refusal → Numbers
descriptor_numbers (Ok (Descriptor.Avail id)) = these (0 ∷ id ∷ [])
descriptor_numbers (Ok (Descriptor.Dtmf preroll n)) = these (1 ∷ preroll ∷ n ∷ [])
descriptor_numbers (Ok (Descriptor.Segmentation d)) = these (segmentation_numbers d)
descriptor_numbers (Ok (Descriptor.CancelledSegmentation e)) = these (3 ∷ e.0 ∷ [])
descriptor_numbers (Ok (Descriptor.Time seconds ns offset)) = these (4 ∷ seconds ∷ ns ∷ offset ∷ [])
descriptor_numbers (Ok (Descriptor.Audio n)) = these (5 ∷ n ∷ [])
descriptor_numbers (Err r) = refused (number_of r)
