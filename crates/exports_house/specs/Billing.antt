-- The break and the bill label as lists of numbers: the number of the case and then its values.
-- Assumes nothing.
use Rattle.std.specs.Prelude.{ℕ, [], ◌∷◌, Option, Some, None, Result, Ok, Err}
use Rattle.units.specs.declared.refusals.Refusal.{Refusal}
use Rattle.units.specs.Refusals.{number_of}
use Rattle.descriptor_reading.specs.declared.answers.Part.{Part}
use Rattle.breaks.specs.declared.Break.{Break}
use Rattle.wire.specs.Given.{Numbers, refused, these}

-- no break, one of so many ticks, one without measure, or a cue that is not read
abbrev pub break_answer_numbers : Result Break Refusal → Numbers
break_answer_numbers (Ok Break.None) = these (0 ∷ [])
break_answer_numbers (Ok (Break.Measured t)) = these (1 ∷ t.0 ∷ [])
break_answer_numbers (Ok Break.Unmeasured) = these (2 ∷ [])
break_answer_numbers (Ok Break.Unread) = these (3 ∷ [])
break_answer_numbers (Err r) = refused (number_of r)

-- where the label lies, in the section or in the house's name of so many bytes, and how long it is
abbrev pub label_numbers : ℕ → Option Part → Numbers
label_numbers house (Some part) = these (0 ∷ part.at ∷ part.length ∷ [])
label_numbers house None = these (1 ∷ 0 ∷ house ∷ [])
