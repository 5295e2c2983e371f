-- The bill label.
-- Assumes nothing.
use Rattle.std.specs.Prelude.{ℕ, cond, List, [], ◌∷◌, take, drop, ltb, Option, Some, None, Result, Ok, Err}
use Rattle.units.specs.declared.refusals.Refusal.{Refusal}
use Rattle.descriptors.specs.declared.Cursor.{Cursor}
use Rattle.descriptors.specs.Loop.{trace_at}
use Rattle.opening.specs.First.{open_of, asked}
use Rattle.known_walk.specs.Known.{known_cursors}
use Rattle.descriptor_reading.specs.declared.answers.Part.{Part}
use Rattle.descriptor_reading.specs.Descriptor.{upid_of}

-- a part that is not empty is the label
abbrev pub labelled : Result Part Refusal → Option Part → Option Part
labelled (Ok part) other = cond (ltb 0 part.length) (Some part) other
labelled (Err r) other = other

-- the first of the descriptors at these cursors that has UPID bytes; none, the house's name, where there is no such one
unfoldable pub label_at : List ℕ → List Cursor → Option Part
label_at s [] = None
label_at s (c ∷ cs) = labelled (upid_of c.at (trace_at s c)) (label_at s cs)

-- a section that is refused or sealed has none
unfoldable pub bill_label : List ℕ → Option Part
bill_label s = asked (open_of s) (λ r. None) (λ c. label_at s (known_cursors s c))

-- its bytes: a part of the section, or the house's name as it was lent
abbrev pub label_of : List ℕ → List ℕ → Option Part → List ℕ
label_of s house (Some part) = take part.length (drop part.at s)
label_of s house None = house

-- the label's bytes, of a section and a house name
unfoldable pub label_bytes : List ℕ → List ℕ → List ℕ
label_bytes s house = label_of s house (bill_label s)
