-- The bytes of the bill label: the house's name as it was lent where the label is the house's, as it is for every section that is
-- refused or sealed; else a part of the section, and not an empty one.
-- Assumes nothing.
use mathlib.Core.Path.{◌≡◌, ap}
use mathlib.Core.Bool.{true}
use mathlib.Core.List.{List}
use Prim.Native.Nat.{ℕ, ◌+◌, ◌≤◌, ◌<◌}
use lib.ListN.{length, take, drop}
use lib.Dec.{eqb}
use Rattle.std.specs.Prelude.{Some, None, Ok, Err}
use Rattle.units.specs.declared.refusals.Refusal.{Refusal}
use Rattle.units.specs.declared.refusals.Refusal.TheVariants.{Sealed}
use Rattle.section.specs.Accept.{the, accept_of}
use Rattle.opening.specs.First.{open_of}
use Rattle.opening.proofs.Asked.{refused_open, sealed_open, when_refused}
use Rattle.known_walk.specs.Known.{known_cursors}
use Rattle.descriptor_reading.specs.declared.answers.Part.{Part}
use Rattle.labels.specs.Labels.{label_at, bill_label, label_of, label_bytes}
use Rattle.labels.proofs.LabelPart.{label_within, label_some}

module _ (s house : List ℕ) where
  -- the house's label is its name
  pub house_name : bill_label s ≡ None → label_bytes s house ≡ house
  unfolding label_bytes
  house_name e = ap (label_of s house) e

  -- a UPID's is that part of the section
  pub upid_label : (part : Part) → bill_label s ≡ Some part
      → (label_bytes s house ≡ take part.length (drop part.at s)) × (0 < part.length) × (part.at + part.length ≤ length s)
  unfolding label_bytes
  upid_label part e = (ap (label_of s house) e, label_some s part e, label_within s part e)

  not_asked : (r : Refusal) → open_of s ≡ Err r → label_bytes s house ≡ house
  unfolding bill_label
  not_asked r e = house_name (when_refused (λ q. None) (λ c. label_at s (known_cursors s c)) r e)

  pub refused_label : (r : Refusal) → accept_of s ≡ Err r → label_bytes s house ≡ house
  refused_label r e = not_asked r (refused_open s r e)

  pub sealed_label : accept_of s ≡ Ok tt → eqb (the s "encrypted_packet") 1 ≡ true → label_bytes s house ≡ house
  sealed_label e h = not_asked Sealed (sealed_open s e h)
