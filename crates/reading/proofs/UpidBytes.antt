-- The UPID bytes of a known descriptor: a part that lies in the section, and the values of its field on the sheet.
-- Assumes nothing.
use mathlib.Core.Path.{◌≡◌, refl, sym, ap, ◌∙◌}
use mathlib.Core.List.{List}
use Prim.Native.Nat.{ℕ, ◌+◌, ◌≤◌}
use lib.ListN.{length}
use Rattle.bits.proofs.Bytes.{AreBytes}
use Rattle.grammar.specs.Names.{all_of}
use Rattle.descriptors.specs.declared.Cursor.{Cursor}
use Rattle.opening.specs.First.{first_cursor, open_of}
use Rattle.opening.proofs.Asked.{is_open, when_open, when_refused}
use Rattle.std.specs.Prelude.{Result, Ok, Err}
use Rattle.units.specs.declared.refusals.Refusal.{Refusal}
use Rattle.known_walk.specs.Known.{known_trace}
use Rattle.descriptor_reading.specs.Descriptor as Says
use Rattle.descriptor_reading.proofs.UpidPart.{upid_within, upid_part}
use Rattle.reading.specs.Reading.{upid, part_of, upid_bytes}

module _ (s : List ℕ) (n at l : ℕ) (e : upid s n ≡ Ok (record { at = at; length = l })) where
  -- a part is that of an open section's descriptor
  pub of_open : (c : Cursor) × (open_of s ≡ Ok c) × (Says.upid s c n ≡ Ok (record { at = at; length = l }))
  unfolding upid
  of_open = go (open_of s) refl
    where
      go : (o : Result Cursor Refusal) → open_of s ≡ o → (c : Cursor) × (open_of s ≡ Ok c) × (Says.upid s c n ≡ Ok (record { at = at; length = l }))
      go (Ok c) h = (c, h, sym (when_open Err (λ d. Says.upid s d n) c h) ∙ e)
      go (Err r) h =
          let q = sym (when_refused Err (λ d. Says.upid s d n) r h) ∙ e in
          cc

  -- it lies in the section
  pub part_within : at + l ≤ length s
  part_within = let o = of_open in upid_within s o.0 n at l o.2

  -- its bytes are the sheet's numbers of the field
  pub part_values : AreBytes s → upid_bytes s n ≡ all_of (known_trace s (first_cursor s) n) "segmentation_upid"
  unfolding upid_bytes part_of
  part_values hs =
      let o = of_open in
      ap (part_of s) e
      ∙ upid_part s o.0 n at l o.2 hs
      ∙ ap (λ (c : Cursor). all_of (known_trace s c n) "segmentation_upid") (is_open s o.0 o.1).cursor
