-- The part that is given for a UPID lies inside the section, and its bytes are the values of the field segmentation_upid.
-- Assumes nothing.
use mathlib.Core.Path.{◌≡◌, refl, sym, ap, ◌∙◌}
use mathlib.Core.Bool.{Bool, true, false, cond, not, ◌&&◌}
use mathlib.Core.List.{List}
use mathlib.Core.Logic.{⊎_elim}
use Prim.Native.Nat.{ℕ, ◌+◌, ◌*◌, ◌≤◌}
use native.Mathlib.Omega.{arith}
use lib.ListN.{length, take, drop}
use lib.Dec.{eqb}
use borrow.Author.Tests.{not-true}
use Rattle.bits.specs.Bits.{bit, field_of, flag_of}
use Rattle.bits.proofs.Cases.{and_left, and_right}
use Rattle.bits.proofs.Bytes.{AreBytes}
use Rattle.units.specs.declared.refusals.Refusal.{Refusal}
use Rattle.grammar.specs.Meaning.{reached, read}
use Rattle.grammar.specs.Tables.{segmentation_descriptor}
use Rattle.grammar.specs.Traces.{Trace}
use Rattle.grammar.specs.Names.{all_of}
use Rattle.descriptors.specs.declared.Cursor.{Cursor}
use Rattle.descriptors.specs.declared.Kind.{Kind}
use Rattle.descriptors.specs.Walk.{table_of}
use Rattle.descriptor_reading.specs.declared.answers.Part.{Part}
use Rattle.std.specs.Prelude.{Result, Ok, Err}
use Rattle.known_walk.specs.Known.{known_cursors, numbered, known_trace}
use Rattle.descriptor_reading.specs.Descriptor.{upid_of, upid}
use Rattle.known_walk.specs.Places.{Stands}
use Rattle.segmentation_reading.specs.Places.{upid_place}
use Rattle.descriptor_reading.specs.Places.{tag_at, upid_at}
use Rattle.descriptor_reading.proofs.Tags.{reads_as, kind_is}
use Rattle.descriptor_reading.proofs.SegmentationTold.{upid_inside, upid_bytes_lem}
use Rattle.descriptor_reading.proofs.Told.{upid_told, none_upid}
use Rattle.known_walk.proofs.EachStands.{stands_or_none}

-- a part is given for a segmentation descriptor that is not cancelled, and for nothing else
record Given (s : List ℕ) (at a l : ℕ) : Type 0 where
  tag : eqb (tag_at s at) 2 ≡ true
  kept : flag_of s (8 * (at + 10)) ≡ false
  starts : a ≡ upid_place s (at + 6) + 2
  long : l ≡ field_of s (8 * (upid_place s (at + 6) + 1)) 8

is_given : (s : List ℕ) (at a l : ℕ) → upid_at s at ≡ Ok (record { at = a; length = l }) → Given s at a l
unfolding upid_at
is_given s at a l = go (eqb (tag_at s at) 2 && not cancelled) refl
  where
    cancelled : Bool
    cancelled = flag_of s (8 * (at + 10))

    place : ℕ
    place = upid_place s (at + 6)

    go : (b : Bool) → (eqb (tag_at s at) 2 && not cancelled) ≡ b
        → cond {A = Result Part Refusal} b (Ok (record { at = place + 2; length = field_of s (8 * (place + 1)) 8 })) (Err Refusal.NotHere) ≡ Ok (record { at = a; length = l })
        → Given s at a l
    go true e q =
        let part : ◌≡◌ {A = Part} (record { at = place + 2; length = field_of s (8 * (place + 1)) 8 }) (record { at = a; length = l }) = cc in
        record {
          tag = and_left (eqb (tag_at s at) 2) (not cancelled) e;
          kept = not-true cancelled (and_right (eqb (tag_at s at) 2) (not cancelled) e);
          starts = sym (ap (λ (p : Part). p.at) part);
          long = sym (ap (λ (p : Part). p.length) part);
        }
    go false e q = cc

-- ---- of a descriptor that stands

module _ (s : List ℕ) (at : ℕ) (t : Trace) (a l : ℕ) (h : Stands s at t) (e : upid_of at t ≡ Ok (record { at = a; length = l })) where
  given : Given s at a l
  given = is_given s at a l (sym (upid_told s at t h) ∙ e)

  reads : read segmentation_descriptor h.env (bit s) (8 * h.stop) (8 * (at + 6)) ≡ reached (8 * h.stop) h.body
  unfolding table_of
  reads = reads_as s at t h Kind.Segmentation (kind_is s at t h Kind.Segmentation given.tag)

  pub standing_within : a + l ≤ length s
  standing_within =
      let inside = upid_inside s at h.stop h.env h.body h.inside reads given.kept in
      omega (arith, inside, given.starts, given.long, h.inside)

  pub standing_part : AreBytes s → take l (drop a s) ≡ all_of t "segmentation_upid"
  standing_part bytes =
      (λ i. take (given.long i) (drop (given.starts i) s))
      ∙ upid_bytes_lem s at h.stop h.env h.body h.inside reads given.kept bytes
      ∙ ap (λ (u : Trace). all_of u "segmentation_upid") (sym h.rows)

-- ---- of a known descriptor

module _ (s : List ℕ) (c : Cursor) (n a l : ℕ) (e : upid s c n ≡ Ok (record { at = a; length = l })) where
  stands : Stands s (numbered (known_cursors s c) n).at (known_trace s c n)
  unfolding upid
  stands =
      ⊎_elim
      (λ none.
      let at : ℕ = (numbered (known_cursors s c) n).at in
      let refused : Err Refusal.NotHere ≡ Ok (record { at = a; length = l }) = sym (none_upid at) ∙ ap (upid_of at) (sym none) ∙ e in
      cc)
      (λ there. there)
      (stands_or_none s c n)

  pub upid_within : a + l ≤ length s
  unfolding upid
  upid_within = standing_within s (numbered (known_cursors s c) n).at (known_trace s c n) a l stands e

  pub upid_part : AreBytes s → take l (drop a s) ≡ all_of (known_trace s c n) "segmentation_upid"
  unfolding upid
  upid_part = standing_part s (numbered (known_cursors s c) n).at (known_trace s c n) a l stands e
