-- What a known descriptor says by its rows is what it says by its place; and what is said where there is none.
-- Assumes nothing.
use mathlib.Core.Path.{◌≡◌, refl, sym, ap, ◌∙◌, subst}
use mathlib.Core.Bool.{Bool, true, false, cond, not, ◌&&◌}
use mathlib.Core.List.{List, []}
use Prim.Native.Nat.{ℕ, ◌+◌, ◌*◌, ◌/◌, ◌<◌}
use native.Mathlib.Omega.{arith}
use lib.ListN.{length, get_or}
use lib.Dec.{eqb, ltb}
use borrow.Author.Tests.{not-true, le-ltb, ltb-true}
use Rattle.bits.specs.Bits.{bit, field_of, flag_of}
use Rattle.bits.proofs.Cases.{and_left, and_right}
use Rattle.units.specs.declared.refusals.Refusal.{Refusal}
use Rattle.units.specs.Clock.{ticks}
use Rattle.grammar.specs.Meaning.{reached, read}
use Rattle.grammar.specs.Tables.{segmentation_descriptor}
use Rattle.grammar.specs.Traces.{Trace, size}
use Rattle.grammar.specs.Names.{look, is_set, all_of}
use Rattle.descriptors.specs.declared.Kind.{Kind}
use Rattle.descriptors.specs.Walk.{kind_of, table_of}
use Rattle.descriptor_reading.specs.declared.answers.Descriptor.{Descriptor}
use Rattle.descriptor_reading.specs.declared.answers.Part.{Part}
use Rattle.std.specs.Prelude.{Result, Ok, Err}
use Rattle.descriptor_reading.specs.Descriptor.{segmentation_of, descriptor_of, dtmf_char_of, segmentation_component_of, audio_component_of, through, upid_of}
use Rattle.known_walk.specs.Places.{Stands}
use Rattle.segmentation_reading.specs.Places.{upid_place}
use Rattle.descriptor_reading.specs.Places.{segmentation_at, components_at, tag_at, descriptor_at, dtmf_char_at, segmentation_component_at, audio_component_at, upid_at}
use Rattle.descriptor_reading.proofs.Tags.{reads_as, kind_is, is_tag_lem}
use Rattle.descriptor_reading.proofs.SegmentationTold as table
use Rattle.descriptor_reading.proofs.SegmentationTold.{Component, UpidStands}
use Rattle.descriptor_reading.proofs.Small.{avail_values, time_values, dtmf_values, audio_count, audio_values}

-- two choices by tests that agree
agree : {A : Type 0} {b b' : Bool} {x x' y y' : A} → b ≡ b' → (b' ≡ true → x ≡ x') → y ≡ y' → cond b x y ≡ cond b' x' y'
agree {b' = b'} {x} {x'} {y} {y'} e h l = ap (λ (c : Bool). cond c x y) e ∙ go b' h
  where
    go : (c : Bool) → (c ≡ true → x ≡ x') → cond c x y ≡ cond c x' y'
    go true q = q refl
    go false q = l

-- two tests agree where the first parts do and, where these hold, the second
both : {a a' b b' : Bool} → a ≡ a' → (a' ≡ true → b ≡ b') → (a && b) ≡ (a' && b')
both {a' = a'} {b} {b'} e h = ap (λ (c : Bool). c && b) e ∙ go a' h
  where
    go : (c : Bool) → (c ≡ true → b ≡ b') → (c && b) ≡ (c && b')
    go true q = q refl
    go false q = refl

-- an empty list has no character
no_char : (m : ℕ) → cond {A = Result ℕ Refusal} (ltb m (length {A = ℕ} [])) (Ok (get_or [] m 0)) (Err Refusal.NotHere) ≡ Err Refusal.NotHere
no_char m = ap (λ (b : Bool). cond {A = Result ℕ Refusal} b (Ok (get_or [] m 0)) (Err Refusal.NotHere)) (le-ltb m 0 (omega arith))

-- ---- a descriptor that is there

-- a segmentation descriptor
module _ (s : List ℕ) (at : ℕ) (t : Trace) (h : Stands s at t) (kind : kind_of s at ≡ Kind.Segmentation) where
  reads : read segmentation_descriptor h.env (bit s) (8 * h.stop) (8 * (at + 6)) ≡ reached (8 * h.stop) h.body
  unfolding table_of
  reads = reads_as s at t h Kind.Segmentation kind

  segmented : segmentation_of t ≡ segmentation_at s (at + 6) (at + 2 + field_of s (8 * (at + 1)) 8)
  segmented =
      ap segmentation_of h.rows
      ∙ table.segmentation_told s at h.stop h.env h.body h.inside reads
      ∙ ap (segmentation_at s (at + 6)) h.ends

  components : look t "component_count" ≡ components_at s (at + 6)
  components =
      ap (λ (u : Trace). look u "component_count") h.rows ∙ table.count_of_components s at h.stop h.env h.body h.inside reads

  component : (m : ℕ) → m < components_at s (at + 6) → Component s t m (at + 13 + 6 * m)
  component m l =
      subst (λ (u : Trace). Component s u m (at + 13 + 6 * m)) (sym h.rows)
      (table.component_told s at h.stop h.env h.body h.inside reads m l)

  cancel : is_set t "segmentation_event_cancel_indicator" ≡ flag_of s (8 * (at + 10))
  cancel =
      ap (λ (u : Trace). is_set u "segmentation_event_cancel_indicator") h.rows
      ∙ table.cancel_told s at h.stop h.env h.body h.inside reads

  upid_part : flag_of s (8 * (at + 10)) ≡ false
      → ◌≡◌ {A = Part} (record { at = at + size (through "segmentation_upid_length" t) / 8; length = look t "segmentation_upid_length" })
      (record { at = upid_place s (at + 6) + 2; length = field_of s (8 * (upid_place s (at + 6) + 1)) 8 })
  upid_part kept =
      let u =
      subst (λ (x : Trace). UpidStands at x (upid_place s (at + 6) + 2) (field_of s (8 * (upid_place s (at + 6) + 1)) 8)) (sym h.rows)
      (table.upid_told s at h.stop h.env h.body h.inside reads kept) in
      let starts : at + size (through "segmentation_upid_length" t) / 8 ≡ upid_place s (at + 6) + 2 = omega (arith, u.starts) in
      λ i. record { at = starts i; length = u.long i }

module _ (s : List ℕ) (at : ℕ) (t : Trace) where
  pub descriptor_told : Stands s at t → descriptor_of t ≡ descriptor_at s at
  unfolding descriptor_of descriptor_at
  descriptor_told h =
      agree (is_tag_lem s at t h 0) (λ e i. Ok (Descriptor.Avail (avail_values s at t h (kind_is s at t h Kind.Avail e) i)))
      (agree (is_tag_lem s at t h 1)
      (λ e. let d = dtmf_values s at t h (kind_is s at t h Kind.Dtmf e) in λ i. Ok (Descriptor.Dtmf (d.preroll i) (d.count i)))
      (agree (is_tag_lem s at t h 2) (λ e. ap Ok (segmented s at t h (kind_is s at t h Kind.Segmentation e)))
      (agree (is_tag_lem s at t h 3)
      (λ e. let d = time_values s at t h (kind_is s at t h Kind.Time e) in λ i. Ok (Descriptor.Time (d.seconds i) (d.nanoseconds i) (d.offset i)))
      (agree (is_tag_lem s at t h 4) (λ e i. Ok (Descriptor.Audio (audio_count s at t h (kind_is s at t h Kind.Audio e) i))) refl))))

  pub upid_told : Stands s at t → upid_of at t ≡ upid_at s at
  unfolding upid_of upid_at
  upid_told h =
      let tag : Bool = eqb (tag_at s at) 2 in
      let cancelled : Bool = flag_of s (8 * (at + 10)) in
      agree (both (is_tag_lem s at t h 2) (λ e. ap not (cancel s at t h (kind_is s at t h Kind.Segmentation e))))
      (λ e.
      ap Ok
      (upid_part s at t h (kind_is s at t h Kind.Segmentation (and_left tag (not cancelled) e))
      (not-true cancelled (and_right tag (not cancelled) e))))
      refl

module _ (s : List ℕ) (at : ℕ) (t : Trace) (m : ℕ) where
  pub segmentation_component_told : Stands s at t → segmentation_component_of t m ≡ segmentation_component_at s at m
  unfolding segmentation_component_of segmentation_component_at
  segmentation_component_told h =
      let tag : Bool = eqb (tag_at s at) 2 in
      let count : ℕ = components_at s (at + 6) in
      agree (both (is_tag_lem s at t h 2) (λ e. ap (ltb m) (components s at t h (kind_is s at t h Kind.Segmentation e))))
      (λ e.
      let d =
      component s at t h (kind_is s at t h Kind.Segmentation (and_left tag (ltb m count) e)) m
      (ltb-true m count (and_right tag (ltb m count) e)) in
      λ i. Ok (record { component_tag = d.tag i; pts_offset = ticks (d.offset i) }))
      refl

  pub dtmf_told : Stands s at t → dtmf_char_of t m ≡ dtmf_char_at s at m
  unfolding dtmf_char_of dtmf_char_at
  dtmf_told h =
      ap (λ (b : Bool). chosen (cond b (all_of t "DTMF_char") [])) (is_tag_lem s at t h 1) ∙ go (eqb (tag_at s at) 1) refl
    where
      chosen : List ℕ → Result ℕ Refusal
      chosen cs = cond (ltb m (length cs)) (Ok (get_or cs m 0)) (Err Refusal.NotHere)

      go : (b : Bool) → eqb (tag_at s at) 1 ≡ b
          → chosen (cond b (all_of t "DTMF_char") [])
          ≡ cond (b && ltb m (field_of s (8 * (at + 7)) 3)) (Ok (field_of s (8 * (at + 8 + m)) 8)) (Err Refusal.NotHere)
      go true e =
          let d = dtmf_values s at t h (kind_is s at t h Kind.Dtmf e) in
          agree (ap (ltb m) d.long) (λ q i. Ok (d.char m (ltb-true m (field_of s (8 * (at + 7)) 3) q) i)) refl
      go false e = no_char m

  pub audio_told : Stands s at t → audio_component_of t m ≡ audio_component_at s at m
  unfolding audio_component_of audio_component_at
  audio_told h =
      let tag : Bool = eqb (tag_at s at) 4 in
      let count : ℕ = field_of s (8 * (at + 6)) 4 in
      agree (both (is_tag_lem s at t h 4) (λ e. ap (ltb m) (audio_count s at t h (kind_is s at t h Kind.Audio e))))
      (λ e.
      let d =
      audio_values s at t h (kind_is s at t h Kind.Audio (and_left tag (ltb m count) e)) m
      (ltb-true m count (and_right tag (ltb m count) e)) in
      λ i.
      Ok (record {
        component_tag = d.tag i;
        iso_code = d.code i;
        bit_stream_mode = d.mode i;
        num_channels = d.channels i;
        full_srvc_audio = eqb (d.full i) 1;
      }))
      refl

-- ---- no descriptor

pub none_descriptor : descriptor_of [] ≡ Err Refusal.NotHere
unfolding descriptor_of look
none_descriptor = refl

pub none_dtmf : (m : ℕ) → dtmf_char_of [] m ≡ Err Refusal.NotHere
unfolding dtmf_char_of look
none_dtmf m = no_char m

pub none_segmentation_component : (m : ℕ) → segmentation_component_of [] m ≡ Err Refusal.NotHere
unfolding segmentation_component_of look
none_segmentation_component m = refl

pub none_audio : (m : ℕ) → audio_component_of [] m ≡ Err Refusal.NotHere
unfolding audio_component_of look
none_audio m = refl

pub none_upid : (at : ℕ) → upid_of at [] ≡ Err Refusal.NotHere
unfolding upid_of look
none_upid at = refl
