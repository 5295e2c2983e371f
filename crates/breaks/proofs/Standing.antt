-- What the walk reads where a descriptor stands: one that opens no break and carries no duration is as none, and of another the
-- parts stand at their places.
-- Assumes nothing.
use mathlib.Core.Path.{◌≡◌, refl, sym, ap, ◌∙◌, subst}
use mathlib.Core.Bool.{Bool, true, false, not, cond, ◌&&◌, false≢true}
use mathlib.Core.List.{List, ◌∷◌}
use Prim.Native.Nat.{ℕ, ◌+◌, ◌*◌, ◌≤◌}
use native.Mathlib.Omega.{arith}
use lib.ListN.{length}
use borrow.Author.Tests.{not-true, not-false}
use Rattle.std.specs.Prelude.{Option, None, Ok}
use Rattle.bits.specs.Bits.{field_of, flag_of}
use Rattle.units.specs.Clock.{event_id}
use Rattle.descriptors.specs.declared.Cursor.{Cursor}
use Rattle.descriptors.specs.declared.Kind.{Kind}
use Rattle.descriptors.specs.Walk.{kind_of}
use Rattle.descriptors.specs.Loop.{trace_at}
use Rattle.descriptors.proofs.Filled.{Going, following}
use Rattle.known_walk.specs.Known.{is_known}
use Rattle.known_walk.proofs.Stands.{stands}
use Rattle.segmentation_reading.specs.Places.{duration_at, uncancelled_at}
use Rattle.descriptor_reading.specs.declared.answers.Descriptor.{Descriptor}
use Rattle.descriptor_reading.specs.Descriptor.{descriptor_of}
use Rattle.descriptor_reading.specs.Places.{tag_at, segmentation_at, descriptor_at}
use Rattle.descriptor_reading.proofs.Tags.{tag_of, tag_is}
use Rattle.descriptor_reading.proofs.Told.{descriptor_told}
use Rattle.breaks.specs.declared.signal.Measure.{Measure}
use Rattle.breaks.specs.declared.signal.Signal.{Signal}
use Rattle.breaks.specs.Signals.{Reading, opens, measure_of, carried, longer, is_segmentation, uncancelled, opens_at, with_one}
use Rattle.breaks.proofs.Left.{left, known_left, unknown_left}
use Rattle.breaks.proofs.Longest.{Found, one_more, with_other, with_opening, with_idle}

-- a descriptor that opens no break and carries no duration
abbrev Idle : Reading → Type 0
Idle d = (opens d ≡ false) × (carried d ≡ None)

-- ---- by the place

module _ (s : List ℕ) (at : ℕ) where
  -- where it ends
  abbrev pub stop : ℕ
  stop = at + 2 + field_of s (8 * (at + 1)) 8

  cancel_place : 8 * (at + 6 + 4) ≡ 8 * (at + 10)
  cancel_place = omega arith

  -- a segmentation descriptor, by whether it is cancelled
  by_cancel : (b : Bool) → flag_of s (8 * (at + 10)) ≡ b
      → segmentation_at s (at + 6) stop
      ≡ cond b (Descriptor.CancelledSegmentation (event_id (field_of s (8 * (at + 6)) 32))) (Descriptor.Segmentation (uncancelled_at s (at + 6) stop))
  unfolding segmentation_at
  by_cancel b e =
      ap (λ (x : Bool). cond x (Descriptor.CancelledSegmentation (event_id (field_of s (8 * (at + 6)) 32))) (Descriptor.Segmentation (uncancelled_at s (at + 6) stop)))
      (ap (flag_of s) cancel_place ∙ e)

  segmentation_there : tag_at s at ≡ 2 → descriptor_at s at ≡ Ok (segmentation_at s (at + 6) stop)
  unfolding descriptor_at
  segmentation_there e = rw e

  idle : (k : Kind) → tag_at s at ≡ tag_of k → (is_segmentation k && not (flag_of s (8 * (at + 10)))) ≡ false → Idle (descriptor_at s at)
  unfolding descriptor_at
  idle Kind.Avail e h = rw e (refl, refl)
  idle Kind.Dtmf e h = rw e (refl, refl)
  idle Kind.Time e h = rw e (refl, refl)
  idle Kind.Audio e h = rw e (refl, refl)
  idle Kind.Unknown e h = rw e (refl, refl)
  idle Kind.Segmentation e h = subst Idle (sym (segmentation_there e ∙ ap Ok (by_cancel true (not-false _ h)))) (refl, refl)

-- ---- in the loop

module _ (s : List ℕ) (c : Cursor) (fits : length s ≤ 4096) (here : Going s c) where
  module _ (known : is_known (kind_of s c.at) ≡ true) where
    told : descriptor_of (trace_at s c) ≡ descriptor_at s c.at
    told = descriptor_told s c.at (trace_at s c) (stands s c _ _ fits here.steps known)

    tag : tag_at s c.at ≡ tag_of (kind_of s c.at)
    tag = tag_is s c.at (trace_at s c) (stands s c _ _ fits here.steps known)

    first : left s c ≡ descriptor_at s c.at ∷ left s (following s c)
    first = known_left s c _ _ here.steps known ∙ ap (λ (d : Reading). d ∷ left s (following s c)) told

  -- a descriptor that is not asked is passed by
  pub passed : (g : Signal) (all : List Reading) → uncancelled s c.at ≡ false → Found g (left s c) all → Found g (left s (following s c)) all
  passed g all h found = go (is_known (kind_of s c.at)) refl
    where
      go : (b : Bool) → is_known (kind_of s c.at) ≡ b → Found g (left s (following s c)) all
      go false e = subst (λ (ds : List Reading). Found g ds all) (unknown_left s c _ _ here.steps e) found
      go true e =
          let d = descriptor_at s c.at in
          let none = idle s c.at (kind_of s c.at) (tag e) h in
          subst (λ (x : Signal). Found x (left s (following s c)) all) (with_idle g d none.0 none.1)
          (one_more g d (left s (following s c)) all (subst (λ (ds : List Reading). Found g ds all) (first e) found))

  -- and one that is asked stands by its parts
  pub asked_first : uncancelled s c.at ≡ true
      → left s c ≡ Ok (Descriptor.Segmentation (uncancelled_at s (c.at + 6) (stop s c.at))) ∷ left s (following s c)
  asked_first h = go (kind_of s c.at) refl h
    where
      go : (k : Kind) → kind_of s c.at ≡ k → (is_segmentation k && not (flag_of s (8 * (c.at + 10)))) ≡ true
          → left s c ≡ Ok (Descriptor.Segmentation (uncancelled_at s (c.at + 6) (stop s c.at))) ∷ left s (following s c)
      go Kind.Avail e q = absurd (false≢true q)
      go Kind.Dtmf e q = absurd (false≢true q)
      go Kind.Time e q = absurd (false≢true q)
      go Kind.Audio e q = absurd (false≢true q)
      go Kind.Unknown e q = absurd (false≢true q)
      go Kind.Segmentation e q =
          let known : is_known (kind_of s c.at) ≡ true = ap is_known e in
          first known
          ∙ ap (λ (d : Reading). d ∷ left s (following s c)) (segmentation_there s c.at (tag known ∙ ap tag_of e))
          ∙ ap (λ (d : Descriptor). Ok d ∷ left s (following s c)) (by_cancel s c.at false (not-true _ q))

  -- what was found with it
  module _ (h : uncancelled s c.at ≡ true) (g : Signal) (all : List Reading) (found : Found g (left s c) all) {m l : Option Measure}
      (is-measure : m ≡ measure_of (event_id (field_of s (8 * (c.at + 6)) 32)) (duration_at s (c.at + 6))) (is-longest : l ≡ longer g.longest m) where
    here_stands : Reading
    here_stands = Ok (Descriptor.Segmentation (uncancelled_at s (c.at + 6) (stop s c.at)))

    more : Found (with_one g here_stands) (left s (following s c)) all
    unfolding here_stands
    more =
        one_more g (Ok (Descriptor.Segmentation (uncancelled_at s (c.at + 6) (stop s c.at)))) (left s (following s c)) all
        (subst (λ (ds : List Reading). Found g ds all) (asked_first h) found)

    pub with_break : {b : Option Measure} → opens_at s (c.at + 6) ≡ true → b ≡ longer g.billed m
        → Found (record { opened = true; billed = b; longest = l }) (left s (following s c)) all
    unfolding here_stands uncancelled_at
    with_break {b} e is-billed =
        subst (λ (x : Signal). Found x (left s (following s c)) all) (sym (with_opening g here_stands is-measure is-longest e is-billed)) more

    pub without_break : opens_at s (c.at + 6) ≡ false
        → Found (record { opened = g.opened; billed = g.billed; longest = l }) (left s (following s c)) all
    unfolding here_stands uncancelled_at
    without_break e = subst (λ (x : Signal). Found x (left s (following s c)) all) (sym (with_other g here_stands is-measure is-longest e)) more
