-- The label among the known descriptors that are still to be walked, by the step at the cursor.
-- Assumes nothing.
use mathlib.Core.Path.{◌≡◌, sym, ap, ◌∙◌}
use mathlib.Core.Bool.{Bool, true, false, cond}
use mathlib.Core.List.{List}
use Prim.Native.Nat.{ℕ, ◌≤◌, ◌<◌}
use lib.ListN.{length}
use borrow.Author.Tests.{lt-ltb, le-ltb}
use Rattle.std.specs.Prelude.{Option, Some, None, Result, Ok, Err}
use Rattle.units.specs.declared.refusals.Refusal.{Refusal}
use Rattle.descriptors.specs.declared.Cursor.{Cursor}
use Rattle.descriptors.specs.declared.Kind.{Kind}
use Rattle.descriptors.specs.Walk.{step_of}
use Rattle.descriptors.specs.Loop.{walked}
use Rattle.descriptor_reading.specs.declared.answers.Part.{Part}
use Rattle.known_walk.specs.Known.{is_known, known_among, known_cursors}
use Rattle.descriptor_reading.specs.Descriptor.{standing_upid, upid_of}
use Rattle.known_walk.proofs.KnownAmong.{known_first, unknown_first, none_left, none_whole, in_section, too_long}
use Rattle.known_walk.proofs.StandingRows.{known_here}
use Rattle.labels.specs.Labels.{labelled, label_at}

abbrev pub label_left : List ℕ → Cursor → Option Part
label_left s c = label_at s (known_among s (walked s c))

module _ (s : List ℕ) (c : Cursor) where
  pub all_labels : length s ≤ 4096 → label_left s c ≡ label_at s (known_cursors s c)
  all_labels h = ap (label_at s) (sym (in_section s c h))

  pub no_label : 4096 < length s → None ≡ label_at s (known_cursors s c)
  unfolding label_at
  no_label h = sym (ap (label_at s) (too_long s c h))

  pub unknown_label : (kind : Kind) (next : Cursor) → step_of s c ≡ Ok (Some (kind, next)) → is_known kind ≡ false → label_left s c ≡ label_left s next
  unknown_label kind next e k = ap (label_at s) (unknown_first s c kind next e k)

  pub done_label : step_of s c ≡ Ok None → label_left s c ≡ None
  unfolding label_at
  done_label e = ap (label_at s) (none_left s c e)

  pub broken_label : (refusal : Refusal) → step_of s c ≡ Err refusal → label_left s c ≡ None
  unfolding label_at
  broken_label refusal e = ap (label_at s) (none_whole s c refusal e)

-- at a known descriptor, by its UPID
module _ (s : List ℕ) (c : Cursor) (kind : Kind) (next : Cursor) (h : length s ≤ 4096) (e : step_of s c ≡ Ok (Some (kind, next))) (k : is_known kind ≡ true) where
  by_upid : (u : Result Part Refusal) → standing_upid s c ≡ u → label_left s c ≡ labelled u (label_left s next)
  unfolding label_at standing_upid
  by_upid u q =
      ap (label_at s) (known_first s c kind next e k)
      ∙ ap (λ (x : Result Part Refusal). labelled x (label_left s next)) (ap (upid_of c.at) (sym (known_here s c kind next h e k)) ∙ q)

  pub label_here : (part : Part) → standing_upid s c ≡ Ok part → 0 < part.length → label_left s c ≡ Some part
  label_here part q l = by_upid (Ok part) q ∙ ap (λ (b : Bool). cond b (Some part) (label_left s next)) (lt-ltb 0 part.length l)

  pub empty_here : (part : Part) → standing_upid s c ≡ Ok part → part.length ≤ 0 → label_left s c ≡ label_left s next
  empty_here part q l = by_upid (Ok part) q ∙ ap (λ (b : Bool). cond b (Some part) (label_left s next)) (le-ltb 0 part.length l)

  pub no_upid_here : (r : Refusal) → standing_upid s c ≡ Err r → label_left s c ≡ label_left s next
  no_upid_here r q = by_upid (Err r) q
