-- The part that is a bill label is not empty and lies inside the section.
-- Assumes nothing.
use mathlib.Core.Path.{◌≡◌, refl, sym, ap, ◌∙◌}
use mathlib.Core.Bool.{Bool, true, false, cond}
use mathlib.Core.List.{List, [], ◌∷◌}
use Prim.Native.Nat.{ℕ, ◌+◌, ◌≤◌, ◌<◌}
use native.Mathlib.Omega.{arith}
use lib.ListN.{length}
use lib.Dec.{ltb}
use borrow.Author.Tests.{ltb-true}
use Rattle.std.specs.Prelude.{Option, Some, None, Result, Ok, Err}
use Rattle.units.specs.declared.refusals.Refusal.{Refusal}
use Rattle.descriptors.specs.declared.Cursor.{Cursor}
use Rattle.descriptors.specs.Loop.{trace_at}
use Rattle.opening.specs.First.{open_of}
use Rattle.descriptor_reading.specs.declared.answers.Part.{Part}
use Rattle.known_walk.specs.Known.{known_cursors}
use Rattle.descriptor_reading.specs.Descriptor.{upid_of}
use Rattle.known_walk.proofs.EachStands.{AllStand, each_stands}
use Rattle.descriptor_reading.proofs.UpidPart.{standing_within}
use Rattle.opening.proofs.Asked.{when_open, when_refused}
use Rattle.labels.specs.Labels.{labelled, label_at, bill_label}

-- the house's name is no part
not_house : {A : Type 0} {part : Part} → None ≡ Some part → A
not_house e = let z : ◌≡◌ {A = ℕ} 0 1 = cc in absurd (omega arith)

module _ (s : List ℕ) (part : Part) where
  -- what is said of the part
  record Within : Type 0 where
    some : 0 < part.length
    inside : part.at + part.length ≤ length s

  -- a UPID or another label
  one_within : (u : Result Part Refusal) (other : Option Part) → ((x : Part) → u ≡ Ok x → x.at + x.length ≤ length s) → (other ≡ Some part → Within)
      → labelled u other ≡ Some part → Within
  one_within (Ok x) other inside rest = pick (ltb 0 x.length) refl
    where
      pick : (b : Bool) → ltb 0 x.length ≡ b → cond b (Some x) other ≡ Some part → Within
      pick true l e =
          let same : x ≡ part = cc in
          let starts : x.at ≡ part.at = ap (λ (y : Part). y.at) same in
          let long : x.length ≡ part.length = ap (λ (y : Part). y.length) same in
          record { some = omega (arith, ltb-true 0 x.length l); inside = omega (arith, inside x refl) }
      pick false l e = rest e
  one_within (Err r) other inside rest = rest

  each_within : (cs : List Cursor) → AllStand s cs → label_at s cs ≡ Some part → Within
  unfolding label_at
  each_within [] h e = not_house e
  each_within (c ∷ cs) h e =
      one_within (upid_of c.at (trace_at s c)) (label_at s cs) (λ x q. standing_within s c.at (trace_at s c) x.at x.length h.0 q) (each_within cs h.1) e

  within : bill_label s ≡ Some part → Within
  unfolding bill_label
  within e = go (open_of s) refl
    where
      go : (o : Result Cursor Refusal) → open_of s ≡ o → Within
      go (Ok c) h = each_within (known_cursors s c) (each_stands s c) (sym (when_open (λ r. None) (λ d. label_at s (known_cursors s d)) c h) ∙ e)
      go (Err r) h = not_house (sym (when_refused (λ q. None) (λ d. label_at s (known_cursors s d)) r h) ∙ e)

  pub label_within : bill_label s ≡ Some part → part.at + part.length ≤ length s
  label_within e = (within e).inside

  pub label_some : bill_label s ≡ Some part → 0 < part.length
  label_some e = (within e).some
