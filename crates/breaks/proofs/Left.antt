-- What is still to be walked of an open section's known descriptors, by the step at the cursor.
-- Assumes nothing.
use mathlib.Core.Path.{◌≡◌, sym, ap}
use mathlib.Core.Bool.{true, false}
use mathlib.Core.List.{List, [], ◌∷◌}
use Prim.Native.Nat.{ℕ, ◌≤◌}
use lib.ListN.{length}
use Rattle.std.specs.Prelude.{Some, None, Ok}
use Rattle.descriptors.specs.declared.Cursor.{Cursor}
use Rattle.descriptors.specs.declared.Kind.{Kind}
use Rattle.descriptors.specs.Walk.{step_of}
use Rattle.descriptors.specs.Loop.{walked, trace_at}
use Rattle.known_walk.specs.Known.{is_known, known_among}
use Rattle.descriptor_reading.specs.Descriptor.{descriptor_of}
use Rattle.known_walk.proofs.KnownAmong.{known_first, unknown_first, none_left, in_section}
use Rattle.breaks.specs.Signals.{Reading, read_at, known_readings}

abbrev pub left : List ℕ → Cursor → List Reading
left s c = read_at s (known_among s (walked s c))

module _ (s : List ℕ) (c : Cursor) where
  pub all_left : length s ≤ 4096 → left s c ≡ known_readings s c
  unfolding known_readings
  all_left h = ap (read_at s) (sym (in_section s c h))

  pub known_left : (kind : Kind) (next : Cursor) → step_of s c ≡ Ok (Some (kind, next)) → is_known kind ≡ true
      → left s c ≡ descriptor_of (trace_at s c) ∷ left s next
  unfolding read_at
  known_left kind next e k = ap (read_at s) (known_first s c kind next e k)

  pub unknown_left : (kind : Kind) (next : Cursor) → step_of s c ≡ Ok (Some (kind, next)) → is_known kind ≡ false → left s c ≡ left s next
  unknown_left kind next e k = ap (read_at s) (unknown_first s c kind next e k)

  pub done_left : step_of s c ≡ Ok None → left s c ≡ []
  unfolding read_at
  done_left e = ap (read_at s) (none_left s c e)
