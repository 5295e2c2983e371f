-- The fields that are read at fixed places of an open section: pts_adjustment and splice_command_type.
-- Assumes nothing.
use mathlib.Core.Path.{◌≡◌, ap}
use mathlib.Core.Bool.{true, false}
use mathlib.Core.List.{List, [], ◌∷◌}
use mathlib.Core.Logic.{⊎_elim}
use Prim.Native.Nat.{ℕ, ◌≤◌}
use native.Mathlib.Omega.{arith}
use lib.ListN.{length}
use borrow.Author.Tests.{ne_eqb}
use Rattle.std.specs.Prelude.{Ok}
use Rattle.bits.specs.Bits.{field_of}
use Rattle.bits.proofs.Cases.{le_or_lt}
use Rattle.bits.proofs.Within.{field_there}
use Rattle.grammar.specs.Meaning.{values, is_among}
use Rattle.grammar.specs.Names.{look}
use Rattle.descriptors.specs.declared.Cursor.{Cursor}
use Rattle.section.specs.Accept.{the}
use Rattle.section.proofs.Accepted.{accepted}
use Rattle.opening.specs.First.{open_of}
use Rattle.opening.proofs.Asked.{is_open}
use Rattle.command_reading.specs.Command.{typed, command_trace}

module _ (s : List ℕ) (c : Cursor) (e : open_of s ≡ Ok c) where
  long : 20 ≤ length s
  long = (accepted s (is_open s c e).allowed).long

  pub adjustment_there : field_of s 39 33 ≡ the s "pts_adjustment"
  unfolding the
  adjustment_there = field_there s 39 33 (omega arith) (omega (arith, long))

  pub type_there : field_of s 104 8 ≡ look (command_trace s) "splice_command_type"
  unfolding command_trace typed values look
  type_there = field_there s 104 8 (omega arith) (omega (arith, long))

-- ---- the two types of the first DVB check, as the code tests them

pub of_two : (x : ℕ) → 5 ≤ x → x ≤ 6 → is_among x (0x05 ∷ 0x06 ∷ []) ≡ true
of_two x h l =
    ⊎_elim
    (λ m.
    let five : x ≡ 5 = omega arith in
    ap (λ (y : ℕ). is_among y (0x05 ∷ 0x06 ∷ [])) five)
    (λ m.
    let six : x ≡ 6 = omega arith in
    ap (λ (y : ℕ). is_among y (0x05 ∷ 0x06 ∷ [])) six)
    (le_or_lt x 5)

pub of_neither : (x : ℕ) → (x ≡ 5 → ⊥) → (x ≡ 6 → ⊥) → is_among x (0x05 ∷ 0x06 ∷ []) ≡ false
of_neither x h l = rw (ne_eqb x 5 h, ne_eqb x 6 l)
