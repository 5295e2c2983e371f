-- What the way from a section to its sheet answers, row by row, and what lent memory then holds.
-- Assumes nothing.
use mathlib.Core.Path.{◌≡◌, refl, sym, ap, ap₂}
use mathlib.Core.Bool.{Bool, true, false, cond}
use mathlib.Core.List.{List, ◌++◌}
use Prim.Native.Nat.{ℕ, zero, suc, ◌≤◌, ◌<◌}
use native.Mathlib.Omega.{arith}
use lib.ListN.{length, drop}
use lib.Dec.{ltb}
use Rattle.std.specs.Prelude.{Result, Ok, Err}
use borrow.Author.Tests.{lt-ltb, le-ltb}
use Rattle.units.specs.declared.refusals.Refusal.{Refusal}
use Rattle.units.specs.declared.refusals.Refusal.TheVariants.{Room}
use Rattle.units.specs.Answers.{answer, memory}
use Rattle.section.specs.Accept.{accept_row, verdict, accept_of}
use Rattle.section.proofs.Accepted.{accepted_row}
use Rattle.units.specs.Refusals.{or_else}
use Rattle.sheet_reading.specs.SheetOf.{sheet_of, sheet_row, to_sheet, to_sheet_into}

-- the verdict that refuses is that of a row
refused_row : (out : List ℕ) (r : Refusal) (row b n : ℕ) (l : List ℕ) → verdict row ≡ Err r
    → (Err r ≡ answer (or_else row b) n) × (out ≡ memory (or_else row b) l out)
unfolding verdict
refused_row out r zero b n l e = let z : ◌≡◌ {A = ℕ} 0 1 = cc in absurd (omega arith)
refused_row out r (suc row) b n l e = (ap Err cc, refl)

module _ (s out : List ℕ) where
  -- the answer for a row
  to_sheet_lem : (row : ℕ) → sheet_row s (length out) ≡ row
      → (answer row (length (sheet_of s)) ≡ to_sheet s out) × (memory row (sheet_of s) out ≡ to_sheet_into s out)
  unfolding to_sheet to_sheet_into
  to_sheet_lem row e = (ap (λ (n : ℕ). answer n (length (sheet_of s))) (sym e), ap (λ (n : ℕ). memory n (sheet_of s) out) (sym e))

  -- a refused section
  pub not_accepted : (r : Refusal) → accept_of s ≡ Err r → (Err r ≡ to_sheet s out) × (out ≡ to_sheet_into s out)
  unfolding to_sheet to_sheet_into sheet_row accept_of
  not_accepted r e = refused_row out r (accept_row s) _ (length (sheet_of s)) (sheet_of s) e

  -- an accepted one, with too little room and with enough
  room_row : accept_of s ≡ Ok tt → (b : Bool) → ltb (length out) (length (sheet_of s)) ≡ b → sheet_row s (length out) ≡ cond b 11 0
  unfolding sheet_row
  room_row a b e = ap₂ (λ (row : ℕ) (t : Bool). or_else row (cond t 11 0)) (accepted_row s a) e

  pub no_room : accept_of s ≡ Ok tt → length out < length (sheet_of s) → (Err Room ≡ to_sheet s out) × (out ≡ to_sheet_into s out)
  no_room a h = to_sheet_lem 11 (room_row a true (lt-ltb _ _ h))

  pub sheet_written : accept_of s ≡ Ok tt → length (sheet_of s) ≤ length out
      → (Ok (length (sheet_of s)) ≡ to_sheet s out) × (sheet_of s ++ drop (length (sheet_of s)) out ≡ to_sheet_into s out)
  sheet_written a h = to_sheet_lem 0 (room_row a false (le-ltb _ _ h))

-- ---- by the acceptance of the section, to rewrite by

-- the refusal of a section that is none, or else what there is
abbrev pub if_section : {A : Type 0} → Result (Unit {0}) Refusal → (Refusal → A) → A → A
if_section (Ok u) refuse there = there
if_section (Err r) refuse there = refuse r

module _ (s out : List ℕ) where
  pub sheet_by : to_sheet s out ≡ if_section (accept_of s) Err (to_sheet s out)
  sheet_by = go (accept_of s) refl
    where
      go : (v : Result (Unit {0}) Refusal) → accept_of s ≡ v → to_sheet s out ≡ if_section v Err (to_sheet s out)
      go (Ok u) e = refl
      go (Err r) e = sym (not_accepted s out r e).0

  pub into_by : to_sheet_into s out ≡ if_section (accept_of s) (λ r. out) (to_sheet_into s out)
  into_by = go (accept_of s) refl
    where
      go : (v : Result (Unit {0}) Refusal) → accept_of s ≡ v → to_sheet_into s out ≡ if_section v (λ r. out) (to_sheet_into s out)
      go (Ok u) e = refl
      go (Err r) e = sym (not_accepted s out r e).1

pub ruleset by_acceptance = (sheet_by, into_by)
