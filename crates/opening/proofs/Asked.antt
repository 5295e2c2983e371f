-- Whether a section can be asked, by cases: refused, sealed, or open at its first descriptor.
-- Assumes nothing.
use mathlib.Core.Path.{◌≡◌, refl, sym, ap, ◌∙◌}
use mathlib.Core.Bool.{Bool, true, false}
use mathlib.Core.List.{List, [], ◌∷◌}
use Prim.Native.Nat.{ℕ, zero, suc}
use native.Mathlib.Omega.{arith}
use lib.Dec.{eqb}
use Rattle.std.specs.Prelude.{Option, Result, Ok, Err, ok_or}
use Rattle.std.specs.Result.{result_unwrap_or}
use Rattle.units.specs.declared.refusals.Refusal.{Refusal}
use Rattle.units.specs.Refusals.{named, first, or_else}
use Rattle.descriptors.specs.declared.Cursor.{Cursor}
use Rattle.commands.specs.Command.{command_end}
use Rattle.section.specs.Accept.{the, accept_row, verdict, accept_of}
use Rattle.section.specs.Judge.{nowhere, loop_from, judgement, judge_of}
use Rattle.opening.specs.First.{first_cursor, open_row, opened, open_of, asked}
use Rattle.section.proofs.Accepted.{accepted_row}
use Rattle.opening.proofs.Start.{no_section, when_sealed, when_clear}

-- a row that refuses the section refuses the question
same_row : (n m : ℕ) (r : Refusal) (c : Cursor) → verdict n ≡ Err r → opened (or_else n m) c ≡ Err r
unfolding verdict opened
same_row zero m r c e = let z : ◌≡◌ {A = ℕ} 0 1 = cc in absurd (omega arith)
same_row (suc n) m r c e =
    let same : named (suc n) ≡ r = cc in
    ap Err same

module _ (s : List ℕ) where
  pub refused_open : (r : Refusal) → accept_of s ≡ Err r → open_of s ≡ Err r
  unfolding accept_of open_of open_row
  refused_open r e = same_row (accept_row s) (first ((eqb (the s "encrypted_packet") 1, 17) ∷ [])) r (first_cursor s) e

  module _ (e : accept_of s ≡ Ok tt) where
    sealed_or_not : (b : Bool) → eqb (the s "encrypted_packet") 1 ≡ b → open_of s ≡ opened (first ((b, 17) ∷ [])) (first_cursor s)
    unfolding open_of open_row
    sealed_or_not b h =
        ap (λ (n : ℕ). opened (or_else n (first ((eqb (the s "encrypted_packet") 1, 17) ∷ []))) (first_cursor s)) (accepted_row s e)
        ∙ ap (λ (t : Bool). opened (first ((t, 17) ∷ [])) (first_cursor s)) h

    pub sealed_open : eqb (the s "encrypted_packet") 1 ≡ true → open_of s ≡ Err Refusal.Sealed
    unfolding opened
    sealed_open h = sealed_or_not true h

    pub open_first : eqb (the s "encrypted_packet") 1 ≡ false → open_of s ≡ Ok (first_cursor s)
    unfolding opened
    open_first h = sealed_or_not false h

  -- what an open section says: it is accepted and not sealed, and the cursor is that of its first descriptor
  pub record IsOpen (c : Cursor) : Type 0 where
    pub allowed : accept_of s ≡ Ok tt
    pub clear : eqb (the s "encrypted_packet") 1 ≡ false
    pub cursor : c ≡ first_cursor s

  pub is_open : (c : Cursor) → open_of s ≡ Ok c → IsOpen c
  is_open c e = go (accept_of s) refl
    where
      by_seal : (b : Bool) → eqb (the s "encrypted_packet") 1 ≡ b → accept_of s ≡ Ok tt → IsOpen c
      by_seal true h a = let q = sym e ∙ sealed_open a h in let z : ◌≡◌ {A = ℕ} 0 1 = cc in absurd (omega arith)
      by_seal false h a =
          let q = sym e ∙ open_first a h in
          let same : c ≡ first_cursor s = cc in
          record { allowed = a; clear = h; cursor = same }

      go : (v : Result (Unit {0}) Refusal) → accept_of s ≡ v → IsOpen c
      go (Ok u) a = by_seal (eqb (the s "encrypted_packet") 1) refl a
      go (Err r) a = let q = sym e ∙ refused_open r a in let z : ◌≡◌ {A = ℕ} 0 1 = cc in absurd (omega arith)

  -- a section that cannot be asked has no first descriptor
  pub not_open : (r : Refusal) → open_of s ≡ Err r → first_cursor s ≡ nowhere
  not_open r e = go (accept_of s) refl
    where
      by_seal : (b : Bool) → eqb (the s "encrypted_packet") 1 ≡ b → accept_of s ≡ Ok tt → first_cursor s ≡ nowhere
      by_seal true h a = when_sealed s a h
      by_seal false h a = let q = sym e ∙ open_first a h in let z : ◌≡◌ {A = ℕ} 0 1 = cc in absurd (omega arith)

      go : (v : Result (Unit {0}) Refusal) → accept_of s ≡ v → first_cursor s ≡ nowhere
      go (Ok u) a = by_seal (eqb (the s "encrypted_packet") 1) refl a
      go (Err q) a = no_section s q a

  -- so the answer of opening gives it, or none
  pub cursor_or_none : (o : Result Cursor Refusal) → o ≡ open_of s → result_unwrap_or o nowhere ≡ first_cursor s
  cursor_or_none (Ok c) e = (is_open c (sym e)).cursor
  cursor_or_none (Err r) e = sym (not_open r (sym e))

-- the same, to rewrite by
pub first_by : (s : List ℕ) → first_cursor s ≡ result_unwrap_or (open_of s) nowhere
first_by s = sym (cursor_or_none s (open_of s) refl)

-- ---- by what acceptance came upon

-- the judgement of a section as the answer of opening it
abbrev pub opened_as : Result (Option Cursor) Refusal → Result Cursor Refusal
opened_as (Ok found) = ok_or found Refusal.Sealed
opened_as (Err r) = Err r

judged_as : (s : List ℕ) (v : Result (Unit {0}) Refusal) → accept_of s ≡ v
    → judge_of s ≡ judgement v (eqb (the s "encrypted_packet") 1) (loop_from s (command_end s))
unfolding judge_of
judged_as s v e = ap (λ (x : Result (Unit {0}) Refusal). judgement x (eqb (the s "encrypted_packet") 1) (loop_from s (command_end s))) e

pub by_judgement : (s : List ℕ) → opened_as (judge_of s) ≡ open_of s
by_judgement s = go (accept_of s) refl
  where
    c : Cursor
    c = loop_from s (command_end s)

    clear_or_not : (b : Bool) → eqb (the s "encrypted_packet") 1 ≡ b → accept_of s ≡ Ok tt → opened_as (judgement (Ok tt) b c) ≡ open_of s
    clear_or_not true h a = sym (sealed_open s a h)
    clear_or_not false h a = sym (open_first s a h ∙ ap Ok (when_clear s a h))

    go : (v : Result (Unit {0}) Refusal) → accept_of s ≡ v → opened_as (judge_of s) ≡ open_of s
    go (Ok u) a = ap opened_as (judged_as s (Ok tt) a) ∙ clear_or_not (eqb (the s "encrypted_packet") 1) refl a
    go (Err r) a = ap opened_as (judged_as s (Err r) a) ∙ sym (refused_open s r a)

-- the same, to rewrite by
pub open_by : (s : List ℕ) → open_of s ≡ opened_as (judge_of s)
open_by s = sym (by_judgement s)

-- ---- the answer of a question

pub when_open : {A : Type 0} (refuse : Refusal → A) (answer : Cursor → A) {o : Result Cursor Refusal} (c : Cursor) → o ≡ Ok c → asked o refuse answer ≡ answer c
unfolding asked
when_open refuse answer c e = ap (λ (x : Result Cursor Refusal). asked x refuse answer) e

pub when_refused : {A : Type 0} (refuse : Refusal → A) (answer : Cursor → A) {o : Result Cursor Refusal} (r : Refusal) → o ≡ Err r
    → asked o refuse answer ≡ refuse r
unfolding asked
when_refused refuse answer r e = ap (λ (x : Result Cursor Refusal). asked x refuse answer) e
