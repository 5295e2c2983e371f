-- The field sheet, both ways: an accepted section's sheet gives back its very bytes, a sheet that is not refused makes an accepted
-- section that has it, and SHEET is answered exactly for the numbers that are the sheet of no accepted section.
-- Assumes nothing.
use mathlib.Core.Path.{◌≡◌, refl, sym, ap, ap₂, ◌∙◌, subst}
use mathlib.Core.Bool.{Bool, true, false, cond, not, ◌&&◌, false≢true}
use mathlib.Core.List.{List, [], ◌++◌}
use mathlib.Core.Logic.{⊎_elim}
use Prim.Native.Nat.{ℕ, zero, suc, ◌-◌, ◌*◌, ◌≤◌}
use native.Mathlib.Omega.{arith}
use lib.ListN.{length, take, drop, replicate}
use lib.Dec.{ltb}
use borrow.Author.Tests.{le-ltb}
use Rattle.bits.specs.Bits.{written_of, write_all}
use Rattle.bits.proofs.Cases.{by_cases, is_false, and_left, and_right}
use Rattle.bits.proofs.Bytes.{AreBytes}
use Rattle.bits.proofs.Fields.{written_bytes}
use Rattle.crc.specs.Crc.{crc32}
use Rattle.units.specs.declared.refusals.Refusal.TheVariants.{Sheet}
use Rattle.units.specs.declared.refusals.Refusal.{Refusal}
use Rattle.std.specs.Prelude.{Result, Ok, Err, is_ok}
use Rattle.units.specs.Answers.{answer, memory}
use Rattle.section.specs.Accept.{accept_of}
use Rattle.sheet.specs.Sheet.{sheet_of, fields_between, room_for, fitting, length_for, plan_for, filled, summed, section_of, same, is_sheet_of, section_row, to_section, to_section_into, to_sheet, to_sheet_into}
use Rattle.sheet_reading.proofs.Trace.{whole}
use Rattle.sheet_reading.proofs.SheetRows.{sheet_written}
use Rattle.sheet_matching.proofs.Same.{same_refl, same_true}
use Rattle.sheet.proofs.Back.{back, zero_bytes, all_bytes, front_bytes}

-- the bytes s are an accepted section with the sheet x
pub record Has (x s : List ℕ) : Type 0 where
  pub bytes : AreBytes s
  pub accepted : accept_of s ≡ Ok tt
  pub sheet : sheet_of s ≡ x

-- ---- the tests

accepted_true : (v : Result (Unit {0}) Refusal) → is_ok v ≡ true → v ≡ Ok tt
accepted_true (Ok u) e = refl
accepted_true (Err r) e = absurd (false≢true e)

passes : (x s : List ℕ) → accept_of s ≡ Ok tt → sheet_of s ≡ x → is_sheet_of x s ≡ true
unfolding is_sheet_of
passes x s a e = ap₂ ◌&&◌ (ap is_ok a) (ap (λ (l : List ℕ). same l x) e ∙ same_refl x)

passed : (x s : List ℕ) → is_sheet_of x s ≡ true → (accept_of s ≡ Ok tt) × (sheet_of s ≡ x)
unfolding is_sheet_of
passed x s e = (
  accepted_true (accept_of s) (and_left (is_ok (accept_of s)) (same (sheet_of s) x) e),
  same_true (sheet_of s) x (and_right (is_ok (accept_of s)) _ e),
)

-- what a sheet makes is bytes
filled_bytes : (x : List ℕ) (n : ℕ) (ws m : List ℕ) → AreBytes m → AreBytes (filled x n ws m)
unfolding filled
filled_bytes x n ws m h =
    let front : List (ℕ × ℕ) = fields_between 0 4 ws x in
    all_bytes (written_of (write_all m 0 front) 12 12 (n - 3)) 24 (fields_between 4 (length x) ws x)
    (written_bytes (write_all m 0 front) 12 12 (n - 3) (all_bytes m 0 front h))

made_bytes : (x : List ℕ) → AreBytes (section_of x)
unfolding section_of summed
made_bytes x = go (fitting x)
  where
    n : ℕ
    n = length_for x

    m : List ℕ
    m = filled x n (plan_for x).widths (replicate (room_for n 256 4096) 0)

    go : (b : Bool) → AreBytes (cond b (take n (summed n m)) [])
    go true =
        front_bytes n (summed n m)
        (written_bytes m (8 * (n - 4)) 32 (crc32 (take (n - 4) m)) (filled_bytes x n (plan_for x).widths (replicate (room_for n 256 4096) 0) (zero_bytes (room_for n 256 4096))))
    go false = λ i. omega arith

-- ---- there and back

-- (a) the sheet of an accepted section makes that section, byte for byte
pub section_sheet_section : (s : List ℕ) → AreBytes s → accept_of s ≡ Ok tt → section_of (sheet_of s) ≡ s
section_sheet_section s bytes a = back s bytes (whole s a)

-- and it is not refused
pub sheet_accepted : (s : List ℕ) → AreBytes s → accept_of s ≡ Ok tt → is_sheet_of (sheet_of s) (section_of (sheet_of s)) ≡ true
sheet_accepted s bytes a = subst (λ (l : List ℕ). is_sheet_of (sheet_of s) l ≡ true) (sym (section_sheet_section s bytes a)) (passes (sheet_of s) s a refl)

-- (b) what a sheet makes that is not refused is an accepted section, and has that sheet
pub sheet_section_sheet : (x : List ℕ) → is_sheet_of x (section_of x) ≡ true → Has x (section_of x)
sheet_section_sheet x e = let p = passed x (section_of x) e in record { bytes = made_bytes x; accepted = p.0; sheet = p.1 }

-- no two accepted sections have one sheet
pub one_section : (x s t : List ℕ) → Has x s → Has x t → s ≡ t
one_section x s t a b =
    sym (section_sheet_section s a.bytes a.accepted) ∙ ap section_of (a.sheet ∙ sym b.sheet)
    ∙ section_sheet_section t b.bytes b.accepted

-- ---- SHEET

-- x is the sheet of no accepted section
abbrev pub NoSection : List ℕ → Type 0
NoSection x = (s : List ℕ) → Has x s → ⊥

none_made : (x : List ℕ) → is_sheet_of x (section_of x) ≡ false → NoSection x
none_made x e s h =
    false≢true
    (sym e ∙ subst (λ (l : List ℕ). is_sheet_of l (section_of l) ≡ true) h.sheet (sheet_accepted s h.bytes h.accepted))

-- the row after SHEET
abbrev room_row : List ℕ → ℕ → ℕ
room_row s room = cond (ltb room (length s)) 11 0

abbrev row_of : Bool → ℕ → ℕ
row_of true n = n
row_of false n = 15

-- the first row of the two
first_row : (x : List ℕ) (room : ℕ) (b : Bool) → is_sheet_of x (section_of x) ≡ b → section_row x room ≡ row_of b (room_row (section_of x) room)
unfolding section_row
first_row x room b e = ap (λ (c : Bool). cond (not c) 15 (room_row (section_of x) room)) e ∙ turned b
  where
    turned : (c : Bool) → cond (not c) 15 (room_row (section_of x) room) ≡ row_of c (room_row (section_of x) room)
    turned true = refl
    turned false = refl

-- (c) the row is SHEET, 15, exactly when x is the sheet of no accepted section, whatever the room
pub sheet_row_lem : (x : List ℕ) (room : ℕ) → section_row x room ≡ 15 → NoSection x
sheet_row_lem x room e =
    ⊎_elim
    (λ q. absurd (other (ltb room (length (section_of x))) (sym (first_row x room true q) ∙ e)))
    (none_made x) (by_cases (is_sheet_of x (section_of x)))
  where
    other : (b : Bool) → ◌≡◌ {A = ℕ} (cond b 11 0) 15 → ⊥
    other true q = omega arith
    other false q = omega arith

pub row_sheet : (x : List ℕ) (room : ℕ) → NoSection x → section_row x room ≡ 15
row_sheet x room h = first_row x room false (is_false (is_sheet_of x (section_of x)) (λ e. h (section_of x) (sheet_section_sheet x e)))

-- the same of the answer
pub refused_sheet : (x out : List ℕ) → NoSection x → (to_section x out ≡ Err Sheet) × (to_section_into x out ≡ out)
unfolding to_section to_section_into
refused_sheet x out h =
    let e : section_row x (length out) ≡ 15 = row_sheet x (length out) h in
    (ap (λ (n : ℕ). answer n (length (section_of x))) e, ap (λ (n : ℕ). memory n (section_of x) out) e)

-- where there is room, the sheet of a section answers with that section
pub written_back : (s out : List ℕ) → AreBytes s → accept_of s ≡ Ok tt → length s ≤ length out
    → (to_section (sheet_of s) out ≡ Ok (length s)) × (to_section_into (sheet_of s) out ≡ s ++ drop (length s) out)
unfolding to_section to_section_into
written_back s out bytes a room =
    let x : List ℕ = sheet_of s in
    let e : section_of x ≡ s = section_sheet_section s bytes a in
    let row : section_row x (length out) ≡ 0 =
    first_row x (length out) true (sheet_accepted s bytes a)
    ∙ ap (λ (b : Bool). cond b 11 0) (ap (λ (l : List ℕ). ltb (length out) (length l)) e ∙ le-ltb (length out) (length s) room) in
    (ap₂ (λ (n : ℕ) (l : List ℕ). answer n (length l)) row e, ap₂ (λ (n : ℕ) (l : List ℕ). memory n l out) row e)

-- the mirror: a sheet that is not refused comes back from the section that it makes, where there is room
pub read_back : (x lent out : List ℕ) → (to_section x lent ≡ Err Sheet → ⊥) → length x ≤ length out
    → (to_sheet (section_of x) out ≡ Ok (length x)) × (to_sheet_into (section_of x) out ≡ x ++ drop (length x) out)
read_back x lent out h room =
    let has = sheet_section_sheet x (⊎_elim (λ q. q) (λ q. absurd (h (refused_sheet x lent (none_made x q)).0)) (by_cases (is_sheet_of x (section_of x)))) in
    let is = sheet_written (section_of x) out has.accepted (omega (arith, ap length has.sheet)) in (
      sym is.0 ∙ ap (λ (l : List ℕ). Ok (length l)) has.sheet,
      sym is.1 ∙ ap (λ (l : List ℕ). l ++ drop (length l) out) has.sheet,
    )

-- and a count is answered only for the sheet of a section, with that section's bytes in front
pub counted : (x out : List ℕ) (n : ℕ) → to_section x out ≡ Ok n
    → Has x (section_of x) × (n ≡ length (section_of x)) × (to_section_into x out ≡ section_of x ++ drop (length (section_of x)) out)
unfolding to_section to_section_into
counted x out n e =
    let row = no_row (section_row x (length out)) (length (section_of x)) n e in (
      sheet_section_sheet x (⊎_elim (λ q. q) (λ q. absurd (omega (arith, row.0, first_row x (length out) false q))) (by_cases (is_sheet_of x (section_of x)))),
      sym row.1,
      ap (λ (i : ℕ). memory i (section_of x) out) row.0,
    )
  where
    no_row : (row k m : ℕ) → answer row k ≡ Ok m → (row ≡ 0) × (k ≡ m)
    no_row zero k m q = (refl, cc)
    no_row (suc row) k m q = let z : ◌≡◌ {A = ℕ} 0 1 = cc in absurd (omega arith)
