-- What the way from a sheet to its section answers, row by row, and what lent memory then holds.
-- Assumes nothing.
use mathlib.Core.Path.{◌≡◌, refl, sym, ap, ap₂, ◌∙◌}
use mathlib.Core.Bool.{Bool, true, false, cond, not, ◌&&◌}
use mathlib.Core.List.{List, [], ◌++◌}
use Prim.Native.Nat.{ℕ, ◌+◌, ◌≤◌, ◌<◌}
use native.Mathlib.Omega.{arith}
use lib.ListN.{length, take, drop, replicate}
use lib.Dec.{leb, ltb, eqb}
use borrow.Author.Tests.{le-leb, leb-true, leb-false, lt-ltb, le-ltb, eq-eqb, eqb-true}
use Rattle.bits.proofs.Cases.{is_false, and_left, and_right}
use Rattle.units.specs.declared.refusals.Refusal.TheVariants.{Room, Sheet}
use Rattle.units.specs.declared.refusals.Refusal.{Refusal}
use Rattle.std.specs.Prelude.{Result, Ok, Err}
use Rattle.units.specs.Answers.{answer, memory}
use Rattle.units.specs.Put.{fits, put_into}
use Rattle.units.proofs.Put.{at_front, unchanged}
use Rattle.section.specs.Accept.{accept_row, verdict, accept_of}
use Rattle.sheet.specs.Sheet.{plan_for, length_for, fitting, filled, summed, section_of, is_sheet_of, room_for, row_for, Judged, section_row, to_section, to_section_into}

-- no bytes are no section
nothing : (x : List ℕ) → is_sheet_of x [] ≡ false
unfolding is_sheet_of accept_of accept_row verdict
nothing x = refl

-- numbers that do not fit make no section
unfit : (x : List ℕ) → fitting x ≡ false → is_sheet_of x (section_of x) ≡ false
unfolding section_of
unfit x e =
    ap (λ (b : Bool). is_sheet_of x (cond b (take (length_for x) (summed (length_for x) (filled x (length_for x) (plan_for x).widths (replicate (room_for (length_for x) 256 4096) 0)))) [])) e
    ∙ nothing x

module _ (x out : List ℕ) where
  -- the row after SHEET
  abbrev pub room_row : ℕ
  room_row = cond (ltb (length out) (length (section_of x))) 11 0

  -- the answer for a row
  to_section_lem : (row : ℕ) → section_row x (length out) ≡ row
      → (answer row (length (section_of x)) ≡ to_section x out) × (memory row (section_of x) out ≡ to_section_into x out)
  unfolding to_section to_section_into
  to_section_lem row e = (ap (λ (n : ℕ). answer n (length (section_of x))) (sym e), ap (λ (n : ℕ). memory n (section_of x) out) (sym e))

  -- bytes that are those that x makes are judged as x is
  pub judged_as : {b : List ℕ} {r : Result ℕ Refusal} {m : List ℕ} → b ≡ section_of x → Judged x b out r m → (r ≡ to_section x out) × (m ≡ to_section_into x out)
  unfolding to_section to_section_into section_row
  judged_as e j = (
    j.answers ∙ ap (λ (l : List ℕ). answer (row_for x l (length out)) (length l)) e,
    j.holds ∙ ap (λ (l : List ℕ). memory (row_for x l (length out)) l out) e,
  )

  -- not a sheet
  pub no_sheet : is_sheet_of x (section_of x) ≡ false → (Err Sheet ≡ to_section x out) × (out ≡ to_section_into x out)
  unfolding section_row
  no_sheet e = to_section_lem 15 (ap (λ (t : Bool). cond (not t) 15 room_row) e)

  -- too few numbers, too many, too many bits, or another count than that of the fields
  pub no_fit : (11 ≤ length x → length x ≤ 32768 → (plan_for x).at ≤ 32736 → (plan_for x).number ≡ length x → ⊥)
      → (Err Sheet ≡ to_section x out) × (out ≡ to_section_into x out)
  unfolding fitting
  no_fit h = no_sheet (unfit x (is_false (fitting x) none))
    where
      none : fitting x ≡ true → ⊥
      none e =
          let rest = and_right (leb 11 (length x)) _ e in
          let more = and_right (leb (length x) 32768) _ rest in
          h (leb-true _ _ (and_left (leb 11 (length x)) (leb (length x) 32768 && (leb (plan_for x).at 32736 && eqb (plan_for x).number (length x))) e))
          (leb-true _ _ (and_left (leb (length x) 32768) (leb (plan_for x).at 32736 && eqb (plan_for x).number (length x)) rest))
          (leb-true _ _ (and_left (leb (plan_for x).at 32736) (eqb (plan_for x).number (length x)) more))
          (eqb-true _ _ (and_right (leb (plan_for x).at 32736) _ more))

-- what numbers that fit make
pub fit_made : (x : List ℕ) (n : ℕ) → 11 ≤ length x → length x ≤ 32768 → (plan_for x).at ≤ 32736 → (plan_for x).number ≡ length x → n ≡ length_for x
    → take n (summed n (filled x n (plan_for x).widths (replicate (room_for n 256 4096) 0))) ≡ section_of x
unfolding section_of fitting
fit_made x n a b c d e =
    let z : ℕ → List ℕ = λ k. replicate (room_for k 256 4096) 0 in
    let there : fitting x ≡ true = rw (le-leb 11 (length x) a, le-leb (length x) 32768 b, le-leb (plan_for x).at 32736 c, eq-eqb (plan_for x).number (length x) d) in
    ap (λ (k : ℕ). take k (summed k (filled x k (plan_for x).widths (z k)))) e
    ∙ sym (ap (λ (t : Bool). cond t (take (length_for x) (summed (length_for x) (filled x (length_for x) (plan_for x).widths (z (length_for x))))) []) there)

-- ---- the judgement of bytes

module _ (x s out : List ℕ) where
  judged : (row : ℕ) → row_for x s (length out) ≡ row → Judged x s out (answer row (length s)) (memory row s out)
  judged row e =
      record {
        answers = ap (λ (n : ℕ). answer n (length s)) (sym e);
        holds = ap (λ (n : ℕ). memory n s out) (sym e);
      }

  pub not_it : is_sheet_of x s ≡ false → Judged x s out (Err Sheet) out
  not_it e = judged 15 (ap (λ (t : Bool). cond (not t) 15 (cond (ltb (length out) (length s)) 11 0)) e)

  -- it is, with too little room and with enough
  no_room_for : is_sheet_of x s ≡ true → length out < length s → Judged x s out (Err Room) out
  no_room_for e h = judged 11 (ap₂ (λ (t u : Bool). cond (not t) 15 (cond u 11 0)) e (lt-ltb _ _ h))

  section_written : is_sheet_of x s ≡ true → length s ≤ length out → Judged x s out (Ok (length s)) (s ++ drop (length s) out)
  section_written e h = judged 0 (ap₂ (λ (t u : Bool). cond (not t) 15 (cond u 11 0)) e (le-ltb _ _ h))

  -- by what `lent::put` says of the section's bytes
  pub put_nowhere : is_sheet_of x s ≡ true → (p : List ℕ) → p ≡ s → fits out 0 p ≡ false → Judged x s out (Err Room) (put_into out 0 p)
  put_nowhere e p q h =
      let is = no_room_for e (omega (arith, leb-false (0 + length p) (length out) h, ap length q)) in
      record { answers = is.answers; holds = unchanged out 0 p h ∙ is.holds }

  pub put_there : is_sheet_of x s ≡ true → (p : List ℕ) → p ≡ s → fits out 0 p ≡ true → Judged x s out (Ok (length s)) (put_into out 0 p)
  put_there e p q h =
      let is = section_written e (omega (arith, leb-true (0 + length p) (length out) h, ap length q)) in
      record { answers = is.answers; holds = at_front out p h ∙ ap (λ (l : List ℕ). l ++ drop (length l) out) q ∙ is.holds }
