-- Whether bytes are a section with a given sheet: acceptance first, then the count, then the numbers before and after section_length.
-- Assumes nothing.
use mathlib.Core.Path.{◌≡◌, refl, sym, ap, ap₂, ◌∙◌}
use mathlib.Core.Bool.{Bool, true, false, ◌&&◌, false≢true}
use mathlib.Core.List.{List, [], ◌∷◌, ◌++◌}
use Prim.Native.Nat.{ℕ, ◌-◌, ◌≤◌}
use native.Mathlib.Omega.{arith}
use lib.ListN.{length, take, drop, take-append-drop, length-drop}
use lib.Seq.{take_all, length-take-le}
use lib.Dec.{eqb}
use borrow.Author.Tests.{eq-eqb, eqb-true}
use Rattle.bits.specs.Bits.{read_all}
use Rattle.bits.proofs.Cases.{is_false, and_left, and_right}
use Rattle.units.specs.declared.refusals.Refusal.{Refusal}
use Rattle.std.specs.Prelude.{Result, Ok, Err, is_ok, is_err}
use Rattle.section.specs.Accept.{accept_of}
use Rattle.sheet_reading.specs.SheetOf.{sheet_of, Laid}
use Rattle.sheet_matching.specs.Matching.{same, is_sheet_of}
use Rattle.sheet_reading.proofs.Plans.{length_read}

-- ---- the same numbers

pub same_refl : (xs : List ℕ) → same xs xs ≡ true
unfolding same
same_refl [] = refl
same_refl (x ∷ xs) = ap₂ ◌&&◌ (eq-eqb x x refl) (same_refl xs)

pub same_true : (xs ys : List ℕ) → same xs ys ≡ true → xs ≡ ys
unfolding same
same_true [] [] e = refl
same_true [] (y ∷ ys) e = absurd (false≢true e)
same_true (x ∷ xs) [] e = absurd (false≢true e)
same_true (x ∷ xs) (y ∷ ys) e = ap₂ ◌∷◌ (eqb-true x y (and_left (eqb x y) _ e)) (same_true xs ys (and_right (eqb x y) _ e))

and_assoc : (a b c : Bool) → ((a && b) && c) ≡ (a && (b && c))
and_assoc true b c = refl
and_assoc false b c = refl

-- in two parts of equal length
same_append : (a b c d : List ℕ) → length a ≡ length c → same (a ++ b) (c ++ d) ≡ (same a c && same b d)
unfolding same
same_append [] b [] d e = refl
same_append [] b (y ∷ c) d e = absurd (omega (arith, e))
same_append (x ∷ a) b [] d e = absurd (omega (arith, e))
same_append (x ∷ a) b (y ∷ c) d e = ap (λ (t : Bool). eqb x y && t) (same_append a b c d (omega (arith, e))) ∙ sym (and_assoc (eqb x y) (same a c) (same b d))

-- ---- the tests in turn

pub not_refused : {o v : Result (Unit {0}) Refusal} → o ≡ v → is_err o ≡ false → v ≡ Ok tt
not_refused {o} {v} e q = sym e ∙ is o q
  where
    is : (o : Result (Unit {0}) Refusal) → is_err o ≡ false → o ≡ Ok tt
    is (Ok u) q = refl
    is (Err r) q = absurd (false≢true (sym q))

module _ (x s : List ℕ) where
  pub not_section : (r : Refusal) → accept_of s ≡ Err r → is_sheet_of x s ≡ false
  unfolding is_sheet_of
  not_section r e = ap (λ (v : Result (Unit {0}) Refusal). is_ok v && same (sheet_of s) x) e

  -- by whether acceptance answers an error
  pub refused_first : (o : Result (Unit {0}) Refusal) → o ≡ accept_of s → is_err o ≡ true → is_sheet_of x s ≡ false
  refused_first (Ok u) e q = absurd (false≢true q)
  refused_first (Err r) e q = not_section r (sym e)

  pub of_section : accept_of s ≡ Ok tt → is_sheet_of x s ≡ same (sheet_of s) x
  unfolding is_sheet_of
  of_section e = ap (λ (v : Result (Unit {0}) Refusal). is_ok v && same (sheet_of s) x) e

  pub other_count : accept_of s ≡ Ok tt → (length (sheet_of s) ≡ length x → ⊥) → is_sheet_of x s ≡ false
  other_count e h = of_section e ∙ is_false (same (sheet_of s) x) (λ q. h (ap length (same_true (sheet_of s) x q)))

  pub two_parts : (m : List ℕ) {n : ℕ} {ws : List ℕ} → accept_of s ≡ Ok tt → Laid s m n ws → 4 ≤ length ws → n ≡ length x
      → is_sheet_of x s ≡ (same (read_all s 0 (take 4 ws)) (take 4 x) && same (read_all s 24 (take (n - 4) (drop 4 ws))) (take (length x - 4) (drop 4 x)))
  two_parts m {n} {ws} e l long count =
      let a : List ℕ = read_all s 0 (take 4 ws) in
      let b : List ℕ = read_all s 24 (take (n - 4) (drop 4 ws)) in
      let all : take (length x - 4) (drop 4 x) ≡ drop 4 x = take_all (length x - 4) (drop 4 x) (omega (arith, length-drop 4 x)) in
      let four : length a ≡ length (take 4 x) =
      length_read s 0 (take 4 ws) ∙ length-take-le 4 ws long ∙ sym (length-take-le 4 x (omega (arith, l.enough, count))) in
      of_section e
      ∙ ap₂ same l.reads (sym (take-append-drop 4 x))
      ∙ same_append a b (take 4 x) (drop 4 x) four
      ∙ ap (λ (d : List ℕ). same a (take 4 x) && same b d) (sym all)
