-- A table of rows, choices by value and repeats alone reads the same up to any end that is not before the place which it reached.
-- Assumes nothing.
use mathlib.Core.Path.{◌≡◌, refl, sym, ap, ◌∙◌}
use mathlib.Core.Bool.{Bool, true, false, cond, ◌&&◌, false≢true}
use mathlib.Core.List.{[]}
use Prim.Native.Nat.{ℕ, zero, suc, ◌+◌, ◌≤◌}
use native.Mathlib.Omega.{arith}
use lib.Dec.{leb}
use borrow.Author.Tests.{le-leb}
use Rattle.bits.proofs.Cases.{and_left, and_right}
use Rattle.grammar.specs.Syntax.{Prog, done, stop, fields, branch, call, repeat, frame, fill, under}
use Rattle.grammar.specs.Meaning.{Env, value_of, width, values, bind, holds, Reading, broken, reached, after, then, again, read}
use Rattle.grammar.specs.Traces.{Trace}
use Rattle.grammar.proofs.Readings.{then_parts}
use Rattle.grammar.proofs.Endless.{asks_no_end, same_test}

-- rows, choices by value and repeats of a given number alone: no part has an end of its own
unfoldable pub straight : Prog → Bool
straight done = true
straight stop = true
straight (fields rows p) = straight p
straight (branch t a b p) = asks_no_end t && (straight a && (straight b && straight p))
straight (call a p) = straight a && straight p
straight (repeat n a p) = straight a && straight p
straight (frame n a p) = false
straight (fill a p) = false
straight (under n a p) = false

-- where the reading r from place k reached a place, that is no earlier, and r' reached it too if it is not past e
abbrev Fits : ℕ → ℕ → Reading → Reading → Type 0
Fits e k r r' = (j : ℕ) (t : Trace) → r ≡ reached j t → (k ≤ j) × (j ≤ e → r' ≡ reached j t)

never : (e k n : ℕ) (r' : Reading) → Fits e k (broken n) r'
never e k n r' j t q = let z : ◌≡◌ {A = ℕ} 0 1 = cc in absurd (omega arith)

fits_none : (e k : ℕ) → Fits e k (reached k []) (reached k [])
fits_none e k j t q = let same : k ≡ j = cc in (omega arith, λ h. q)

fits_then : (e k : ℕ) (r r' : Reading) (g g' : ℕ → Reading) → Fits e k r r' → ((i : ℕ) → Fits e i (g i) (g' i)) → Fits e k (then r g) (then r' g')
unfolding then after
fits_then e k r r' g g' a b j t q =
    let p = then_parts r g q in
    let first = a p.mid p.left p.came in
    let second = b p.mid j p.right p.went in (
      omega arith,
      λ h.
          ap (λ (x : Reading). then x g') (first.1 (omega arith))
          ∙ ap (after p.left) (second.1 h)
          ∙ ap (reached j) (sym p.joined),
    )

fits_after : (e k i : ℕ) (u : Trace) (r r' : Reading) → k ≤ i → Fits e i r r' → Fits e k (after u r) (after u r')
unfolding after
fits_after e k i u (broken n) r' h l j t q = let z : ◌≡◌ {A = ℕ} 0 1 = cc in absurd (omega arith)
fits_after e k i u (reached m v) r' h l j t q =
    let same : m ≡ j = cc in
    let on = l m v refl in
    (omega arith, λ c. ap (after u) (on.1 (omega arith)) ∙ q)

fits_if : (e k : ℕ) (b : Bool) (x x' y y' : Reading) → Fits e k x x' → Fits e k y y' → Fits e k (cond b x y) (cond b x' y')
fits_if e k true x x' y y' h l = h
fits_if e k false x x' y y' h l = l

-- rows that are there up to one end, up to another that is not before them
fits_rows : (end e k i : ℕ) (r r' : Reading) → k ≤ i → Fits e i r r' → Fits e k (cond (leb i end) r (broken 0)) (cond (leb i e) r' (broken 0))
fits_rows end e k i r r' h l = go (leb i end)
  where
    go : (b : Bool) → Fits e k (cond b r (broken 0)) (cond (leb i e) r' (broken 0))
    go true j t q =
        let on = l j t q in
        (omega arith, λ c. ap (λ (b : Bool). cond b r' (broken 0)) (le-leb i e (omega arith)) ∙ on.1 c)
    go false j t q = never e k 0 (cond (leb i e) r' (broken 0)) j t q

fits_again : (e : ℕ) (g g' : ℕ → Reading) → ((i : ℕ) → Fits e i (g i) (g' i)) → (n k : ℕ) → Fits e k (again n g k) (again n g' k)
unfolding again
fits_again e g g' l zero k = fits_none e k
fits_again e g g' l (suc n) k = fits_then e k (g k) (g' k) (again n g) (again n g') (l k) (fits_again e g g' l n)

fits : (p : Prog) → straight p ≡ true → (env : Env) (f : ℕ → ℕ) (end e k : ℕ) → Fits e k (read p env f end k) (read p env f e k)
unfolding straight read
fits done h env f end e k = fits_none e k
fits stop h env f end e k = never e k 0 (broken 0)
fits (fields rows p) h env f end e k =
    fits_rows end e k (k + width rows) _ _ (omega arith)
    (fits_after e (k + width rows) (k + width rows) (values rows f k) _ _ (omega arith) (fits p h (bind rows f k env) f end e (k + width rows)))
fits (branch t a b p) h env f end e k =
    let arms = and_right (asks_no_end t) _ h in
    let rest = and_right (straight a) _ arms in
    fits_then e k (cond (holds t env end k) (read a env f end k) (read b env f end k)) (cond (holds t env e k) (read a env f e k) (read b env f e k)) _ _
    (rw (← same_test t (and_left (asks_no_end t) _ h) env end e k k)
    (fits_if e k (holds t env end k) _ _ _ _ (fits a (and_left (straight a) _ arms) env f end e k) (fits b (and_left (straight b) _ rest) env f end e k)))
    (fits p (and_right (straight b) _ rest) env f end e)
fits (call a p) h env f end e k =
    fits_then e k _ _ _ _ (fits a (and_left (straight a) _ h) env f end e k) (fits p (and_right (straight a) _ h) env f end e)
fits (repeat n a p) h env f end e k =
    fits_then e k _ _ _ _ (fits_again e _ _ (fits a (and_left (straight a) _ h) env f end e) (value_of env n) k) (fits p (and_right (straight a) _ h) env f end e)
fits (frame n a p) h env f end e k = absurd (false≢true h)
fits (fill a p) h env f end e k = absurd (false≢true h)
fits (under n a p) h env f end e k = absurd (false≢true h)

-- so many times the table
pub shorter : (p : Prog) → straight p ≡ true → (env : Env) (f : ℕ → ℕ) (end e n k j : ℕ) (t : Trace)
    → again n (λ i. read p env f end i) k ≡ reached j t → j ≤ e → again n (λ i. read p env f e i) k ≡ reached j t
shorter p h env f end e n k j t q l = (fits_again e (λ i. read p env f end i) (λ i. read p env f e i) (fits p h env f end e) n k j t q).1 l

-- it goes no way back
pub onward : (p : Prog) → straight p ≡ true → (env : Env) (f : ℕ → ℕ) (end n k j : ℕ) (t : Trace) → again n (λ i. read p env f end i) k ≡ reached j t → k ≤ j
onward p h env f end n k j t q = (fits_again end (λ i. read p env f end i) (λ i. read p env f end i) (fits p h env f end end) n k j t q).0
