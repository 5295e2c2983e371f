-- A table breaks with a number that it gives, or with 0; so one that gives none breaks with 0.
-- Assumes nothing.
use mathlib.Core.Path.{◌≡◌, refl, subst}
use mathlib.Core.Bool.{Bool, true, false, cond, ◌&&◌, ◌||◌, false≢true}
use mathlib.Core.List.{List, [], ◌∷◌}
use mathlib.Core.Logic.{◌⊎◌, inl, inr, ⊎_elim}
use Prim.Native.Nat.{ℕ, zero, suc, ◌+◌, ◌*◌}
use native.Mathlib.Omega.{arith}
use lib.Dec.{leb, ltb, eqb}
use borrow.Author.Tests.{eqb-true}
use Rattle.grammar.specs.Syntax.{Item, Prog, done, stop, fields, branch, call, repeat, frame, fill, under}
use Rattle.grammar.specs.Meaning.{Env, value_of, width, bind, is_among, holds, Reading, broken, reached, after, then, again, sweep, exactly, numbered, read, breach, end_of, run}
use Rattle.bits.proofs.Cases.{and_left, and_right}

-- each number that an `under` in it gives is one of these
unfoldable pub giving : List ℕ → Prog → Bool
giving ns done = true
giving ns stop = true
giving ns (fields rows p) = giving ns p
giving ns (branch t a b p) = giving ns a && (giving ns b && giving ns p)
giving ns (call a p) = giving ns a && giving ns p
giving ns (repeat n a p) = giving ns a && giving ns p
giving ns (frame n a p) = giving ns a && giving ns p
giving ns (fill a p) = giving ns a && giving ns p
giving ns (under n a p) = is_among n ns && (giving ns a && giving ns p)

-- where the reading breaks, it breaks with 0 or with one of these
data Told (ns : List ℕ) : Reading → Type 0 where
  off : {n : ℕ} → is_among n (0 ∷ ns) ≡ true → Told ns (broken n)
  at : {j : ℕ} {t : List (Item × ℕ)} → Told ns (reached j t)

module _ {ns : List ℕ} where
  bare : Told ns (broken 0)
  bare = off refl

  either : {a b : Reading} (t : Bool) → Told ns a → Told ns b → Told ns (cond t a b)
  either true x y = x
  either false x y = y

  told_after : {r : Reading} (t : List (Item × ℕ)) → Told ns r → Told ns (after t r)
  unfolding after
  told_after t (off h) = off h
  told_after t at = at

  told_then : {r : Reading} {g : ℕ → Reading} → Told ns r → ((j : ℕ) → Told ns (g j)) → Told ns (then r g)
  unfolding then
  told_then (off h) y = off h
  told_then (at {j = j} {t = t}) y = told_after t (y j)

  told_again : {g : ℕ → Reading} (n : ℕ) → ((j : ℕ) → Told ns (g j)) → (k : ℕ) → Told ns (again n g k)
  unfolding again
  told_again zero y k = at
  told_again (suc n) y k = told_then (y k) (told_again n y)

  told_sweep : {g : ℕ → Reading} (end n : ℕ) → ((j : ℕ) → Told ns (g j)) → (k : ℕ) → Told ns (sweep n g end k)
  unfolding sweep
  told_sweep end zero y k = either (leb end k) (at {j = k} {t = []}) bare
  told_sweep end (suc n) y k = either (leb end k) (at {j = k} {t = []}) (told_then (y k) (λ j. either (ltb k j) (told_sweep end n y j) bare))

  told_exactly : {r : Reading} (e : ℕ) → Told ns r → Told ns (exactly e r)
  unfolding exactly
  told_exactly e (off h) = off h
  told_exactly e (at {j = j} {t = t}) = either (eqb j e) (at {j = j} {t = t}) bare

  -- a number that is given is one of these, and one that is there stays
  told_numbered : {r : Reading} (n : ℕ) → is_among n ns ≡ true → Told ns r → Told ns (numbered n r)
  unfolding numbered
  told_numbered n h (off {n = zero} q) = off (second (eqb n 0) (is_among n ns) h)
    where
      second : (b c : Bool) → c ≡ true → (b || c) ≡ true
      second true c e = refl
      second false c e = e
  told_numbered n h (off {n = suc m} q) = off q
  told_numbered n h at = at

  told : (p : Prog) → giving ns p ≡ true → (env : Env) (f : ℕ → ℕ) (end k : ℕ) → Told ns (read p env f end k)
  unfolding giving read
  told done h env f end k = at
  told stop h env f end k = bare
  told (fields rows p) h env f end k = either (leb (k + width rows) end) (told_after _ (told p h (bind rows f k env) f end (k + width rows))) bare
  told (branch t a b p) h env f end k =
      let rest = and_right (giving ns a) _ h in
      told_then (either (holds t env end k) (told a (and_left (giving ns a) _ h) env f end k) (told b (and_left (giving ns b) _ rest) env f end k))
      (told p (and_right (giving ns b) _ rest) env f end)
  told (call a p) h env f end k = told_then (told a (and_left (giving ns a) _ h) env f end k) (told p (and_right (giving ns a) _ h) env f end)
  told (repeat n a p) h env f end k =
      told_then (told_again (value_of env n) (told a (and_left (giving ns a) _ h) env f end) k) (told p (and_right (giving ns a) _ h) env f end)
  told (frame n a p) h env f end k =
      let e : ℕ = k + 8 * value_of env n in
      either (leb e end) (told_then (told_exactly e (told a (and_left (giving ns a) _ h) env f e k)) (told p (and_right (giving ns a) _ h) env f end)) bare
  told (fill a p) h env f end k = told_then (told_sweep end _ (told a (and_left (giving ns a) _ h) env f end) k) (told p (and_right (giving ns a) _ h) env f end)
  told (under n a p) h env f end k =
      let rest = and_right (is_among n ns) _ h in
      told_then (told_numbered n (and_left (is_among n ns) _ h) (told a (and_left (giving ns a) _ rest) env f end k))
      (told p (and_right (giving ns a) _ rest) env f end)

-- so does a run
pub breach_given : (ns : List ℕ) (p : Prog) → giving ns p ≡ true → (env : Env) (f : ℕ → ℕ) (end k n : ℕ) → run p env f end k ≡ breach n
    → is_among n (0 ∷ ns) ≡ true
unfolding run end_of
breach_given ns p h env f end k n e = go (told p h env f end k) e
  where
    go : {r : Reading} → Told ns r → end_of r ≡ breach n → is_among n (0 ∷ ns) ≡ true
    go (off {n = m} q) d = let same : m ≡ n = cc in subst (λ (x : ℕ). is_among x (0 ∷ ns) ≡ true) same q
    go at d = let z : ◌≡◌ {A = ℕ} 0 1 = cc in absurd (omega arith)

-- one of several is the first or one of the others
pub first_or_other : (v x : ℕ) (xs : List ℕ) → is_among v (x ∷ xs) ≡ true → (v ≡ x) ⊎ (is_among v xs ≡ true)
first_or_other v x xs h = go (eqb v x) refl h
  where
    go : (b : Bool) → eqb v x ≡ b → (b || is_among v xs) ≡ true → (v ≡ x) ⊎ (is_among v xs ≡ true)
    go true q l = inl (eqb-true v x q)
    go false q l = inr l

-- where none is given, 0 is left
pub breach_bare : (p : Prog) → giving [] p ≡ true → (env : Env) (f : ℕ → ℕ) (end k n : ℕ) → run p env f end k ≡ breach n → n ≡ 0
breach_bare p h env f end k n e = ⊎_elim (λ q. q) (λ q. absurd (false≢true q)) (first_or_other n 0 [] (breach_given [] p h env f end k n e))

-- where one is, 0 or that
pub breach_one : (m : ℕ) (p : Prog) → giving (m ∷ []) p ≡ true → (env : Env) (f : ℕ → ℕ) (end k n : ℕ) → run p env f end k ≡ breach n
    → (n ≡ 0) ⊎ (n ≡ m)
breach_one m p h env f end k n e =
    ⊎_elim inl (λ q. ⊎_elim inr (λ l. absurd (false≢true l)) (first_or_other n m [] q)) (first_or_other n 0 (m ∷ []) (breach_given (m ∷ []) p h env f end k n e))
