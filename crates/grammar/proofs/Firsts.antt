-- Where the parts of a list stand: the first so many of a list that was read end at places of their own.
-- Assumes nothing.
use mathlib.Core.Path.{◌≡◌, refl, sym, ap, subst, ◌∙◌}
use mathlib.Core.Bool.{Bool, true, false, ◌||◌, false≢true}
use mathlib.Core.List.{List, [], ◌∷◌}
use Prim.Native.Nat.{ℕ, zero, suc, ◌≤◌}
use Prim.Native.String.{String}
use native.Mathlib.Nat.{not-suc-le-zero}
use native.Mathlib.Omega.{arith}
use lib.Dec.{T}
use lib.Text.{eqt, eqt→eq}
use Rattle.grammar.specs.Syntax.{Prog}
use Rattle.grammar.specs.Meaning.{Env, value_of, Reading, broken, reached, then, again, read, ends, end_of}
use Rattle.grammar.specs.Traces.{Trace}
use Rattle.grammar.proofs.Readings.{then_parts}
use Rattle.grammar.proofs.Run.{end_after}
use Rattle.grammar.proofs.Scope.{scoped, Agree, same_read}
use Rattle.grammar.proofs.Shorter.{straight, shorter}

-- two environments that agree on one name
pub agree_one : (n : String) (env env' : Env) → value_of env n ≡ value_of env' n → Agree (n ∷ []) env env'
agree_one n env env' e m h = go (eqt n m) refl h
  where
    go : (t : Bool) → eqt n m ≡ t → (t || false) ≡ true → value_of env m ≡ value_of env' m
    go true q l = subst (λ (x : String). value_of env x ≡ value_of env' x) (eqt→eq n m (subst T (sym q) tt)) e
    go false q l = absurd (false≢true l)

-- the list read anew, up to another end and with other names known
pub anew : (p : Prog) (ns : List String) (env env' : Env) → straight p ≡ true → scoped p ns ≡ true → Agree ns env' env
    → (f : ℕ → ℕ) (stop end c k j : ℕ) (t : Trace)
    → again c (λ i. read p env f stop i) k ≡ reached j t → j ≤ end → again c (λ i. read p env' f end i) k ≡ reached j t
anew p ns env env' h l same f stop end c k j t e q =
    (λ x. again c (λ i. same_read p ns env' env l same f end i x) k) ∙ shorter p h env f stop end c k j t e q

module _ (g : ℕ → Reading) where
  -- on from the first
  on_from : (n k m : ℕ) (u : Trace) → g k ≡ reached m u → end_of (then (g k) (again n g)) ≡ end_of (again n g m)
  unfolding then
  on_from n k m u e = ap (λ (r : Reading). end_of (then r (again n g))) e ∙ end_after u (again n g m)

  -- the first n of more end somewhere
  pub first_end : (c n k j : ℕ) (t : Trace) → n ≤ c → again c g k ≡ reached j t → (i : ℕ) × (end_of (again n g k) ≡ ends i)
  unfolding again end_of
  first_end c zero k j t h e = (k, refl)
  first_end zero (suc n) k j t h e = absurd (not-suc-le-zero h)
  first_end (suc c) (suc n) k j t h e =
      let p = then_parts (g k) (again c g) e in
      let more = first_end c n p.mid j p.right (omega arith) p.went in
      (more.0, on_from n k p.mid p.left p.came ∙ more.1)

  -- one more ends where that one does
  pub one_more : (n k i m : ℕ) (u : Trace) → end_of (again n g k) ≡ ends i → g i ≡ reached m u → end_of (again (suc n) g k) ≡ ends m
  unfolding again end_of then
  one_more zero k i m u e q =
      let same : k ≡ i = cc in
      on_from 0 k m u (ap g same ∙ q)
  one_more (suc n) k i m u e q = go (λ x h. one_more n x i m u h q) (g k) refl
    where
      go : ((x : ℕ) → end_of (again n g x) ≡ ends i → end_of (again (suc n) g x) ≡ ends m) → (r : Reading) → g k ≡ r → end_of (again (suc (suc n)) g k) ≡ ends m
      go rest (broken x) d =
          let off : end_of (broken x) ≡ ends i = ap (λ (r : Reading). end_of (then r (again n g))) (sym d) ∙ e in
          let z : ◌≡◌ {A = ℕ} 0 1 = cc in
          absurd (omega arith)
      go rest (reached x v) d = on_from (suc n) k x v d ∙ rest x (sym (on_from n k x v d) ∙ e)
