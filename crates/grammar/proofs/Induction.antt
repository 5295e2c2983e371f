-- What each part of a grammar keeps, every grammar keeps: one induction for the laws of reading and writing.
-- Assumes nothing.
use mathlib.Core.Path.{◌≡◌, refl}
use mathlib.Core.Bool.{Bool, true, false, cond}
use mathlib.Core.List.{List, []}
use Prim.Native.Nat.{ℕ, zero, suc, ◌+◌, ◌*◌, ◌≤◌}
use lib.Dec.{leb, ltb}
use borrow.Author.Tests.{leb-true}
use Rattle.grammar.specs.Syntax.{Item, Prog, done, stop, fields, branch, call, repeat, frame, fill, under}
use Rattle.grammar.specs.Meaning.{Env, value_of, width, values, bind, holds, Reading, broken, reached, after, then, again, sweep, exactly, numbered, read}
use Rattle.grammar.specs.Writing.{Writing, refused, wrote, next, write_rows, times, to_end, filling, write}

-- what is claimed of a reading and a writing up to `end` from place k on
abbrev pub Claim : Type 1
Claim = ℕ → ℕ → ((ℕ → ℕ) → Reading) → (List ℕ → Writing) → Type 0

-- each part keeps the claim
pub record Kept (X : Claim) : Type 0 where
  -- reading nothing
  pub nothing : (end k : ℕ) → X end k (λ f. reached k []) (λ xs. wrote k [] xs)
  -- a breach
  pub breach : (end k : ℕ) → X end k (λ f. broken 0) (λ xs. refused)
  -- one after the other
  pub onward : {end k : ℕ} {r : (ℕ → ℕ) → Reading} {w : List ℕ → Writing} {g : (ℕ → ℕ) → ℕ → Reading} {h : ℕ → List ℕ → Writing}
      → X end k r w → ((i : ℕ) → X end i (λ f. g f i) (h i)) → X end k (λ f. then (r f) (g f)) (λ xs. next (w xs) h)
  -- rows that are there, then on with their names
  pub rows : (end k : ℕ) (is : List Item) (env : Env) (g : Env → (ℕ → ℕ) → Reading) (h : Env → List ℕ → Writing) → k + width is ≤ end
      → ((env' : Env) → X end (k + width is) (g env') (h env'))
      → X end k (λ f. after (values is f k) (g (bind is f k env) f)) (λ xs. write_rows is env xs h)
  -- a part that is there and used up
  pub part : {end e k : ℕ} {r : (ℕ → ℕ) → Reading} {w : List ℕ → Writing} → e ≤ end → X e k r w
      → X end k (λ f. exactly e (r f)) (λ xs. filling e (w xs))
  -- a breach that gets a number
  pub label : {end k : ℕ} {r : (ℕ → ℕ) → Reading} {w : List ℕ → Writing} (n : ℕ) → X end k r w → X end k (λ f. numbered n (r f)) w

module _ (X : Claim) (c : Kept X) where
  choose : {end k : ℕ} {r s : (ℕ → ℕ) → Reading} {w v : List ℕ → Writing} (b : Bool) → (b ≡ true → X end k r w) → (b ≡ false → X end k s v)
      → X end k (λ f. cond b (r f) (s f)) (λ xs. cond b (w xs) (v xs))
  choose true h l = h refl
  choose false h l = l refl

  module _ {end : ℕ} {g : (ℕ → ℕ) → ℕ → Reading} {h : ℕ → List ℕ → Writing} (l : (i : ℕ) → X end i (λ f. g f i) (h i)) where
    agains : (n k : ℕ) → X end k (λ f. again n (g f) k) (times n h k)
    unfolding again times
    agains zero k = c.nothing end k
    agains (suc n) k = c.onward (l k) (agains n)

    sweeps : (n k : ℕ) → X end k (λ f. sweep n (g f) end k) (to_end n h end k)
    unfolding sweep to_end
    sweeps zero k = choose (leb end k) (λ m. c.nothing end k) (λ m. c.breach end k)
    sweeps (suc n) k =
        choose (leb end k) (λ m. c.nothing end k)
        (λ m. c.onward (l k) (λ j. choose (ltb k j) (λ m. sweeps n j) (λ m. c.breach end j)))

  -- then every grammar keeps it
  pub kept : (p : Prog) (env : Env) (end k : ℕ) → X end k (λ f. read p env f end k) (write p env end k)
  unfolding read write
  kept done env end k = c.nothing end k
  kept stop env end k = c.breach end k
  kept (fields is p) env end k =
      choose (leb (k + width is) end)
      (λ m. c.rows end k is env _ _ (leb-true (k + width is) end m) (λ env'. kept p env' end (k + width is)))
      (λ m. c.breach end k)
  kept (branch t a b p) env end k =
      c.onward (choose (holds t env end k) (λ m. kept a env end k) (λ m. kept b env end k)) (kept p env end)
  kept (call a p) env end k = c.onward (kept a env end k) (kept p env end)
  kept (repeat n a p) env end k = c.onward (agains (kept a env end) _ k) (kept p env end)
  kept (frame n a p) env end k =
      let e : ℕ = k + 8 * value_of env n in
      choose (leb e end) (λ m. c.onward (c.part (leb-true e end m) (kept a env e k)) (kept p env end)) (λ m. c.breach end k)
  kept (fill a p) env end k = c.onward (sweeps (kept a env end) _ k) (kept p env end)
  kept (under n a p) env end k = c.onward (c.label n (kept a env end k)) (kept p env end)
