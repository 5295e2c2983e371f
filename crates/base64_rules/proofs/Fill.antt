-- Lent memory whose front a run of values fills, one store at a time.
-- Assumes nothing.
use mathlib.Core.Path.{◌≡◌, refl, sym, ap, ◌∙◌}
use mathlib.Core.List.{List}
use Prim.Native.Nat.{ℕ, suc, ◌+◌, ◌<◌, ◌≤◌}
use native.Mathlib.Nat.{zero-add}
use native.Mathlib.Numerals.{add-one}
use native.Mathlib.Omega.{arith}
use lib.ListN.{length, take, drop, set}
use lib.Seq.{drop-cons, set_at, append_snoc, length-take-le, take-append-le, get_or-take}
use Rattle.bits.specs.Bits.{run}
use Rattle.bits.proofs.Bytes.{length_run, get_d_run, is_run, run_more}
use Rattle.units.specs.Answers.{memory}

module _ (g : ℕ → ℕ) where
  -- nothing filled yet
  pub fill_none : (lent : List ℕ) → lent ≡ memory 0 (run g 0 0) lent
  unfolding run
  fill_none lent = refl

  pub fill_same : (lent out : List ℕ) (n m : ℕ) → n ≡ m → out ≡ memory 0 (run g 0 n) lent → out ≡ memory 0 (run g 0 m) lent
  fill_same lent out n m s e = rw (← s) e

  -- one store more, of the next value at the next place
  pub fill_more : (lent out : List ℕ) (n m v : ℕ) → m ≡ n + 1 → n < length lent → out ≡ memory 0 (run g 0 n) lent
      → v ≡ g n → set out n v ≡ memory 0 (run g 0 m) lent
  fill_more lent out n m v s h e q =
      rw (s, e, q, length_run g 0 n, length_run g 0 (n + 1), drop-cons lent n 0, set_at (run g 0 n) _ _ _ n (length_run g 0 n), run_more, add-one, zero-add)
      (sym (append_snoc (run g 0 n) (g n) (drop (suc n) lent)))

  -- the front of what was filled
  pub filled : (lent out : List ℕ) (n k : ℕ) → k ≤ n → out ≡ memory 0 (run g 0 n) lent → take k out ≡ run g 0 k
  filled lent out n k h e =
      let long : length (run g 0 n) ≡ n = length_run g 0 n in
      let rest = drop (length (run g 0 n)) lent in
      ap (take k) e ∙ take-append-le k (run g 0 n) rest (omega (arith, long))
      ∙ is_run g (take k (run g 0 n)) k (length-take-le k (run g 0 n) (omega (arith, long)))
      (λ i l.
      get_or-take k (run g 0 n) i 0 l ∙ get_d_run g 0 n i (omega arith) ∙ ap g (omega arith))
