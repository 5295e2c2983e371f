-- Numbers put into a list from a place on: where there is room for them and where there is none; and, passed on, the laws of what was put.
-- Assumes nothing.
pub use Rattle.units.proofs.Put.{copied, told, both, as_long, room, front, front_inside, front_count}
use mathlib.Core.Path.{◌≡◌, sym, ap, ◌∙◌}
use mathlib.Core.Bool.{Bool, true, false, cond}
use mathlib.Core.List.{List, ◌++◌}
use Prim.Native.Nat.{ℕ, ◌+◌, ◌≤◌, ◌<◌}
use native.Mathlib.Omega.{arith}
use lib.ListN.{length, length-append}
use lib.Seq.{sets}
use borrow.Author.Tests.{le-leb, lt-leb}
use Rattle.units.proofs.Put.{all_put, unchanged}
use Rattle.wire.specs.Put.{fits, put_place, put_into, Put}

-- the same numbers are put alike
pub put_as : (m : List ℕ) (i : ℕ) {ns us : List ℕ} {j : ℕ} {l : List ℕ} → ns ≡ us → (j ≡ put_place m i ns) × (l ≡ put_into m i ns)
    → (j ≡ put_place m i us) × (l ≡ put_into m i us)
put_as m i e p = (p.0 ∙ ap (put_place m i) e, p.1 ∙ ap (put_into m i) e)

-- ---- with too little room, and with enough

module _ (m : List ℕ) (i : ℕ) (ns : List ℕ) where
  by_room : (b : Bool) → fits m i ns ≡ b → cond b (i + length ns) i ≡ put_place m i ns
  unfolding put_place
  by_room b e = ap (λ (t : Bool). cond t (i + length ns) i) (sym e)

  pub left_out : length m < i + length ns → (i ≡ put_place m i ns) × (m ≡ put_into m i ns)
  left_out h =
      let no = lt-leb _ _ h in
      (by_room false no, sym (unchanged m i ns no))

  pub put_there : i + length ns ≤ length m → (i + length ns ≡ put_place m i ns) × (sets m i ns ≡ put_into m i ns)
  put_there h =
      let yes = le-leb _ _ h in
      (by_room true yes, sym (all_put m i ns yes))

-- a caller that has room has the numbers in its list
pub stands : {m : List ℕ} {i : ℕ} {ns : List ℕ} {j : ℕ} {l : List ℕ} → i + length ns ≤ length m → (j ≡ put_place m i ns) × (l ≡ put_into m i ns)
    → Put m i ns j l
stands {m} {i} {ns} h q =
    let there = put_there m i ns h in
    record { place = q.0 ∙ sym there.0; list = q.1 ∙ sym there.1 }

-- a part, and then another that has room too
pub behind : {m : List ℕ} {i : ℕ} {u : List ℕ} {j : ℕ} {l : List ℕ} (v : List ℕ) {k : ℕ} {r : List ℕ} → Put m i u j l → i + length (u ++ v) ≤ length m
    → (k ≡ put_place l j v) × (r ≡ put_into l j v) → Put m i (u ++ v) k r
behind {u = u} v p h q = both p (stands (omega (arith, p.place, as_long p, length-append u v)) q)
