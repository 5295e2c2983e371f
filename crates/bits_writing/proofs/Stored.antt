-- Bytes that are stored one after another: those stored so far, and one more.
-- Assumes nothing.
use mathlib.Core.Path.{◌≡◌, refl, ◌∙◌}
use mathlib.Core.List.{List}
use Prim.Native.Nat.{ℕ, ◌+◌, ◌≤◌, ◌<◌}
use native.Mathlib.Omega.{arith}
use borrow.Author.Count.{below_more}
use lib.ListN.{length, get_or, set, length-set}
use lib.Seq.{get_or-set_same, get_or-set_other}

-- t is s with the first m of the bytes from byte i on
pub record Stored (s : List ℕ) (i : ℕ) (bytes : List ℕ) (m : ℕ) (t : List ℕ) : Type 0 where
  pub long : length t ≡ length s
  pub here : (k : ℕ) → k < m → get_or t (i + k) 0 ≡ get_or bytes k 0
  pub before : (k : ℕ) → k < i → get_or t k 0 ≡ get_or s k 0
  pub after : (k : ℕ) → i + m ≤ k → get_or t k 0 ≡ get_or s k 0

module _ (s : List ℕ) (i : ℕ) (bytes : List ℕ) where
  pub none_stored : Stored s i bytes 0 s
  none_stored = record { long = refl; here = λ k h. absurd (omega arith); before = λ k h. refl; after = λ k h. refl }

  pub one_more : (t : List ℕ) (m v : ℕ) → i + m < length t → v ≡ get_or bytes m 0 → Stored s i bytes m t → Stored s i bytes (m + 1) (set t (i + m) v)
  one_more t m v h e known = record {
    long = length-set t (i + m) v ∙ known.long;
    here =
        below_more (λ (j : ℕ). get_or (set t (i + m) v) (i + j) 0 ≡ get_or bytes j 0) m
        (λ j l. get_or-set_other t (i + m) (i + j) v 0 (omega arith) ∙ known.here j l)
        (get_or-set_same t (i + m) v 0 h ∙ e);
    before = λ k l. get_or-set_other t (i + m) k v 0 (omega arith) ∙ known.before k l;
    after = λ k l. get_or-set_other t (i + m) k v 0 (omega arith) ∙ known.after k (omega arith);
  }
