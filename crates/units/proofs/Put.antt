-- Bytes, characters or numbers put into a list from a place on: by the room that there is, one part after another, and what then
-- stands in front.
-- Assumes nothing.
use mathlib.Core.Path.{◌≡◌, sym, ap, ap₂, ◌∙◌, subst}
use mathlib.Core.Bool.{Bool, true, false, cond}
use mathlib.Core.List.{List, [], ◌∷◌, ◌++◌, append_assoc}
use Prim.Native.Nat.{ℕ, suc, ◌+◌, ◌-◌, ◌≤◌}
use native.Mathlib.Nat.{add-zero}
use native.Mathlib.Omega.{arith}
use lib.ListN.{length, set, take, drop, length-append}
use lib.Seq.{sets, sets-eq, length-sets, length-take-le, take-append_seam}
use borrow.Author.Tests.{leb-true}
use borrow.Rule.Slice.PartMut.{put_mid, Post-is}
use Rattle.units.specs.Put.{fits, put_into, Put}

-- ---- by the room that there is

module _ (m : List ℕ) (i : ℕ) (ns : List ℕ) where
  pub all_put : fits m i ns ≡ true → put_into m i ns ≡ sets m i ns
  unfolding put_into
  all_put h = ap (λ (t : Bool). cond t (sets m i ns) m) h

  pub unchanged : fits m i ns ≡ false → put_into m i ns ≡ m
  unfolding put_into
  unchanged h = ap (λ (t : Bool). cond t (sets m i ns) m) h

  -- what stands before and after them is as it was
  pub put_between : fits m i ns ≡ true → put_into m i ns ≡ take i m ++ ns ++ drop (i + length ns) m
  put_between h = all_put h ∙ sets-eq ns m i (leb-true (i + length ns) (length m) h)

  -- a part of the list that they were copied over, where it has room for them
  pub copied : {us : List ℕ} → us ≡ ns → i + length ns ≤ length m → put_mid i (i + length ns - i) m us ≡ sets m i ns
  copied e h =
      ap₂ (λ (us rest : List ℕ). take i m ++ (us ++ rest)) e (Post-is i (i + length ns) m (omega arith))
      ∙ sym (append_assoc (take i m) ns (drop (i + length ns) m))
      ∙ sym (sets-eq ns m i h)

-- at the front: these, and then everything after them as it was
pub at_front : (m ns : List ℕ) → fits m 0 ns ≡ true → put_into m 0 ns ≡ ns ++ drop (length ns) m
at_front m ns h =
    let front : 0 + length ns ≡ length ns = omega arith in
    put_between m 0 ns h ∙ ap (λ (k : ℕ). ns ++ drop k m) front

-- ---- parts

-- the numbers of the case that it is
pub told : {m : List ℕ} {i : ℕ} {ns us : List ℕ} {j : ℕ} {l : List ℕ} → ns ≡ us → Put m i ns j l → Put m i us j l
told {m} {i} {j = j} {l = l} e p = subst (λ (ns : List ℕ). Put m i ns j l) e p

-- two parts at once are one after another
pub sets_append : (m : List ℕ) (i : ℕ) (u v : List ℕ) → sets m i (u ++ v) ≡ sets (sets m i u) (i + length u) v
sets_append m i [] v = ap (λ (k : ℕ). sets m k v) (sym (add-zero i))
sets_append m i (n ∷ u) v =
    let place : suc i + length u ≡ i + suc (length u) = omega arith in
    sets_append (set m i n) (suc i) u v ∙ ap (λ (k : ℕ). sets (sets (set m i n) (suc i) u) k v) place

-- a part, and then another
pub both : {m : List ℕ} {i : ℕ} {u : List ℕ} {j : ℕ} {l v : List ℕ} {k : ℕ} {r : List ℕ} → Put m i u j l → Put l j v k r → Put m i (u ++ v) k r
both {m} {i} {u} {j} {l} {v} {k} {r} p q =
    record {
      place = omega (arith, length-append u v);
      list = q.list ∙ ap₂ (λ (l : List ℕ) (j : ℕ). sets l j v) p.list p.place ∙ sym (sets_append m i u v);
    }

-- a part, and one more
pub one_more : {m : List ℕ} {i : ℕ} {u : List ℕ} {j : ℕ} {l : List ℕ} (x : ℕ) → Put m i u j l → Put m i (u ++ (x ∷ [])) (j + 1) (set l j x)
one_more {m} {i} {u} {j} {l} x p =
    record {
      place = omega (arith, p.place, length-append u (x ∷ []));
      list = ap₂ (λ (y : List ℕ) (k : ℕ). set y k x) p.list p.place ∙ sym (sets_append m i u (x ∷ []));
    }

-- two in front of a part
pub after_two : {m : List ℕ} (x y : ℕ) {u : List ℕ} {j : ℕ} {l : List ℕ} → Put (set (set m 0 x) 1 y) 2 u j l → Put m 0 (x ∷ y ∷ u) j l
after_two x y p = record { place = omega (arith, p.place); list = p.list }

-- a list stays as long as it was
pub as_long : {m : List ℕ} {i : ℕ} {ns : List ℕ} {j : ℕ} {l : List ℕ} → Put m i ns j l → length l ≡ length m
as_long {m} {i} {ns} p = ap length p.list ∙ length-sets m i ns

-- where a part has at most n numbers, there is room for k more after it
pub room : {m : List ℕ} {i : ℕ} {ns : List ℕ} {j : ℕ} {l : List ℕ} (n k : ℕ) → Put m i ns j l → length ns ≤ n → i + (n + k) ≤ length m
    → j + k ≤ length l
room n k p short h = omega (arith, as_long p)

-- ---- what then stands in front

module _ {m : List ℕ} {ns : List ℕ} {n : ℕ} {l : List ℕ} (p : Put m 0 ns n l) (h : length ns ≤ length m) where
  pub all : n ≡ length ns
  all = omega (arith, p.place)

  pub front : take n l ≡ ns
  front =
      ap₂ take all (p.list ∙ sets-eq ns m 0 (omega arith)) ∙ take-append_seam ns (drop (0 + length ns) m)

  pub front_inside : n ≤ length l
  front_inside = omega (arith, p.place, as_long p)

  pub front_count : n ≡ length (take n l)
  front_count = sym (length-take-le n l front_inside)
