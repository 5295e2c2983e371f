-- The decimal digits of a number: how many there are, and which; counted from the front of the number, written from its end.
-- Assumes nothing.
use mathlib.Core.Path.{◌≡◌, refl, sym, ap, ap₂, ◌∙◌, subst}
use mathlib.Core.Logic.{⊎_elim}
use mathlib.Core.List.{List, [], ◌∷◌, ◌++◌, append_assoc}
use Prim.Native.Nat.{max, ℕ, zero, suc, ◌+◌, ◌-◌, ◌*◌, ◌/◌, ◌%◌, ◌^◌, ◌≤◌, ◌<◌}
use native.Mathlib.Nat.{add-zero, pow-succ', mod-eq_of_lt}
use native.Mathlib.Numerals.{sub-one}
use native.Mathlib.Omega.{arith}
use lib.ListN.{length, get_or, set, take, drop, length-append}
use lib.Seq.{sets, sets-eq, take-suc, set_at, length-take-le}
use borrow.Author.Tests.{lt-ltb, le-ltb}
use Rattle.bits.proofs.Cases.{le_or_lt}
use Rattle.spelling.specs.Spelling.{digits}

pub one_digit : (k n : ℕ) → n < 10 → digits (suc k) n ≡ (n + 48) ∷ []
unfolding digits
one_digit k n h = rw (lt-ltb n 10 h)

pub more_digits : (k n : ℕ) → 10 ≤ n → digits (suc k) n ≡ digits k (n / 10) ++ ((n % 10 + 48) ∷ [])
unfolding digits
more_digits k n h = rw (le-ltb n 10 h)

pub few : (k n : ℕ) → length (digits k n) ≤ k
unfolding digits
few zero n = omega arith
few (suc k) n =
    ⊎_elim (λ h. omega (arith, ap length (more_digits k n h), length-append (digits k (n / 10)) ((n % 10 + 48) ∷ []), few k (n / 10)))
    (λ h. omega (arith, ap length (one_digit k n h)))
    (le_or_lt 10 n)

-- ---- how many

ten_pow : (m : ℕ) → 0 < 10 ^ m
ten_pow zero = omega arith
ten_pow (suc m) = omega (arith, pow-succ' 10 m, ten_pow m)

-- a number from 10 ^ m on and below 10 ^ (m + 1) has one digit more than m, and 0 has one as 1 has
pub how_many : (k m n : ℕ) → m < k → 10 ^ m ≤ max n 1 → n < 10 * 10 ^ m → m + 1 ≡ length (digits k n)
how_many zero m n h p q = absurd (omega arith)
how_many (suc k) zero n h p q = sym (ap length (one_digit k n (omega arith)))
how_many (suc k) (suc m) n h p q =
    let tenth : 10 ^ suc m ≡ 10 * 10 ^ m = pow-succ' 10 m in
    let more : 10 ≤ n = omega (arith, tenth, ten_pow m) in
    let rest : m + 1 ≡ length (digits k (n / 10)) =
    how_many k m (n / 10) (omega arith) (omega (arith, tenth, ten_pow m)) (omega (arith, tenth)) in
    omega (arith, ap length (more_digits k n more), length-append (digits k (n / 10)) ((n % 10 + 48) ∷ []), rest)

-- ---- which

-- the last i digits of n
unfoldable pub final : ℕ → ℕ → List ℕ
final zero n = []
final (suc i) n = final i (n / 10) ++ ((n % 10 + 48) ∷ [])

pub digits_final : (k n : ℕ) → digits k n ≡ final (length (digits k n)) n
unfolding digits final
digits_final zero n = refl
digits_final (suc k) n =
    ⊎_elim (λ h. longer (digits_final k (n / 10)) (more_digits k n h)) (λ h. single h (one_digit k n h)) (le_or_lt 10 n)
  where
    single : n < 10 → digits (suc k) n ≡ (n + 48) ∷ [] → digits (suc k) n ≡ final (length (digits (suc k) n)) n
    single h e = e ∙ ap (λ (m : ℕ). (m + 48) ∷ []) (sym (mod-eq_of_lt h)) ∙ ap (λ (m : ℕ). final m n) (sym (ap length e))

    longer : digits k (n / 10) ≡ final (length (digits k (n / 10))) (n / 10) → digits (suc k) n ≡ digits k (n / 10) ++ ((n % 10 + 48) ∷ []) → digits (suc k) n ≡ final (length (digits (suc k) n)) n
    longer fewer e =
        let long : suc (length (digits k (n / 10))) ≡ length (digits (suc k) n) =
        omega (arith, ap length e, length-append (digits k (n / 10)) ((n % 10 + 48) ∷ [])) in
        e ∙ ap (λ (ds : List ℕ). ds ++ ((n % 10 + 48) ∷ [])) fewer ∙ ap (λ (m : ℕ). final m n) long

-- the last digits of n from place i on stand in the list, from a place on that has room for count of them; the rest of n is still to be written
pub record Writing (m : List ℕ) (at count n : ℕ) (l : List ℕ) (i rest : ℕ) : Type 0 where
  pub done : List ℕ
  pub all : final count n ≡ final i rest ++ done
  pub list : l ≡ take (at + i) m ++ (done ++ drop (at + count) m)

pub write_more : {m : List ℕ} {at count n : ℕ} {l : List ℕ} {rest : ℕ} (i : ℕ) → at + suc i ≤ length m → Writing m at count n l (suc i) rest
    → Writing m at count n (set l (at + i) (rest % 10 + 48)) i (rest / 10)
unfolding final
write_more {m} {at} {count} {n} {l} {rest} i h w =
    let d : ℕ = rest % 10 + 48 in
    let tail : List ℕ = w.done ++ drop (at + count) m in
    let next : at + suc i ≡ suc (at + i) = omega arith in
    let front : take (at + suc i) m ≡ take (at + i) m ++ (get_or m (at + i) 0 ∷ []) = ap (λ (k : ℕ). take k m) next ∙ take-suc m (at + i) 0 (omega arith) in
    record {
      done = d ∷ w.done;
      all = w.all ∙ append_assoc (final i (rest / 10)) (d ∷ []) w.done;
      list =
          ap (λ (x : List ℕ). set x (at + i) d)
          (w.list ∙ ap (λ (x : List ℕ). x ++ tail) front ∙ append_assoc (take (at + i) m) (get_or m (at + i) 0 ∷ []) tail)
          ∙ set_at (take (at + i) m) (get_or m (at + i) 0) tail d (at + i) (length-take-le (at + i) m (omega arith));
    }

pub write_down : {m : List ℕ} {at count n : ℕ} {l : List ℕ} {rest : ℕ} (i : ℕ) → 0 < i → at + i ≤ length m → Writing m at count n l i rest
    → Writing m at count n (set l (at + (i - 1)) (rest % 10 + 48)) (i - 1) (rest / 10)
write_down zero h r w = absurd (omega arith)
write_down {m} {at} {count} {n} {l} {rest} (suc i) h r w =
    subst (λ (j : ℕ). Writing m at count n (set l (at + j) (rest % 10 + 48)) j (rest / 10)) (sym (sub-one (suc i))) (write_more i r w)

-- all of them are written
pub written : {m : List ℕ} {at count n : ℕ} {l : List ℕ} {i rest : ℕ} → i ≡ 0 → count ≡ length (digits 20 n) → at + 20 ≤ length m
    → Writing m at count n l i rest → l ≡ sets m at (digits 20 n)
unfolding final
written {m} {at} {count} {n} {l} {i} {rest} none e h some =
    let w : Writing m at count n l 0 rest = subst (λ (j : ℕ). Writing m at count n l j rest) none some in
    let ds : List ℕ = digits 20 n in
    let all : w.done ≡ ds = sym (digits_final 20 n ∙ ap (λ (k : ℕ). final k n) (sym e) ∙ w.all) in
    w.list
    ∙ ap (λ (k : ℕ). take k m ++ (w.done ++ drop (at + count) m)) (add-zero at)
    ∙ ap₂ (λ (x : List ℕ) (k : ℕ). take at m ++ (x ++ drop (at + k) m)) all e
    ∙ sym (append_assoc (take at m) ds (drop (at + length ds) m))
    ∙ sym (sets-eq ds m at (omega (arith, few 20 n)))
