-- The digits of a number read back as that number, and no zero stands in front: twenty digits are enough for every number of 64 bits.
-- Assumes nothing.
use mathlib.Core.Path.{◌≡◌, refl, sym, ap, ◌∙◌, subst}
use mathlib.Core.Logic.{⊎_elim}
use mathlib.Core.List.{List, [], ◌∷◌, ◌++◌}
use Prim.Native.Nat.{ℕ, zero, suc, ◌+◌, ◌-◌, ◌*◌, ◌/◌, ◌%◌, ◌^◌, ◌≤◌, ◌<◌}
use native.Mathlib.Nat.{pow-succ'}
use native.Mathlib.Omega.{arith}
use lib.ListN.{get_or}
use Rattle.bits.proofs.Cases.{le_or_lt}
use Rattle.spelling.specs.Spelling.{digits}
use Rattle.spelling.proofs.Digits.{one_digit, more_digits}

-- the number that decimal digits make, most significant first, after those that made n
unfoldable pub value_after : ℕ → List ℕ → ℕ
value_after n [] = n
value_after n (d ∷ ds) = value_after (n * 10 + (d - 48)) ds

one_more : (n : ℕ) (ds : List ℕ) (d : ℕ) → value_after n (ds ++ (d ∷ [])) ≡ value_after n ds * 10 + (d - 48)
unfolding value_after
one_more n [] d = refl
one_more n (e ∷ ds) d = one_more (n * 10 + (e - 48)) ds d

pub reads_back : (k n : ℕ) → n < 10 ^ k → value_after 0 (digits k n) ≡ n
unfolding value_after digits
reads_back zero n h = omega arith
reads_back (suc k) n h =
    ⊎_elim
    (λ (m : 10 ≤ n).
    let tenth : 10 ^ suc k ≡ 10 * 10 ^ k = pow-succ' 10 k in
    let front : value_after 0 (digits k (n / 10)) ≡ n / 10 = reads_back k (n / 10) (omega (arith, tenth)) in
    ap (value_after 0) (more_digits k n m) ∙ one_more 0 (digits k (n / 10)) (n % 10 + 48) ∙ omega (arith, front))
    (λ (l : n < 10). ap (value_after 0) (one_digit k n l) ∙ omega arith)
    (le_or_lt 10 n)

-- every number of 64 bits has at most twenty digits
pub reads_back_64 : (n : ℕ) → n < 2 ^ 64 → value_after 0 (digits 20 n) ≡ n
reads_back_64 n h = reads_back 20 n (omega arith)

front : (xs ys : List ℕ) → 48 < get_or xs 0 0 → get_or (xs ++ ys) 0 0 ≡ get_or xs 0 0
front [] ys h = absurd (omega arith)
front (x ∷ xs) ys h = refl

pub no_zero_in_front : (k n : ℕ) → 0 < n → n < 10 ^ k → 48 < get_or (digits k n) 0 0
no_zero_in_front zero n p h = absurd (omega arith)
no_zero_in_front (suc k) n p h =
    ⊎_elim
    (λ (m : 10 ≤ n).
    let tenth : 10 ^ suc k ≡ 10 * 10 ^ k = pow-succ' 10 k in
    let first : 48 < get_or (digits k (n / 10)) 0 0 = no_zero_in_front k (n / 10) (omega arith) (omega (arith, tenth)) in
    subst (λ (d : ℕ). 48 < d)
    (sym (ap (λ (ds : List ℕ). get_or ds 0 0) (more_digits k n m) ∙ front (digits k (n / 10)) ((n % 10 + 48) ∷ []) first))
    first)
    (λ (l : n < 10). subst (λ (d : ℕ). 48 < d) (sym (ap (λ (ds : List ℕ). get_or ds 0 0) (one_digit k n l))) (omega arith))
    (le_or_lt 10 n)
