-- Tests, what their values say of one another; two numbers in order, one way or the other; and tests that agree.
-- Assumes nothing.
use mathlib.Core.Path.{◌≡◌, refl, sym, ap, ap₂, ◌∙◌, subst}
use mathlib.Core.Bool.{Bool, true, false, cond, ◌&&◌, ◌||◌, true≢false, false≢true}
use mathlib.Core.Logic.{◌⊎◌, inl, inr, ⊎_elim}
use Prim.Native.Nat.{ℕ, zero, suc, ◌+◌, ◌*◌, ◌/◌, ◌%◌, ◌^◌, ◌≤◌, ◌<◌}
use native.Mathlib.Nat.{le_of_suc-le-suc, not-suc-le-zero, eq-or-lt_of_le, mod-lt, div-eq_of_lt}
use lib.Pow.{pow_pos, split}
use native.Mathlib.Omega.{arith}
use lib.Dec.{leb}
use borrow.Author.Tests.{le-leb, lt-leb, leb-true, leb-false}

-- ---- tests

pub by_cases : (t : Bool) → (t ≡ true) ⊎ (t ≡ false)
by_cases true = inl refl
by_cases false = inr refl

pub is_false : (t : Bool) → (t ≡ true → ⊥) → t ≡ false
is_false true h = absurd (h refl)
is_false false h = refl

pub and_left : (a b : Bool) → (a && b) ≡ true → a ≡ true
and_left true b h = refl
and_left false b h = h

pub and_right : (a b : Bool) → (a && b) ≡ true → b ≡ true
and_right true b h = h
and_right false b h = absurd (false≢true h)

pub or_left : (a b : Bool) → a ≡ true → (a || b) ≡ true
or_left a b e = ap (λ (t : Bool). t || b) e

pub or_right : (a b : Bool) → a ≡ false → b ≡ true → (a || b) ≡ true
or_right a b e q = ap₂ (λ (t u : Bool). t || u) e q

pub neither : (a b : Bool) → (a || b) ≡ false → (a ≡ false) × (b ≡ false)
neither true b e = absurd (true≢false e)
neither false b e = (refl, e)

-- two choices agree where each of their arms does
pub cond_same : {A : Type 0} (b : Bool) {x x' y y' : A} → (b ≡ true → x ≡ x') → (b ≡ false → y ≡ y') → cond b x y ≡ cond b x' y'
cond_same true h l = h refl
cond_same false h l = l refl

-- the test holds of each number below n
abbrev pub all : (ℕ → Bool) → ℕ → Bool
all p zero = true
all p (suc n) = p n && all p n

pub all_below : (p : ℕ → Bool) (n : ℕ) → all p n ≡ true → (k : ℕ) → k < n → p k ≡ true
all_below p zero e k h = absurd (not-suc-le-zero h)
all_below p (suc n) e k h =
    ⊎_elim (λ q. subst (λ (m : ℕ). p m ≡ true) (sym q) (and_left (p n) (all p n) e)) (λ l. all_below p n (and_right (p n) (all p n) e) k l)
    (eq-or-lt_of_le (le_of_suc-le-suc h))

-- ---- numbers

pub le_or_lt : (a b : ℕ) → (a ≤ b) ⊎ (b < a)
le_or_lt a b = go (leb a b) refl
  where
    go : (t : Bool) → leb a b ≡ t → (a ≤ b) ⊎ (b < a)
    go true e = inl (leb-true a b e)
    go false e = inr (leb-false a b e)

-- tests of two facts that follow from each other agree
pub same_leb : (a b c d : ℕ) → (a ≤ b → c ≤ d) → (c ≤ d → a ≤ b) → leb a b ≡ leb c d
same_leb a b c d to back =
    ⊎_elim (λ h. le-leb a b h ∙ sym (le-leb c d (to h)))
    (λ h. lt-leb a b h ∙ sym (⊎_elim (λ l. absurd (omega (arith, back l))) (λ l. lt-leb c d l) (le_or_lt c d)))
    (le_or_lt a b)

-- what a shift down by w leaves nothing of has at most w bits, and the other way round
pub small : (v w : ℕ) → v / 2 ^ w ≡ 0 → v < 2 ^ w
small v w h = subst (λ (x : ℕ). x < 2 ^ w) (ap (λ (q : ℕ). q * 2 ^ w + v % 2 ^ w) (sym h) ∙ split v w) (omega (arith, mod-lt v (pow_pos w)))

pub large : (v w : ℕ) → (v / 2 ^ w ≡ 0 → ⊥) → 2 ^ w ≤ v
large v w h = ⊎_elim (λ l. l) (λ l. absurd (h (div-eq_of_lt l))) (le_or_lt (2 ^ w) v)
