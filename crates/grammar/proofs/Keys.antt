-- The arms of a `match` on a number: what holds of each of an arm's keys holds there, and none of the keys is the number elsewhere. And
-- a number that is not among some is none of them.
-- Assumes nothing.
use mathlib.Core.Path.{◌≡◌, refl, sym, ap, ◌∙◌, subst}
use mathlib.Core.Bool.{Bool, true, false, ◌&&◌, ◌||◌}
use mathlib.Core.List.{List, [], ◌∷◌}
use mathlib.Core.Logic.{inl, inr}
use Prim.Native.Nat.{ℕ}
use lib.Dec.{T, eqb}
use mir.Val.{has_key}
use types.Run.{OneOf, hit}
use borrow.Author.Tests.{ne_eqb}
use Rattle.bits.proofs.Cases.{and_left, and_right, neither}
use Rattle.grammar.specs.Meaning.{is_among}

-- the test holds of each of these
abbrev pub every : (ℕ → Bool) → List ℕ → Bool
every g [] = true
every g (x ∷ xs) = g x && every g xs

pub one_of : (g : ℕ → Bool) (ks : List ℕ) (x : ℕ) → every g ks ≡ true → OneOf ks x → g x ≡ true
one_of g [] x h o = absurd o
one_of g (k ∷ []) x h o = ap g o ∙ and_left (g k) _ h
one_of g (k ∷ (l ∷ ks)) x h (inl e) = ap g e ∙ and_left (g k) _ h
one_of g (k ∷ (l ∷ ks)) x h (inr o) = one_of g (l ∷ ks) x (and_right (g k) _ h) o

pub none_of : (xs ks : List ℕ) (x : ℕ) → every (has_key ks) xs ≡ true → (OneOf ks x → ⊥) → is_among x xs ≡ false
none_of [] ks x h other = refl
none_of (y ∷ xs) ks x h other =
    let differs : x ≡ y → ⊥ = λ e. other (hit ks x (subst T (sym (ap (has_key ks) e ∙ and_left (has_key ks y) _ h)) tt)) in
    ap (λ (t : Bool). t || is_among x xs) (ne_eqb x y differs) ∙ none_of xs ks x (and_right (has_key ks y) _ h) other

-- the number is none of these
abbrev pub NoneOf : ℕ → List ℕ → Type 0
NoneOf x [] = Unit {0}
NoneOf x (v ∷ vs) = (eqb x v ≡ false) × NoneOf x vs

pub not_among : (x : ℕ) (vs : List ℕ) → is_among x vs ≡ false → NoneOf x vs
not_among x [] h = tt
not_among x (v ∷ vs) h = let n = neither (eqb x v) (is_among x vs) h in (n.0, not_among x vs n.1)
