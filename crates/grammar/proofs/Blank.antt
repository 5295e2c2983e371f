-- Reserved rows have no name, so that setting their values to 0 changes nothing that is asked by name.
-- Assumes nothing.
use mathlib.Core.Path.{◌≡◌, refl, ap, ap₂, ◌∙◌}
use mathlib.Core.Bool.{Bool, true, false, cond}
use mathlib.Core.List.{List, [], ◌∷◌}
use Prim.Native.Nat.{ℕ, zero, suc}
use Rattle.grammar.specs.Syntax.{Item, field, reserved}
use Rattle.grammar.specs.Traces.{Trace, blank_value, blank}
use Rattle.grammar.specs.Names.{Name, is_named, look, all_of, before, from, opening, part}

-- ---- by name

-- a row that has the name keeps its value
kept : {A : Type 0} (n : Name) (i : Item) (v : ℕ) (f : ℕ → A) (r : A) → cond (is_named n i) (f (blank_value i v)) r ≡ cond (is_named n i) (f v) r
kept n (field w m) v f r = refl
kept n (reserved w) v f r = refl

pub look_blank : (t : Trace) (n : Name) → look (blank t) n ≡ look t n
unfolding look blank
look_blank [] n = refl
look_blank (x ∷ t) n = kept n x.0 x.1 (λ v. v) (look (blank t) n) ∙ ap (cond (is_named n x.0) x.1) (look_blank t n)

pub all_blank : (t : Trace) (n : Name) → all_of (blank t) n ≡ all_of t n
unfolding all_of blank
all_blank [] n = refl
all_blank (x ∷ t) n =
    kept n x.0 x.1 (λ v. v ∷ all_of (blank t) n) (all_of (blank t) n)
    ∙ ap (λ (l : List ℕ). cond (is_named n x.0) (x.1 ∷ l) l) (all_blank t n)

-- ---- parts

-- the rows of either of two
pub blank_cond : (b : Bool) (t u : Trace) → cond b (blank t) (blank u) ≡ blank (cond b t u)
blank_cond true t u = refl
blank_cond false t u = refl

pub before_blank : (n : Name) (t : Trace) → before n (blank t) ≡ blank (before n t)
unfolding before blank
before_blank n [] = refl
before_blank n (x ∷ t) =
    ap (λ (u : Trace). cond (is_named n x.0) [] ((x.0, blank_value x.0 x.1) ∷ u)) (before_blank n t)
    ∙ blank_cond (is_named n x.0) [] (x ∷ before n t)

pub from_blank : (n : Name) (m : ℕ) (t : Trace) → from n m (blank t) ≡ blank (from n m t)
unfolding from blank
from_blank n m [] = refl
from_blank n zero (x ∷ t) =
    ap (cond (is_named n x.0) (blank (x ∷ t))) (from_blank n zero t) ∙ blank_cond (is_named n x.0) (x ∷ t) (from n zero t)
from_blank n (suc m) (x ∷ t) =
    ap₂ (λ (u v : Trace). cond (is_named n x.0) u v) (from_blank n m t) (from_blank n (suc m) t)
    ∙ blank_cond (is_named n x.0) (from n m t) (from n (suc m) t)

opening_blank : (n : Name) (t : Trace) → opening n (blank t) ≡ blank (opening n t)
unfolding opening blank
opening_blank n [] = refl
opening_blank n (x ∷ t) = ap (λ (u : Trace). (x.0, blank_value x.0 x.1) ∷ u) (before_blank n t)

pub part_blank : (n : Name) (m : ℕ) (t : Trace) → part n m (blank t) ≡ blank (part n m t)
unfolding part
part_blank n m t = ap (opening n) (from_blank n m t) ∙ opening_blank n (from n m t)
