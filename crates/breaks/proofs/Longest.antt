-- What a time signal says, descriptor by descriptor from the left: what was found so far and what is left make the whole. And which
-- descriptor measures: the first of those that are longest, and none that counts is longer.
-- Assumes nothing.
use mathlib.Core.Path.{◌≡◌, refl, sym, ap, ◌∙◌}
use mathlib.Core.Bool.{Bool, true, false, cond, ◌||◌}
use mathlib.Core.List.{List, [], ◌∷◌}
use Prim.Native.Nat.{ℕ, ◌≤◌}
use native.Mathlib.Omega.{arith}
use lib.Dec.{leb, eqb}
use borrow.Author.Tests.{le-leb, lt-leb, leb-true, leb-false, eq-eqb, ne_eqb}
use Rattle.std.specs.Prelude.{Option, Some, None}
use Rattle.breaks.specs.declared.signal.Measure.{Measure}
use Rattle.breaks.specs.declared.signal.Signal.{Signal}
use Rattle.breaks.specs.Signals.{Reading, opens, some_opens, carried, counted, longer, longest_by, signal_of, with_one}

-- ---- the longer of two

absent_last : (a : Option Measure) → longer a None ≡ a
absent_last None = refl
absent_last (Some x) = refl

all_there : (x y z : Measure) (t u : Bool) → leb y.ticks.0 x.ticks.0 ≡ t → leb z.ticks.0 y.ticks.0 ≡ u
    → longer (cond t (Some x) (Some y)) (Some z) ≡ longer (Some x) (cond u (Some y) (Some z))
all_there x y z true true e q =
    ap (λ (b : Bool). cond b (Some x) (Some z)) (le-leb z.ticks.0 x.ticks.0 (omega (arith, leb-true y.ticks.0 x.ticks.0 e, leb-true z.ticks.0 y.ticks.0 q)))
    ∙ ap (λ (b : Bool). cond b (Some x) (Some y)) (sym e)
all_there x y z true false e q = refl
all_there x y z false true e q =
    ap (λ (b : Bool). cond b (Some y) (Some z)) q
    ∙ ap (λ (b : Bool). cond b (Some x) (Some y)) (sym e)
all_there x y z false false e q =
    ap (λ (b : Bool). cond b (Some y) (Some z)) q
    ∙ ap (λ (b : Bool). cond b (Some x) (Some z))
    (sym (lt-leb z.ticks.0 x.ticks.0 (omega (arith, leb-false y.ticks.0 x.ticks.0 e, leb-false z.ticks.0 y.ticks.0 q))))

longest_of_three : (a b c : Option Measure) → longer (longer a b) c ≡ longer a (longer b c)
longest_of_three None b c = refl
longest_of_three (Some x) None c = refl
longest_of_three (Some x) (Some y) None = absent_last (longer (Some x) (Some y))
longest_of_three (Some x) (Some y) (Some z) = all_there x y z (leb y.ticks.0 x.ticks.0) (leb z.ticks.0 y.ticks.0) refl refl

-- ---- what was found so far

either_none : (b : Bool) → (b || false) ≡ b
either_none true = refl
either_none false = refl

either_true : (b : Bool) → (b || true) ≡ true
either_true true = refl
either_true false = refl

either_of_three : (a b c : Bool) → ((a || b) || c) ≡ (a || (b || c))
either_of_three true b c = refl
either_of_three false b c = refl

-- one descriptor more, by whether it opens a break
abbrev with_by : Bool → Signal → Reading → Signal
with_by t g d =
    record { opened = g.opened || t; billed = longer g.billed (cond t (carried d) None); longest = longer g.longest (carried d) }

module _ (g : Signal) (d : Reading) {m l : Option Measure} (is-measure : m ≡ carried d) (is-longest : l ≡ longer g.longest m) where
  longest_is : l ≡ longer g.longest (carried d)
  longest_is = is-longest ∙ ap (longer g.longest) is-measure

  pub with_other : opens d ≡ false → ◌≡◌ {A = Signal} (record { opened = g.opened; billed = g.billed; longest = l }) (with_one g d)
  with_other e =
      (λ i. record { opened = sym (either_none g.opened) i; billed = sym (absent_last g.billed) i; longest = longest_is i })
      ∙ ap (λ (t : Bool). with_by t g d) (sym e)

  pub with_opening : {b : Option Measure} → opens d ≡ true → b ≡ longer g.billed m
      → ◌≡◌ {A = Signal} (record { opened = true; billed = b; longest = l }) (with_one g d)
  with_opening e is-billed =
      (λ i. record { opened = sym (either_true g.opened) i; billed = (is-billed ∙ ap (longer g.billed) is-measure) i; longest = longest_is i })
      ∙ ap (λ (t : Bool). with_by t g d) (sym e)

-- a descriptor that opens no break and carries no duration adds nothing
pub with_idle : (g : Signal) (d : Reading) → opens d ≡ false → carried d ≡ None → with_one g d ≡ g
with_idle g d e m = sym (with_other g d {m = None} {l = g.longest} (sym m) (sym (absent_last g.longest)) e)

-- what was found and what is left make the whole
pub record Found (found : Signal) (left all : List Reading) : Type 0 where
  pub opened : (found.opened || some_opens left) ≡ some_opens all
  pub billed : longer found.billed (longest_by counted left) ≡ longest_by counted all
  pub longest : longer found.longest (longest_by carried left) ≡ longest_by carried all

abbrev pub nothing : Signal
nothing = record { opened = false; billed = None; longest = None }

pub nothing_yet : (all : List Reading) → Found nothing all all
nothing_yet all = record { opened = refl; billed = refl; longest = refl }

-- one descriptor more
one_longer : (f : Reading → Option Measure) (a : Option Measure) (d : Reading) (left all : List Reading)
    → longer a (longest_by f (d ∷ left)) ≡ longest_by f all → longer (longer a (f d)) (longest_by f left) ≡ longest_by f all
unfolding longest_by
one_longer f a d left all h = longest_of_three a (f d) (longest_by f left) ∙ h

pub one_more : (found : Signal) (d : Reading) (left all : List Reading) → Found found (d ∷ left) all → Found (with_one found d) left all
unfolding some_opens
one_more found d left all h =
    record {
      opened = either_of_three found.opened (opens d) (some_opens left) ∙ h.opened;
      billed = one_longer counted found.billed d left all h.billed;
      longest = one_longer carried found.longest d left all h.longest;
    }

pub all_found : (found : Signal) (all : List Reading) → Found found [] all → found ≡ signal_of all
unfolding some_opens longest_by signal_of
all_found found all h =
    let is_open : found.opened ≡ some_opens all = sym (either_none found.opened) ∙ h.opened in
    let is-billed : found.billed ≡ longest_by counted all = sym (absent_last found.billed) ∙ h.billed in
    let is-longest : found.longest ≡ longest_by carried all = sym (absent_last found.longest) ∙ h.longest in
    λ i. record { opened = is_open i; billed = is-billed i; longest = is-longest i }

-- ---- which descriptor measures

-- so many ticks, 0 where there are none
abbrev pub ticks_in : Option Measure → ℕ
ticks_in None = 0
ticks_in (Some m) = m.ticks.0

-- it is there, and of just so many ticks
abbrev pub lasts : ℕ → Option Measure → Bool
lasts n None = false
lasts n (Some m) = eqb m.ticks.0 n

-- the first that a descriptor gives of just so many ticks
unfoldable pub first_of : (Reading → Option Measure) → ℕ → List Reading → Option Measure
first_of f n [] = None
first_of f n (d ∷ ds) = cond (lasts n (f d)) (f d) (first_of f n ds)

-- no descriptor gives more than so many ticks
unfoldable pub NoneLonger : (Reading → Option Measure) → ℕ → List Reading → Type 0
NoneLonger f n [] = Unit {0}
NoneLonger f n (d ∷ ds) = (ticks_in (f d) ≤ n) × NoneLonger f n ds

-- what was picked is one of the two, and no shorter than either
picked : (a b : Option Measure) (rest : ℕ → Option Measure) → rest (ticks_in b) ≡ b
    → (cond (lasts (ticks_in (longer a b)) a) a (rest (ticks_in (longer a b))) ≡ longer a b)
    × (ticks_in a ≤ ticks_in (longer a b))
    × (ticks_in b ≤ ticks_in (longer a b))
picked None b rest h = (h, omega arith, omega arith)
picked (Some x) None rest h = (rw (eq-eqb x.ticks.0 x.ticks.0 refl), omega arith, omega arith)
picked (Some x) (Some y) rest h = by (leb y.ticks.0 x.ticks.0) refl
  where
    by : (t : Bool) → leb y.ticks.0 x.ticks.0 ≡ t
        → (cond (lasts (ticks_in (cond t (Some x) (Some y))) (Some x)) (Some x) (rest (ticks_in (cond t (Some x) (Some y)))) ≡ cond t (Some x) (Some y))
        × (x.ticks.0 ≤ ticks_in (cond t (Some x) (Some y)))
        × (y.ticks.0 ≤ ticks_in (cond t (Some x) (Some y)))
    by true e = (rw (eq-eqb x.ticks.0 x.ticks.0 refl), omega arith, leb-true y.ticks.0 x.ticks.0 e)
    by false e =
        let past : x.ticks.0 ≤ y.ticks.0 = omega (arith, leb-false y.ticks.0 x.ticks.0 e) in
        (rw (ne_eqb x.ticks.0 y.ticks.0 (λ q. omega (arith, leb-false y.ticks.0 x.ticks.0 e))) h, past, omega arith)

-- the longest is what the first descriptor of so many ticks gives
pub first_longest : (f : Reading → Option Measure) (ds : List Reading) → first_of f (ticks_in (longest_by f ds)) ds ≡ longest_by f ds
unfolding longest_by first_of
first_longest f [] = refl
first_longest f (d ∷ ds) = (picked (f d) (longest_by f ds) (λ n. first_of f n ds) (first_longest f ds)).0

-- and none gives more
none_above : (f : Reading → Option Measure) (ds : List Reading) (m n : ℕ) → m ≤ n → NoneLonger f m ds → NoneLonger f n ds
unfolding NoneLonger
none_above f [] m n h a = tt
none_above f (d ∷ ds) m n h a = (omega (arith, a.0, h), none_above f ds m n h a.1)

pub none_longer : (f : Reading → Option Measure) (ds : List Reading) → NoneLonger f (ticks_in (longest_by f ds)) ds
unfolding longest_by NoneLonger
none_longer f [] = tt
none_longer f (d ∷ ds) =
    let p = picked (f d) (longest_by f ds) (λ n. first_of f n ds) (first_longest f ds) in
    (p.1, none_above f ds (ticks_in (longest_by f ds)) (ticks_in (longest_by f (d ∷ ds))) p.2 (none_longer f ds))
