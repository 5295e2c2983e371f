-- Where a reading ends, by any grammar: within its frame, after as many bits as its trace covers, and the same whatever bits lie
-- outside. A sweep never runs out of steps.
-- Assumes nothing.
use mathlib.Core.Path.{◌≡◌, refl, ap, ap₂, ◌∙◌, subst, fun_ext}
use mathlib.Core.Bool.{Bool, true, false, cond}
use mathlib.Core.List.{List, [], ◌++◌}
use Prim.Native.Nat.{ℕ, zero, suc, ◌+◌, ◌-◌, ◌≤◌, ◌<◌}
use native.Mathlib.Omega.{arith}
use lib.Dec.{leb, ltb, eqb}
use borrow.Author.Tests.{ltb-true, leb-false, eqb-true, le-leb, lt-leb}
use Rattle.bits.proofs.Cases.{cond_same}
use Rattle.grammar.specs.Syntax.{Item, Prog, fill}
use Rattle.grammar.specs.Meaning.{Env, width, values, bind, Reading, broken, reached, after, then, sweep, exactly, numbered, read}
use Rattle.grammar.specs.Traces.{Trace, rows_of, size, Spans}
use Rattle.grammar.proofs.Traces.{size_values, spans_values, rows_ext, size_append, spans_append}
use Rattle.grammar.proofs.Induction.{Kept, kept}

-- where a place was reached, P holds of it and of the trace; the laws below carry that through the parts of a reading
pub data Gives (P : ℕ → Trace → Type 0) : Reading → Type 0 where
  breaks : {n : ℕ} → Gives P (broken n)
  gives : {j : ℕ} {t : Trace} → P j t → Gives P (reached j t)

pub given : {P : ℕ → Trace → Type 0} {r : Reading} {j : ℕ} {t : Trace} → Gives P r → r ≡ reached j t → P j t
given {P} h e = of (subst (Gives P) e h)
  where
    of : {j : ℕ} {t : Trace} → Gives P (reached j t) → P j t
    of (gives h) = h

pub when_gives : {P : ℕ → Trace → Type 0} (b : Bool) {r : Reading} → (b ≡ true → Gives P r) → Gives P (cond b r (broken 0))
when_gives true h = h refl
when_gives false h = breaks

pub after_gives : {P Q : ℕ → Trace → Type 0} {r : Reading} (u : Trace) → Gives P r → ((j : ℕ) (v : Trace) → P j v → Q j (u ++ v))
    → Gives Q (after u r)
unfolding after
after_gives u breaks h = breaks
after_gives u (gives {j = j} {t = v} c) h = gives (h j v c)

pub then_gives : {P R : ℕ → Trace → Type 0} {Q : ℕ → ℕ → Trace → Type 0} {r : Reading} {g : ℕ → Reading} → Gives P r
    → ((i : ℕ) → Gives (Q i) (g i)) → ((i j : ℕ) (u v : Trace) → P i u → Q i j v → R j (u ++ v)) → Gives R (then r g)
unfolding then
then_gives breaks l h = breaks
then_gives (gives {j = i} {t = u} c) l h = after_gives u (l i) (λ j v. h i j u v c)

pub numbered_gives : {P : ℕ → Trace → Type 0} {r : Reading} (n : ℕ) → Gives P r → Gives P (numbered n r)
unfolding numbered
numbered_gives n (breaks {n = zero}) = breaks
numbered_gives n (breaks {n = suc m}) = breaks
numbered_gives n (gives h) = gives h

-- ---- the end and the trace

-- a reading from place k ends after the bits of its trace, not past the end, and its trace spans
record Goes (f : ℕ → ℕ) (end k j : ℕ) (t : Trace) : Type 0 where
  far : j ≡ k + size t
  inside : k ≤ end → j ≤ end
  spanned : Spans f k t

-- nothing read ends where it starts
none : (f : ℕ → ℕ) (end k : ℕ) → Goes f end k k []
unfolding rows_of
none f end k = record { far = omega arith; inside = λ h. h; spanned = tt }

-- two readings one after the other
both : {f : ℕ → ℕ} {end k i j : ℕ} {u v : Trace} → Goes f end k i u → Goes f end i j v → Goes f end k j (u ++ v)
both {f} {k = k} {u = u} {v = v} h l =
    record {
      far = omega (arith, h.far, l.far, size_append u v);
      inside = λ m. l.inside (h.inside m);
      spanned = spans_append f k u v h.spanned (rw h.far at l.spanned);
    }

-- rows that are there
rows_go : (f : ℕ → ℕ) (end k : ℕ) (rows : List Item) → k + width rows ≤ end → Goes f end k (k + width rows) (values rows f k)
rows_go f end k rows m = record { far = rw size_values; inside = λ h. m; spanned = spans_values rows f k }

-- a part that is used up ends where the part does
exactly_goes : {f : ℕ → ℕ} {end e k : ℕ} {r : Reading} → e ≤ end → Gives (Goes f e k) r → Gives (Goes f end k) (exactly e r)
unfolding exactly
exactly_goes m breaks = breaks
exactly_goes {e = e} m (gives {j = j} h) =
    when_gives (eqb j e) (λ q. gives (record { far = h.far; inside = λ l. omega (arith, eqb-true j e q); spanned = h.spanned }))

-- ---- bits outside

-- f and g have the same bits from place k up to the end
abbrev Agree : (ℕ → ℕ) → (ℕ → ℕ) → ℕ → ℕ → Type 0
Agree f g end k = (i : ℕ) → k ≤ i → i < end → f i ≡ g i

-- two readings that agree agree with what comes after them
then_same : {f g : ℕ → ℕ} {end k : ℕ} {r r' : Reading} {h h' : ℕ → Reading} → Gives (Goes f end k) r → Agree f g end k → r ≡ r'
    → ((i : ℕ) → Agree f g end i → h i ≡ h' i) → then r h ≡ then r' h'
unfolding then
then_same {h' = h'} breaks m e l = ap (λ (x : Reading). then x h') e
then_same {h' = h'} (gives {j = i} {t = t} c) m e l =
    ap (after t) (l i (λ j b. m j (omega (arith, c.far)))) ∙ ap (λ (x : Reading). then x h') e

-- and so do rows
rows_same : (f g : ℕ → ℕ) (end k : ℕ) (rows : List Item) (env : Env) (r : Env → (ℕ → ℕ) → Reading) → k + width rows ≤ end → Agree f g end k
    → ((env' : Env) → Agree f g end (k + width rows) → r env' f ≡ r env' g)
    → after (values rows f k) (r (bind rows f k env) f) ≡ after (values rows g k) (r (bind rows g k env) g)
rows_same f g end k rows env r l m h =
    let same = rows_ext f g rows k env (λ i a b. m i a (omega arith)) in
    ap₂ after same.0 (h (bind rows f k env) (λ i a. m i (omega arith)) ∙ ap (λ (env' : Env). r env' g) same.1)

-- ---- for every grammar

-- what is claimed of a reading from place k
record Along (end k : ℕ) (r : (ℕ → ℕ) → Reading) : Type 0 where
  goes : (f : ℕ → ℕ) → Gives (Goes f end k) (r f)
  same : (f g : ℕ → ℕ) → Agree f g end k → r f ≡ r g

-- each part of a grammar keeps it
parts : Kept (λ end k r w. Along end k r)
parts =
    record {
      nothing = λ end k. record { goes = λ f. gives (none f end k); same = λ f g m. refl };
      breach = λ end k. record { goes = λ f. breaks; same = λ f g m. refl };
      onward = λ a b.
          record {
            goes = λ f. then_gives (a.goes f) (λ i. (b i).goes f) (λ i j u v. both);
            same = λ f g m. then_same (a.goes f) m (a.same f g m) (λ i. (b i).same f g);
          };
      rows = λ end k is env g h m l.
          record {
            goes = λ f. after_gives (values is f k) ((l (bind is f k env)).goes f) (λ j v. both (rows_go f end k is m));
            same = λ f g' a. rows_same f g' end k is env g m a (λ env'. (l env').same f g');
          };
      part = λ l a.
          record {
            goes = λ f. exactly_goes l (a.goes f);
            same = λ f g m. ap (exactly _) (a.same f g (λ i h b. m i h (omega arith)));
          };
      label = λ n a. record { goes = λ f. numbered_gives n (a.goes f); same = λ f g m. ap (numbered n) (a.same f g m) };
    }

along : (p : Prog) (env : Env) (end k : ℕ) → Along end k (λ f. read p env f end k)
along = kept (λ end k r w. Along end k r) parts

module _ (p : Prog) (env : Env) (f : ℕ → ℕ) (end k j : ℕ) (t : Trace) (e : read p env f end k ≡ reached j t) where
  -- a reading ends within its frame
  pub ends_within : k ≤ end → (k ≤ j) × (j ≤ end)
  ends_within h = let g = given ((along p env end k).goes f) e in (omega (arith, g.far), g.inside h)

  -- it ends after as many bits as its trace covers
  pub covers : j ≡ k + size t
  covers = (given ((along p env end k).goes f) e).far

  -- each row of its trace is the number that the bits make at its place
  pub trace_spans : Spans f k t
  trace_spans = (given ((along p env end k).goes f) e).spanned

-- bits before the place and from the end on do not matter
pub bits_outside : (p : Prog) (env : Env) (f g : ℕ → ℕ) (end k : ℕ) → ((i : ℕ) → k ≤ i → i < end → f i ≡ g i)
    → read p env f end k ≡ read p env g end k
bits_outside p env f g end k = (along p env end k).same f g

-- ---- a sweep

-- with as many steps as bits are left, or more, it does not matter how many: a sweep never runs out
pub sweep_steps : (n m : ℕ) (g : ℕ → Reading) (end k : ℕ) → end - k ≤ n → end - k ≤ m → sweep n g end k ≡ sweep m g end k
unfolding sweep
sweep_steps zero zero g end k h l = refl
sweep_steps zero (suc m) g end k h l = cond_same (leb end k) (λ q. refl) (λ q. absurd (omega (arith, leb-false end k q)))
sweep_steps (suc n) zero g end k h l = cond_same (leb end k) (λ q. refl) (λ q. absurd (omega (arith, leb-false end k q)))
sweep_steps (suc n) (suc m) g end k h l =
    cond_same (leb end k) (λ q. refl)
    (λ q.
    ap (then (g k))
    (fun_ext
    (λ j. cond_same (ltb k j) (λ c. let on : k < j = ltb-true k j c in sweep_steps n m g end j (omega arith) (omega arith)) (λ c. refl))))

-- at the end it is over
pub sweep_over : (n : ℕ) (g : ℕ → Reading) (end k : ℕ) → end ≤ k → sweep n g end k ≡ reached k []
unfolding sweep
sweep_over zero g end k h = rw (le-leb end k h)
sweep_over (suc n) g end k h = rw (le-leb end k h)

-- before the end it is the body once, which must go on, and a sweep from there
pub sweep_more : (n : ℕ) (g : ℕ → Reading) (end k : ℕ) → end - k ≤ n → k < end
    → sweep n g end k ≡ then (g k) (λ j. cond (ltb k j) (sweep (end - j) g end j) (broken 0))
unfolding sweep
sweep_more zero g end k h l = absurd (omega arith)
sweep_more (suc n) g end k h l =
    rw (lt-leb end k l)
    (ap (then (g k))
    (fun_ext (λ j. cond_same (ltb k j) (λ c. sweep_steps n (end - j) g end j (omega (arith, ltb-true k j c)) (omega arith)) (λ c. refl))))

-- the steps that `fill` counts out are no limit
pub fill_steps : (a p : Prog) (env : Env) (f : ℕ → ℕ) (end k n : ℕ) → end - k ≤ n
    → read (fill a p) env f end k ≡ then (sweep n (λ j. read a env f end j) end k) (λ j. read p env f end j)
unfolding read
fill_steps a p env f end k n h = ap (λ (r : Reading). then r (λ j. read p env f end j)) (sweep_steps _ n _ end k (omega arith) h)
