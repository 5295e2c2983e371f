-- How a run goes, one law for each way in which a grammar goes on: what a parser's proof follows, line by line.
-- Assumes nothing.
use mathlib.Core.Path.{◌≡◌, refl, sym, ap, ◌∙◌}
use mathlib.Core.Bool.{Bool, true, false, cond}
use mathlib.Core.List.{List, [], ◌∷◌}
use mathlib.Core.Logic.{⊎_elim}
use Prim.Native.Nat.{ℕ, zero, suc, ◌+◌, ◌-◌, ◌*◌, ◌≤◌, ◌<◌}
use Prim.Native.String.{String}
use native.Mathlib.Nat.{suc-mul}
use native.Mathlib.Omega.{arith}
use lib.Dec.{leb, ltb, eqb}
use borrow.Author.Tests.{le-leb, lt-leb, lt-ltb, le-ltb, ltb-true, eq-eqb, ne_eqb}
use Rattle.bits.proofs.Cases.{cond_same, le_or_lt}
use Rattle.grammar.specs.Syntax.{Item, Test, Prog, field, more, done, stop, fields, branch, call, repeat, frame, fill, under}
use Rattle.grammar.specs.Meaning.{Env, value_of, width, values, bind, holds, Reading, broken, reached, after, then, again, sweep, exactly, numbered, read, Outcome, breach, ends, end_of, run}

-- the run of p from place k ends as o says
pub record Runs (p : Prog) (env : Env) (f : ℕ → ℕ) (end k : ℕ) (o : Outcome) : Type 0 where
  pub runs : run p env f end k ≡ o

-- ---- outcomes

-- on from where the first ended
abbrev pub on : Outcome → (ℕ → Outcome) → Outcome
on (breach n) g = breach n
on (ends k) g = g k

on_same : (o : Outcome) (u v : ℕ → Outcome) → ((j : ℕ) → u j ≡ v j) → on o u ≡ on o v
on_same (breach m) u v h = refl
on_same (ends j) u v h = h j

end_cond : (t : Bool) (a b : Reading) → end_of (cond t a b) ≡ cond t (end_of a) (end_of b)
end_cond true a b = refl
end_cond false a b = refl

pub end_after : (t : List (Item × ℕ)) (r : Reading) → end_of (after t r) ≡ end_of r
unfolding after end_of
end_after t (broken n) = refl
end_after t (reached k u) = refl

end_then : (r : Reading) (g : ℕ → Reading) → end_of (then r g) ≡ on (end_of r) (λ j. end_of (g j))
unfolding then end_of
end_then (broken n) g = refl
end_then (reached k t) g = end_after t (g k)

-- ---- the ways on

pub finished : {env : Env} {f : ℕ → ℕ} {end k j : ℕ} → k ≡ j → Runs done env f end k (ends j)
unfolding run read end_of
finished e = record { runs = ap ends e }

pub stopped : {env : Env} {f : ℕ → ℕ} {end k : ℕ} → Runs stop env f end k (breach 0)
unfolding run read end_of
stopped = record { runs = refl }

-- the same place, said in another way
pub at_place : {p : Prog} {env : Env} {f : ℕ → ℕ} {end k j : ℕ} {o : Outcome} → k ≡ j → Runs p env f end j o → Runs p env f end k o
at_place {p} {env} {f} {end} e r = record { runs = ap (run p env f end) e ∙ r.runs }

-- the same outcome, said in another way
pub becomes : {p : Prog} {env : Env} {f : ℕ → ℕ} {end k : ℕ} {x o : Outcome} → Runs p env f end k x → x ≡ o → Runs p env f end k o
becomes r e = record { runs = r.runs ∙ e }

-- rows that are all there
pub pass : {rows : List Item} {p : Prog} {env : Env} {f : ℕ → ℕ} {end k : ℕ} {o : Outcome} → k + width rows ≤ end
    → Runs p (bind rows f k env) f end (k + width rows) o → Runs (fields rows p) env f end k o
unfolding run read
pass {rows} {p} {env} {f} {end} {k} h r =
    record {
      runs =
          ap (λ (t : Bool). end_of (cond t (after (values rows f k) (read p (bind rows f k env) f end (k + width rows))) (broken 0))) (le-leb _ _ h)
          ∙ end_after (values rows f k) (read p (bind rows f k env) f end (k + width rows))
          ∙ r.runs;
    }

-- rows that are not
pub short : {rows : List Item} {p : Prog} {env : Env} {f : ℕ → ℕ} {end k : ℕ} → end < k + width rows → Runs (fields rows p) env f end k (breach 0)
unfolding run read end_of
short {rows} {p} {env} {f} {end} {k} h =
    record {
      runs =
          ap (λ (t : Bool). end_of (cond t (after (values rows f k) (read p (bind rows f k env) f end (k + width rows))) (broken 0))) (lt-leb _ _ h);
    }

-- on from a reading that ends as x says
seq : (p : Prog) (env : Env) (f : ℕ → ℕ) (end : ℕ) {x o : Outcome} (r : Reading) → end_of r ≡ x → on x (run p env f end) ≡ o
    → end_of (then r (λ j. read p env f end j)) ≡ o
unfolding run
seq p env f end r e q = end_then r (λ j. read p env f end j) ∙ ap (λ (y : Outcome). on y (run p env f end)) e ∙ q

pub yes : {t : Test} {a b p : Prog} {env : Env} {f : ℕ → ℕ} {end k : ℕ} {x o : Outcome} → holds t env end k ≡ true
    → Runs a env f end k x → on x (run p env f end) ≡ o → Runs (branch t a b p) env f end k o
unfolding run read
yes {t} {a} {b} {p} {env} {f} {end} {k} h r q =
    record {
      runs =
          seq p env f end (cond (holds t env end k) (read a env f end k) (read b env f end k))
          (ap (λ (u : Bool). end_of (cond u (read a env f end k) (read b env f end k))) h ∙ r.runs) q;
    }

pub no : {t : Test} {a b p : Prog} {env : Env} {f : ℕ → ℕ} {end k : ℕ} {x o : Outcome} → holds t env end k ≡ false
    → Runs b env f end k x → on x (run p env f end) ≡ o → Runs (branch t a b p) env f end k o
unfolding run read
no {t} {a} {b} {p} {env} {f} {end} {k} h r q =
    record {
      runs =
          seq p env f end (cond (holds t env end k) (read a env f end k) (read b env f end k))
          (ap (λ (u : Bool). end_of (cond u (read a env f end k) (read b env f end k))) h ∙ r.runs) q;
    }

pub called : {a p : Prog} {env : Env} {f : ℕ → ℕ} {end k : ℕ} {x o : Outcome}
    → Runs a env f end k x → on x (run p env f end) ≡ o → Runs (call a p) env f end k o
unfolding run read
called {a} {p} {env} {f} {end} {k} r q = record { runs = seq p env f end (read a env f end k) r.runs q }

-- the same where nothing comes after
on_done : (env : Env) (f : ℕ → ℕ) (end : ℕ) (x : Outcome) → on x (run done env f end) ≡ x
unfolding run read end_of
on_done env f end (breach n) = refl
on_done env f end (ends k) = refl

pub yes_last : {t : Test} {a b : Prog} {env : Env} {f : ℕ → ℕ} {end k : ℕ} {o : Outcome} → holds t env end k ≡ true
    → Runs a env f end k o → Runs (branch t a b done) env f end k o
yes_last {t} {a} {b} {env} {f} {end} {k} {o} h r = yes h r (on_done env f end o)

pub no_last : {t : Test} {a b : Prog} {env : Env} {f : ℕ → ℕ} {end k : ℕ} {o : Outcome} → holds t env end k ≡ false
    → Runs b env f end k o → Runs (branch t a b done) env f end k o
no_last {t} {a} {b} {env} {f} {end} {k} {o} h r = no h r (on_done env f end o)

-- a branch runs as the table that a choice by the same test names, where each of its arms does
pub chosen : {A : Type 0} {test : Test} {p q : Prog} {env : Env} {f : ℕ → ℕ} {end k : ℕ} {o : Outcome} (table : A → Prog) (t : Bool) (a b : A)
    → holds test env end k ≡ t → (Runs (table a) env f end k o → Runs p env f end k o) → (Runs (table b) env f end k o → Runs q env f end k o)
    → Runs (table (cond t a b)) env f end k o → Runs (branch test p q done) env f end k o
chosen table true a b e first second r = yes_last e (first r)
chosen table false a b e first second r = no_last e (second r)

-- something is left of the part, or nothing
pub more_left : {a b : Prog} {env : Env} {f : ℕ → ℕ} {end k : ℕ} {o : Outcome} → k < end → Runs a env f end k o → Runs (branch more a b done) env f end k o
more_left {a} {b} {env} {f} {end} {k} h r = yes_last (lt-ltb k end h) r

pub none_left : {a b : Prog} {env : Env} {f : ℕ → ℕ} {end k : ℕ} {o : Outcome} → end ≤ k → Runs b env f end k o → Runs (branch more a b done) env f end k o
none_left {a} {b} {env} {f} {end} {k} h r = no_last (le-ltb k end h) r

pub called_last : {a : Prog} {env : Env} {f : ℕ → ℕ} {end k : ℕ} {o : Outcome} → Runs a env f end k o → Runs (call a done) env f end k o
called_last {a} {env} {f} {end} {k} {o} r = called r (on_done env f end o)

-- ---- so many times

abbrev pub times : ℕ → (ℕ → Outcome) → ℕ → Outcome
times zero g k = ends k
times (suc n) g k = on (g k) (times n g)

pub end_again : (n : ℕ) (g : ℕ → Reading) (k : ℕ) → end_of (again n g k) ≡ times n (λ j. end_of (g j)) k
unfolding again end_of
end_again zero g k = refl
end_again (suc n) g k = end_then (g k) (again n g) ∙ on_same (end_of (g k)) (λ j. end_of (again n g j)) (times n (λ j. end_of (g j))) (end_again n g)

pub times_none : (n : ℕ) (g : ℕ → Outcome) (k : ℕ) → n ≡ 0 → times n g k ≡ ends k
times_none n g k h = ap (λ (m : ℕ). times m g k) h

-- one time more
times_more : (n : ℕ) (g : ℕ → Outcome) (k : ℕ) {x : Outcome} → 0 < n → g k ≡ x → times n g k ≡ on x (times (n - 1) g)
times_more n g k h e =
    let one_more : n ≡ suc (n - 1) = omega arith in
    ap (λ (m : ℕ). times m g k) one_more ∙ ap (λ (o : Outcome). on o (times (n - 1) g)) e

pub times_on_lem : (n : ℕ) (g : ℕ → Outcome) (k : ℕ) {j : ℕ} → 0 < n → g k ≡ ends j → times n g k ≡ times (n - 1) g j
times_on_lem n g k h e = times_more n g k h e

pub times_off : (n : ℕ) (g : ℕ → Outcome) (k : ℕ) {m : ℕ} → 0 < n → g k ≡ breach m → times n g k ≡ breach m
times_off n g k h e = times_more n g k h e

pub repeated : {n : String} {a p : Prog} {env : Env} {f : ℕ → ℕ} {end k : ℕ} {x o : Outcome}
    → times (value_of env n) (run a env f end) k ≡ x → on x (run p env f end) ≡ o → Runs (repeat n a p) env f end k o
unfolding run read
repeated {n} {a} {p} {env} {f} {end} {k} r q =
    record {
      runs =
          seq p env f end (again (value_of env n) (λ j. read a env f end j) k)
          (end_again (value_of env n) (λ j. read a env f end j) k ∙ r) q;
    }

pub repeated_last : {n : String} {a : Prog} {env : Env} {f : ℕ → ℕ} {end k : ℕ} {o : Outcome}
    → times (value_of env n) (run a env f end) k ≡ o → Runs (repeat n a done) env f end k o
repeated_last {n} {a} {env} {f} {end} {k} {o} r = repeated r (on_done env f end o)

-- a repeat of rows of a fixed width needs no loop
pub many : (rows : List Item) (env : Env) (f : ℕ → ℕ) (end n k : ℕ) → k + n * width rows ≤ end
    → times n (run (fields rows done) env f end) k ≡ ends (k + n * width rows)
many rows env f end zero k h = ap ends (omega arith)
many rows env f end (suc n) k h =
    let one : k + width rows ≤ end = omega (arith, suc-mul n (width rows)) in
    let step : Runs (fields rows done) env f end k (ends (k + width rows)) = pass one (finished refl) in
    ap (λ (o : Outcome). on o (times n (run (fields rows done) env f end))) step.runs
    ∙ many rows env f end n (k + width rows) (omega (arith, suc-mul n (width rows)))
    ∙ ap ends (omega (arith, suc-mul n (width rows)))

pub few : (rows : List Item) (env : Env) (f : ℕ → ℕ) (end n k : ℕ) → k ≤ end → end < k + n * width rows
    → times n (run (fields rows done) env f end) k ≡ breach 0
few rows env f end zero k l h = absurd (omega arith)
few rows env f end (suc n) k l h =
    ⊎_elim
    (λ one.
    let step : Runs (fields rows done) env f end k (ends (k + width rows)) = pass one (finished refl) in
    ap (λ (o : Outcome). on o (times n (run (fields rows done) env f end))) step.runs
    ∙ few rows env f end n (k + width rows) one (omega (arith, suc-mul n (width rows))))
    (λ missing.
    let step : Runs (fields rows done) env f end k (breach 0) = short missing in
    ap (λ (o : Outcome). on o (times n (run (fields rows done) env f end))) step.runs)
    (le_or_lt (k + width rows) end)

-- the same as a step of a run: m times these rows, all there or not
pub all_there : {n : String} {rows : List Item} {p : Prog} {env : Env} {f : ℕ → ℕ} {end k : ℕ} {o : Outcome} (m : ℕ) → value_of env n ≡ m
    → k + m * width rows ≤ end → Runs p env f end (k + m * width rows) o → Runs (repeat n (fields rows done) p) env f end k o
all_there {n} {rows} {p} {env} {f} {end} {k} m e h r =
    repeated (ap (λ (i : ℕ). times i (run (fields rows done) env f end) k) e ∙ many rows env f end m k h) r.runs

pub not_all_there : {n : String} {rows : List Item} {p : Prog} {env : Env} {f : ℕ → ℕ} {end k : ℕ} (m : ℕ) → value_of env n ≡ m
    → k ≤ end → end < k + m * width rows → Runs (repeat n (fields rows done) p) env f end k (breach 0)
not_all_there {n} {rows} {p} {env} {f} {end} {k} m e l h =
    repeated (ap (λ (i : ℕ). times i (run (fields rows done) env f end) k) e ∙ few rows env f end m k l h) refl

-- ---- a part of a given length

abbrev pub exact : ℕ → Outcome → Outcome
exact e (breach n) = breach n
exact e (ends k) = cond (eqb k e) (ends k) (breach 0)

end_exactly : (e : ℕ) (r : Reading) → end_of (exactly e r) ≡ exact e (end_of r)
unfolding exactly end_of
end_exactly e (broken n) = refl
end_exactly e (reached k t) = end_cond (eqb k e) (reached k t) (broken 0)

pub framed : {n : String} {a p : Prog} {env : Env} {f : ℕ → ℕ} {end k e : ℕ} {x o : Outcome} → k + 8 * value_of env n ≡ e → e ≤ end
    → Runs a env f e k x → on (exact e x) (run p env f end) ≡ o → Runs (frame n a p) env f end k o
unfolding run read
framed {n} {a} {p} {env} {f} {end} {k} {e} {x} {o} same h r q =
    record {
      runs =
          ap (λ (d : ℕ). end_of (cond (leb d end) (then (exactly d (read a env f d k)) (λ j. read p env f end j)) (broken 0))) same
          ∙ ap (λ (t : Bool). end_of (cond t (then (exactly e (read a env f e k)) (λ j. read p env f end j)) (broken 0))) (le-leb e end h)
          ∙ seq p env f end (exactly e (read a env f e k)) (end_exactly e (read a env f e k) ∙ ap (exact e) r.runs) q;
    }

-- the body uses the part up; it does not; it breaks a rule
pub framed_all : {n : String} {a p : Prog} {env : Env} {f : ℕ → ℕ} {end k e : ℕ} {o : Outcome} → k + 8 * value_of env n ≡ e → e ≤ end
    → Runs a env f e k (ends e) → Runs p env f end e o → Runs (frame n a p) env f end k o
framed_all {p = p} {env = env} {f = f} {end = end} {e = e} same h r q =
    framed same h r (ap (λ (t : Bool). on (cond t (ends e) (breach 0)) (run p env f end)) (eq-eqb e e refl) ∙ q.runs)

pub framed_left : {n : String} {a p : Prog} {env : Env} {f : ℕ → ℕ} {end k e j : ℕ} → k + 8 * value_of env n ≡ e → e ≤ end
    → Runs a env f e k (ends j) → (j ≡ e → ⊥) → Runs (frame n a p) env f end k (breach 0)
framed_left {p = p} {env = env} {f = f} {end = end} {e = e} {j = j} same h r left =
    framed same h r (ap (λ (t : Bool). on (cond t (ends j) (breach 0)) (run p env f end)) (ne_eqb j e left))

pub framed_off : {n : String} {a p : Prog} {env : Env} {f : ℕ → ℕ} {end k e m : ℕ} → k + 8 * value_of env n ≡ e → e ≤ end
    → Runs a env f e k (breach m) → Runs (frame n a p) env f end k (breach m)
framed_off same h r = framed same h r refl

pub frame_short : {n : String} {a p : Prog} {env : Env} {f : ℕ → ℕ} {end k : ℕ} → end < k + 8 * value_of env n
    → Runs (frame n a p) env f end k (breach 0)
unfolding run read end_of
frame_short {n} {a} {p} {env} {f} {end} {k} h =
    record {
      runs =
          ap (λ (t : Bool). end_of (cond t (then (exactly (k + 8 * value_of env n) (read a env f (k + 8 * value_of env n) k)) (λ j. read p env f end j)) (broken 0)))
          (lt-leb (k + 8 * value_of env n) end h);
    }

-- ---- to the end of the part

abbrev pub sweeps : ℕ → (ℕ → Outcome) → ℕ → ℕ → Outcome
sweeps zero g end k = cond (leb end k) (ends k) (breach 0)
sweeps (suc n) g end k = cond (leb end k) (ends k) (on (g k) (λ j. cond (ltb k j) (sweeps n g end j) (breach 0)))

sweeps_end : (n : ℕ) (g : ℕ → Outcome) (end k : ℕ) → end ≤ k → sweeps n g end k ≡ ends k
sweeps_end zero g end k h = ap (λ (t : Bool). cond t (ends k) (breach 0)) (le-leb end k h)
sweeps_end (suc n) g end k h = ap (λ (t : Bool). cond t (ends k) (on (g k) (λ j. cond (ltb k j) (sweeps n g end j) (breach 0)))) (le-leb end k h)

-- any two numbers of steps that suffice agree
enough : (n m : ℕ) (g : ℕ → Outcome) (end k : ℕ) → end - k ≤ n → end - k ≤ m → sweeps n g end k ≡ sweeps m g end k
enough zero m g end k h l = sweeps_end zero g end k (omega arith) ∙ sym (sweeps_end m g end k (omega arith))
enough (suc n) zero g end k h l = sweeps_end (suc n) g end k (omega arith) ∙ sym (sweeps_end zero g end k (omega arith))
enough (suc n) (suc m) g end k h l =
    ap (λ (x : Outcome). cond (leb end k) (ends k) x)
    (on_same (g k) _ _
    (λ j. cond_same (ltb k j) (λ c. let further : k < j = ltb-true k j c in enough n m g end j (omega arith) (omega arith)) (λ c. refl)))

-- a sweep with as many steps as it may need
abbrev pub swept : (ℕ → Outcome) → ℕ → ℕ → Outcome
swept g end k = sweeps (end - k) g end k

pub swept_end : (g : ℕ → Outcome) (end k : ℕ) → end ≤ k → swept g end k ≡ ends k
swept_end g end k h = sweeps_end (end - k) g end k h

one_step : (g : ℕ → Outcome) (end k : ℕ) → k < end
    → swept g end k ≡ on (g k) (λ j. cond (ltb k j) (sweeps (end - k) g end j) (breach 0))
one_step g end k h =
    enough (end - k) (suc (end - k)) g end k (omega arith) (omega arith)
    ∙ ap (λ (t : Bool). cond t (ends k) (on (g k) (λ j. cond (ltb k j) (sweeps (end - k) g end j) (breach 0)))) (lt-leb end k h)

pub swept_on : (g : ℕ → Outcome) (end k j : ℕ) → k < end → g k ≡ ends j → k < j → swept g end k ≡ swept g end j
swept_on g end k j h e l =
    one_step g end k h
    ∙ ap (λ (o : Outcome). on o (λ i. cond (ltb k i) (sweeps (end - k) g end i) (breach 0))) e
    ∙ ap (λ (t : Bool). cond t (sweeps (end - k) g end j) (breach 0)) (lt-ltb k j l)
    ∙ enough (end - k) (end - j) g end j (omega arith) (omega arith)

pub swept_off : (g : ℕ → Outcome) (end k n : ℕ) → k < end → g k ≡ breach n → swept g end k ≡ breach n
swept_off g end k n h e =
    one_step g end k h ∙ ap (λ (o : Outcome). on o (λ i. cond (ltb k i) (sweeps (end - k) g end i) (breach 0))) e

end_sweep : (n : ℕ) (g : ℕ → Reading) (end k : ℕ) → end_of (sweep n g end k) ≡ sweeps n (λ j. end_of (g j)) end k
unfolding sweep end_of
end_sweep zero g end k = end_cond (leb end k) (reached k []) (broken 0)
end_sweep (suc n) g end k =
    end_cond (leb end k) (reached k []) (then (g k) (λ j. cond (ltb k j) (sweep n g end j) (broken 0)))
    ∙ ap (λ (x : Outcome). cond (leb end k) (ends k) x)
    (end_then (g k) (λ j. cond (ltb k j) (sweep n g end j) (broken 0))
    ∙ on_same (end_of (g k)) (λ j. end_of (cond (ltb k j) (sweep n g end j) (broken 0)))
    (λ j. cond (ltb k j) (sweeps n (λ i. end_of (g i)) end j) (breach 0))
    (λ j. end_cond (ltb k j) (sweep n g end j) (broken 0) ∙ ap (λ (x : Outcome). cond (ltb k j) x (breach 0)) (end_sweep n g end j)))

pub filled : {a p : Prog} {env : Env} {f : ℕ → ℕ} {end k : ℕ} {x o : Outcome} → swept (run a env f end) end k ≡ x → on x (run p env f end) ≡ o
    → Runs (fill a p) env f end k o
unfolding run read
filled {a} {p} {env} {f} {end} {k} r q =
    record {
      runs =
          seq p env f end (sweep (end - k) (λ j. read a env f end j) end k)
          (end_sweep (end - k) (λ j. read a env f end j) end k ∙ r) q;
    }

pub filled_last : {a : Prog} {env : Env} {f : ℕ → ℕ} {end k : ℕ} {o : Outcome} → swept (run a env f end) end k ≡ o → Runs (fill a done) env f end k o
filled_last {a} {env} {f} {end} {k} {o} r = filled r (on_done env f end o)

-- bytes to the end of the part
pub swept_bytes : (n : String) (env : Env) (f : ℕ → ℕ) (end m k : ℕ) → k + 8 * m ≡ end
    → swept (run (fields (field 8 n ∷ []) done) env f end) end k ≡ ends end
swept_bytes n env f end zero k h = swept_end _ end k (omega arith) ∙ ap ends (omega arith)
swept_bytes n env f end (suc m) k h =
    let byte : Runs (fields (field 8 n ∷ []) done) env f end k (ends (k + 8)) = pass (omega arith) (finished refl) in
    swept_on (run (fields (field 8 n ∷ []) done) env f end) end k (k + 8) (omega arith) byte.runs (omega arith)
    ∙ swept_bytes n env f end m (k + 8) (omega arith)

-- ---- a number for a breach

abbrev pub number : ℕ → Outcome → Outcome
number n (breach zero) = breach n
number n (breach (suc m)) = breach (suc m)
number n (ends k) = ends k

end_numbered : (n : ℕ) (r : Reading) → end_of (numbered n r) ≡ number n (end_of r)
unfolding numbered end_of
end_numbered n (broken zero) = refl
end_numbered n (broken (suc m)) = refl
end_numbered n (reached k t) = refl

pub ruled : {n : ℕ} {a p : Prog} {env : Env} {f : ℕ → ℕ} {end k : ℕ} {x o : Outcome}
    → Runs a env f end k x → on (number n x) (run p env f end) ≡ o → Runs (under n a p) env f end k o
unfolding run read
ruled {n} {a} {p} {env} {f} {end} {k} r q =
    record {
      runs =
          seq p env f end (numbered n (read a env f end k))
          (end_numbered n (read a env f end k) ∙ ap (number n) r.runs) q;
    }
