-- A test that each row of a grammar passes, each row of what it reads passes.
-- Assumes nothing.
use mathlib.Core.Path.{◌≡◌}
use mathlib.Core.Bool.{Bool, true, false, cond, ◌&&◌}
use mathlib.Core.List.{List, [], ◌∷◌, ◌++◌}
use Prim.Native.Nat.{ℕ, zero, suc, ◌+◌, ◌*◌}
use lib.Dec.{leb, ltb, eqb}
use Rattle.bits.proofs.Cases.{and_left, and_right}
use Rattle.grammar.specs.Syntax.{Item, Prog, done, stop, fields, branch, call, repeat, frame, fill, under}
use Rattle.grammar.specs.Meaning.{Env, value_of, width_of, width, values, bind, holds, Reading, reached, then, again, sweep, exactly, read}
use Rattle.grammar.specs.Traces.{Trace, trace_of}
use Rattle.grammar.proofs.Ends.{Gives, breaks, gives, given, when_gives, after_gives, then_gives, numbered_gives}

-- each of these rows passes
abbrev pub all : (Item → Bool) → List Item → Bool
all q [] = true
all q (i ∷ rows) = q i && all q rows

-- each row of the grammar does
unfoldable pub every : (Item → Bool) → Prog → Bool
every q done = true
every q stop = true
every q (fields rows p) = all q rows && every q p
every q (branch t a b p) = every q a && (every q b && every q p)
every q (call a p) = every q a && every q p
every q (repeat n a p) = every q a && every q p
every q (frame n a p) = every q a && every q p
every q (fill a p) = every q a && every q p
every q (under n a p) = every q a && every q p

-- each row of the trace does
abbrev pub Each : (Item → Bool) → Trace → Type 0
Each q [] = Unit {0}
Each q (x ∷ t) = (q x.0 ≡ true) × Each q t

pub each_append : (q : Item → Bool) (t u : Trace) → Each q t → Each q u → Each q (t ++ u)
each_append q [] u a b = b
each_append q (x ∷ t) u a b = (a.0, each_append q t u a.1 b)

pub each_values : (q : Item → Bool) (rows : List Item) (f : ℕ → ℕ) (k : ℕ) → all q rows ≡ true → Each q (values rows f k)
unfolding values
each_values q [] f k h = tt
each_values q (i ∷ rows) f k h = (and_left (q i) (all q rows) h, each_values q rows f (k + width_of i) (and_right (q i) (all q rows) h))

module _ (q : Item → Bool) where
  abbrev Passes : ℕ → Trace → Type 0
  Passes j t = Each q t

  on_each : {r : Reading} {g : ℕ → Reading} → Gives Passes r → ((i : ℕ) → Gives Passes (g i)) → Gives Passes (then r g)
  on_each a b = then_gives a b (λ i j t u. each_append q t u)

  either : {a b : Reading} (t : Bool) → Gives Passes a → Gives Passes b → Gives Passes (cond t a b)
  either true x y = x
  either false x y = y

  part_each : {r : Reading} (e : ℕ) → Gives Passes r → Gives Passes (exactly e r)
  unfolding exactly
  part_each e breaks = breaks
  part_each e (gives {j = j} {t = t} h) = when_gives (eqb j e) (λ m. gives h)

  none_each : (k : ℕ) → Gives Passes (reached k [])
  none_each k = gives tt

  again_each : {g : ℕ → Reading} → ((k : ℕ) → Gives Passes (g k)) → (n k : ℕ) → Gives Passes (again n g k)
  unfolding again
  again_each l zero k = none_each k
  again_each l (suc n) k = on_each (l k) (again_each l n)

  sweep_each : {g : ℕ → Reading} (end : ℕ) → ((k : ℕ) → Gives Passes (g k)) → (n k : ℕ) → Gives Passes (sweep n g end k)
  unfolding sweep
  sweep_each end l zero k = either (leb end k) (none_each k) breaks
  sweep_each end l (suc n) k = either (leb end k) (none_each k) (on_each (l k) (λ j. either (ltb k j) (sweep_each end l n j) breaks))

  pub reads_each : (p : Prog) → every q p ≡ true → (env : Env) (f : ℕ → ℕ) (end k : ℕ) → Gives Passes (read p env f end k)
  unfolding every read
  reads_each done h env f end k = none_each k
  reads_each stop h env f end k = breaks
  reads_each (fields rows p) h env f end k =
      when_gives (leb (k + width rows) end)
      (λ m.
      after_gives (values rows f k) (reads_each p (and_right (all q rows) _ h) (bind rows f k env) f end (k + width rows))
      (λ j u. each_append q (values rows f k) u (each_values q rows f k (and_left (all q rows) (every q p) h))))
  reads_each (branch t a b p) h env f end k =
      let rest = and_right (every q a) _ h in
      on_each
      (either (holds t env end k) (reads_each a (and_left (every q a) _ h) env f end k) (reads_each b (and_left (every q b) _ rest) env f end k))
      (reads_each p (and_right (every q b) _ rest) env f end)
  reads_each (call a p) h env f end k =
      on_each (reads_each a (and_left (every q a) _ h) env f end k) (reads_each p (and_right (every q a) _ h) env f end)
  reads_each (repeat n a p) h env f end k =
      on_each (again_each (reads_each a (and_left (every q a) _ h) env f end) (value_of env n) k) (reads_each p (and_right (every q a) _ h) env f end)
  reads_each (frame n a p) h env f end k =
      let e : ℕ = k + 8 * value_of env n in
      when_gives (leb e end)
      (λ m. on_each (part_each e (reads_each a (and_left (every q a) _ h) env f e k)) (reads_each p (and_right (every q a) _ h) env f end))
  reads_each (fill a p) h env f end k =
      on_each (sweep_each end (reads_each a (and_left (every q a) _ h) env f end) _ k) (reads_each p (and_right (every q a) _ h) env f end)
  reads_each (under n a p) h env f end k =
      on_each (numbered_gives n (reads_each a (and_left (every q a) _ h) env f end k)) (reads_each p (and_right (every q a) _ h) env f end)

  -- each row of what a grammar reads
  pub trace_each : (p : Prog) → every q p ≡ true → (env : Env) (f : ℕ → ℕ) (end k j : ℕ) (t : Trace) → read p env f end k ≡ reached j t → Each q t
  trace_each p h env f end k j t e = given (reads_each p h env f end k) e

  passed : {r : Reading} → Gives Passes r → Each q (trace_of r)
  unfolding trace_of
  passed breaks = tt
  passed (gives h) = h

  -- the same where a rule may be broken
  pub read_each : (p : Prog) → every q p ≡ true → (env : Env) (f : ℕ → ℕ) (end k : ℕ) → Each q (trace_of (read p env f end k))
  read_each p h env f end k = passed (reads_each p h env f end k)

  pub repeat_each : (p : Prog) → every q p ≡ true → (env : Env) (f : ℕ → ℕ) (end n k : ℕ) → Each q (trace_of (again n (λ j. read p env f end j) k))
  repeat_each p h env f end n k = passed (again_each (reads_each p h env f end) n k)
