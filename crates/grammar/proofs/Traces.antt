-- Traces: of some rows, one after another, their rows read again from other bits, and their reserved values set to 0.
-- Assumes nothing.
use mathlib.Core.Path.{◌≡◌, refl, sym, ap, ap₂, ◌∙◌}
use mathlib.Core.List.{List, [], ◌∷◌, ◌++◌}
use Prim.Native.Nat.{ℕ, ◌+◌, ◌^◌, ◌≤◌, ◌<◌}
use native.Mathlib.Nat.{add_assoc, add-zero}
use native.Mathlib.Omega.{arith}
use Rattle.bits.specs.Bits.{num}
use Rattle.bits.proofs.Num.{num_ext}
use Rattle.grammar.specs.Syntax.{Item, field, reserved}
use Rattle.grammar.specs.Meaning.{Env, width_of, width, values, bind, bind_one}
use Rattle.grammar.specs.Traces.{Trace, rows_of, size, numbers, Spans, Keeps, NamedSpans, blank_value, blank}

-- ---- of some rows

pub size_values : (rows : List Item) (f : ℕ → ℕ) (k : ℕ) → size (values rows f k) ≡ width rows
unfolding values rows_of
size_values [] f k = refl
size_values (i ∷ rows) f k = ap (λ (n : ℕ). width_of i + n) (size_values rows f (k + width_of i))

pub spans_values : (rows : List Item) (f : ℕ → ℕ) (k : ℕ) → Spans f k (values rows f k)
unfolding values
spans_values [] f k = tt
spans_values (i ∷ rows) f k = (refl, spans_values rows f (k + width_of i))

-- bits that agree give rows the same values and names the same meaning
pub rows_ext : (f g : ℕ → ℕ) (rows : List Item) (k : ℕ) (env : Env) → ((i : ℕ) → k ≤ i → i < k + width rows → f i ≡ g i)
    → (values rows f k ≡ values rows g k) × (bind rows f k env ≡ bind rows g k env)
unfolding values
rows_ext f g [] k env h = (refl, refl)
rows_ext f g (i ∷ rows) k env h =
    let k' : ℕ = k + width_of i in
    let here : num f k (width_of i) ≡ num g k (width_of i) = num_ext f g k k (width_of i) (λ n m. h (k + n) (omega arith) (omega arith)) in
    let more = rows_ext f g rows k' (bind_one i (num f k (width_of i)) env) (λ n m l. h n (omega arith) (omega arith)) in
    (ap₂ (λ (v : ℕ) (t : Trace). (i, v) ∷ t) here more.0, more.1 ∙ ap (λ (v : ℕ). bind rows g k' (bind_one i v env)) here)

-- ---- one after another

pub size_append : (u v : Trace) → size (u ++ v) ≡ size u + size v
unfolding rows_of
size_append [] v = omega arith
size_append (x ∷ u) v = omega (arith, size_append u v)

pub numbers_append : (u v : Trace) → numbers (u ++ v) ≡ numbers u ++ numbers v
unfolding numbers
numbers_append [] v = refl
numbers_append (x ∷ u) v = ap (λ (l : List ℕ). x.1 ∷ l) (numbers_append u v)

pub spans_append : (f : ℕ → ℕ) (k : ℕ) (u v : Trace) → Spans f k u → Spans f (k + size u) v → Spans f k (u ++ v)
unfolding rows_of
spans_append f k [] v h l = rw add-zero at l
spans_append f k (x ∷ u) v h l = (h.0, spans_append f (k + width_of x.0) u v h.1 (rw add_assoc l))

pub named_append : (f : ℕ → ℕ) (k : ℕ) (u v : Trace) → NamedSpans f k (u ++ v) → NamedSpans f k u × NamedSpans f (k + size u) v
unfolding rows_of
named_append f k [] v h = (tt, rw add-zero h)
named_append f k (x ∷ u) v h =
    let more = named_append f (k + width_of x.0) u v h.1 in
    ((h.0, more.0), rw (← add_assoc) more.1)

pub reread_append : (f : ℕ → ℕ) (k : ℕ) (u v : Trace) → values (rows_of (u ++ v)) f k ≡ values (rows_of u) f k ++ values (rows_of v) f (k + size u)
unfolding rows_of values
reread_append f k [] v = rw add-zero
reread_append f k (x ∷ u) v =
    ap (λ (t : Trace). (x.0, num f k (width_of x.0)) ∷ t) (reread_append f (k + width_of x.0) u v ∙ rw add_assoc)

-- ---- read again

-- bits that span a trace give it again
pub reread : (f : ℕ → ℕ) (k : ℕ) (t : Trace) → Spans f k t → values (rows_of t) f k ≡ t
unfolding rows_of values
reread f k [] h = refl
reread f k (x ∷ t) h = ap₂ (λ (v : ℕ) (u : Trace). (x.0, v) ∷ u) h.0 (reread f (k + width_of x.0) t h.1)

-- and so they span its named rows
pub spans_named : (f : ℕ → ℕ) (k : ℕ) (t : Trace) → Spans f k t → NamedSpans f k t
spans_named f k [] h = tt
spans_named f k (x ∷ t) h = (equal x.0 h.0, spans_named f (k + width_of x.0) t h.1)
  where
    equal : (i : Item) {v v' : ℕ} → v ≡ v' → Keeps i v v'
    equal (field w n) e = e
    equal (reserved w) e = tt

-- the environment sees named values alone
pub bind_named : (i : Item) (v v' : ℕ) (env : Env) → Keeps i v v' → bind_one i v env ≡ bind_one i v' env
bind_named (field w n) v v' env e = ap (λ (y : ℕ). (n, y) ∷ env) e
bind_named (reserved w) v v' env e = refl

-- what bits span, bits that are the same from there on span too
pub spans_from : (f g : ℕ → ℕ) (k : ℕ) (t : Trace) → ((i : ℕ) → k ≤ i → f i ≡ g i) → Spans f k t → Spans g k t
spans_from f g k [] e h = tt
spans_from f g k (x ∷ t) e h = (
  sym (num_ext f g k k (width_of x.0) (λ i m. e (k + i) (omega arith))) ∙ h.0,
  spans_from f g (k + width_of x.0) t (λ i m. e i (omega arith)) h.1,
)

-- each value is one that its row's bits hold
abbrev pub Fits : Trace → Type 0
Fits [] = Unit {0}
Fits (x ∷ t) = (x.1 < 2 ^ width_of x.0) × Fits t

pub fits_append : (u v : Trace) → Fits u → Fits v → Fits (u ++ v)
fits_append [] v h l = l
fits_append (x ∷ u) v h l = (h.0, fits_append u v h.1 l)

-- ---- reserved values set to 0

pub blank_append : (t u : Trace) → blank (t ++ u) ≡ blank t ++ blank u
unfolding blank
blank_append [] u = refl
blank_append (x ∷ t) u = ap (λ (v : Trace). (x.0, blank_value x.0 x.1) ∷ v) (blank_append t u)

pub blank_rows : (t : Trace) → rows_of (blank t) ≡ rows_of t
unfolding blank rows_of
blank_rows [] = refl
blank_rows (x ∷ t) = ap (λ (rows : List Item). x.0 ∷ rows) (blank_rows t)
