-- What a reading that reached its end says of its parts: one law for each way in which a grammar goes on.
-- Assumes nothing.
use mathlib.Core.Path.{◌≡◌, refl, sym, ap, ◌∙◌}
use mathlib.Core.Bool.{Bool, true, false, cond}
use mathlib.Core.List.{List, [], ◌++◌, append-nil}
use Prim.Native.Nat.{ℕ, zero, suc, ◌+◌, ◌*◌, ◌≤◌}
use Prim.Native.String.{String}
use native.Mathlib.Omega.{arith}
use lib.Dec.{leb, eqb}
use borrow.Author.Tests.{leb-true, eqb-true}
use Rattle.grammar.specs.Syntax.{Item, Test, Prog, done, fields, branch, frame, under}
use Rattle.grammar.specs.Meaning.{Env, value_of, width, values, bind, holds, Reading, broken, reached, after, then, exactly, numbered, read, ends, end_of}
use Rattle.grammar.specs.Traces.{Trace, trace_of}

-- a reading that ends at j reached it
pub reached_at : (r : Reading) (j : ℕ) → end_of r ≡ ends j → r ≡ reached j (trace_of r)
unfolding end_of trace_of
reached_at (broken n) j e = let z : ◌≡◌ {A = ℕ} 0 1 = cc in absurd (omega arith)
reached_at (reached k t) j e =
    let same : k ≡ j = cc in
    ap (λ (x : ℕ). reached x t) same

-- ---- the ways of putting readings together

-- a reading and what comes after it: where the first ended, and what each read
pub record Split (r : Reading) (g : ℕ → Reading) (j : ℕ) (t : Trace) : Type 0 where
  pub mid : ℕ
  pub left : Trace
  pub right : Trace
  pub came : r ≡ reached mid left
  pub went : g mid ≡ reached j right
  pub joined : t ≡ left ++ right

pub if_parts : (b : Bool) (r : Reading) {j : ℕ} {t : Trace} → cond b r (broken 0) ≡ reached j t → (b ≡ true) × (r ≡ reached j t)
if_parts true r e = (refl, e)
if_parts false r e = let z : ◌≡◌ {A = ℕ} 0 1 = cc in absurd (omega arith)

pub after_parts : (u : Trace) (r : Reading) {j : ℕ} {t : Trace} → after u r ≡ reached j t → (v : Trace) × (r ≡ reached j v) × (t ≡ u ++ v)
unfolding after
after_parts u (broken n) e = let z : ◌≡◌ {A = ℕ} 0 1 = cc in absurd (omega arith)
after_parts u (reached k v) {j} {t} e =
    let place : k ≡ j = cc in
    let trace : t ≡ u ++ v = cc in
    (v, ap (λ (i : ℕ). reached i v) place, trace)

pub then_parts : (r : Reading) (g : ℕ → Reading) {j : ℕ} {t : Trace} → then r g ≡ reached j t → Split r g j t
unfolding then
then_parts (broken n) g e = let z : ◌≡◌ {A = ℕ} 0 1 = cc in absurd (omega arith)
then_parts (reached k u) g e =
    let on = after_parts u (g k) e in
    record { mid = k; left = u; right = on.0; came = refl; went = on.1; joined = on.2 }

pub numbered_parts : (n : ℕ) (r : Reading) {j : ℕ} {t : Trace} → numbered n r ≡ reached j t → r ≡ reached j t
unfolding numbered
numbered_parts n (broken zero) e = let z : ◌≡◌ {A = ℕ} 0 1 = cc in absurd (omega arith)
numbered_parts n (broken (suc m)) e = let z : ◌≡◌ {A = ℕ} 0 1 = cc in absurd (omega arith)
numbered_parts n (reached k t) e = e

pub exactly_parts : (end : ℕ) (r : Reading) {j : ℕ} {t : Trace} → exactly end r ≡ reached j t → (r ≡ reached j t) × (j ≡ end)
unfolding exactly
exactly_parts end (broken n) e = let z : ◌≡◌ {A = ℕ} 0 1 = cc in absurd (omega arith)
exactly_parts end (reached k u) {j} e =
    let held = if_parts (eqb k end) (reached k u) e in
    let same : k ≡ j = cc held.1 in
    (held.1, sym same ∙ eqb-true k end held.0)

-- nothing comes after
last_part : (env : Env) (f : ℕ → ℕ) (end : ℕ) (r : Reading) {j : ℕ} {t : Trace} → then r (λ i. read done env f end i) ≡ reached j t → r ≡ reached j t
unfolding read
last_part env f end r {j} {t} e =
    let q = then_parts r (λ i. read done env f end i) e in
    let place : q.mid ≡ j = cc q.went in
    let none : q.right ≡ [] = cc q.went in
    let trace : q.left ≡ t = sym (append-nil q.left) ∙ ap (λ (v : Trace). q.left ++ v) (sym none) ∙ sym q.joined in
    q.came ∙ ap (λ (i : ℕ). reached i q.left) place ∙ ap (reached j) trace

-- ---- the ways on of a grammar

-- reading by p from place k reached j, and t was read
pub record Reads (p : Prog) (env : Env) (f : ℕ → ℕ) (end k j : ℕ) (t : Trace) : Type 0 where
  pub reads : read p env f end k ≡ reached j t

-- so did reading by a, and then by p
pub record Parts (a p : Prog) (env : Env) (f : ℕ → ℕ) (end k j : ℕ) (t : Trace) : Type 0 where
  pub mid : ℕ
  pub left : Trace
  pub right : Trace
  pub came : Reads a env f end k mid left
  pub went : Reads p env f end mid j right
  pub joined : t ≡ left ++ right

pub rows_parts : {rows : List Item} {p : Prog} {env : Env} {f : ℕ → ℕ} {end k j : ℕ} {t : Trace} → Reads (fields rows p) env f end k j t
    → (v : Trace) × Reads p (bind rows f k env) f end (k + width rows) j v × (t ≡ values rows f k ++ v)
unfolding read
rows_parts {rows} {p} {env} {f} {end} {k} q =
    let on = after_parts (values rows f k) (read p (bind rows f k env) f end (k + width rows)) (if_parts (leb (k + width rows) end) _ q.reads).1 in
    (on.0, record { reads = on.1 }, on.2)

-- the arm that the test picks
pub arm_parts : {c : Test} {a b : Prog} {env : Env} {f : ℕ → ℕ} {end k j : ℕ} {t : Trace} (u : Bool) → Reads (branch c a b done) env f end k j t
    → holds c env end k ≡ u → Reads (cond u a b) env f end k j t
unfolding read
arm_parts {c} {a} {b} {env} {f} {end} {k} {j} {t} u q h = picked u (sym chosen ∙ last_part env f end first q.reads)
  where
    first : Reading
    first = cond (holds c env end k) (read a env f end k) (read b env f end k)

    chosen : first ≡ cond u (read a env f end k) (read b env f end k)
    chosen = ap (λ (x : Bool). cond x (read a env f end k) (read b env f end k)) h

    picked : (x : Bool) → cond x (read a env f end k) (read b env f end k) ≡ reached j t → Reads (cond x a b) env f end k j t
    picked true e = record { reads = e }
    picked false e = record { reads = e }

-- a part that a length gives: it is there, and used up
pub frame_parts : {n : String} {a : Prog} {env : Env} {f : ℕ → ℕ} {end k j : ℕ} {t : Trace} → Reads (frame n a done) env f end k j t
    → Reads a env f (k + 8 * value_of env n) k j t × (j ≡ k + 8 * value_of env n) × (k + 8 * value_of env n ≤ end)
unfolding read
frame_parts {n} {a} {env} {f} {end} {k} q =
    let stop : ℕ = k + 8 * value_of env n in
    let held = if_parts (leb stop end) (then (exactly stop (read a env f stop k)) (λ i. read done env f end i)) q.reads in
    let body = exactly_parts stop (read a env f stop k) (last_part env f end (exactly stop (read a env f stop k)) held.1) in
    (record { reads = body.0 }, body.1, leb-true stop end held.0)

pub under_parts : {n : ℕ} {a p : Prog} {env : Env} {f : ℕ → ℕ} {end k j : ℕ} {t : Trace} → Reads (under n a p) env f end k j t → Parts a p env f end k j t
unfolding read
under_parts {n} {a} {p} {env} {f} {end} {k} q =
    let on = then_parts (numbered n (read a env f end k)) (λ i. read p env f end i) q.reads in
    record {
      mid = on.mid;
      left = on.left;
      right = on.right;
      came = record { reads = numbered_parts n (read a env f end k) on.came };
      went = record { reads = on.went };
      joined = on.joined;
    }

pub under_last : {n : ℕ} {a : Prog} {env : Env} {f : ℕ → ℕ} {end k j : ℕ} {t : Trace} → Reads (under n a done) env f end k j t → Reads a env f end k j t
unfolding read
under_last {n} {a} {env} {f} {end} {k} q =
    record { reads = numbered_parts n (read a env f end k) (last_part env f end (numbered n (read a env f end k)) q.reads) }
