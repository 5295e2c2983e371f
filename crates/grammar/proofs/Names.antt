-- Traces read by name: what rows of other names leave as it is, and where the parts of a list lie.
-- Assumes nothing.
use mathlib.Core.Path.{◌≡◌, refl, sym, ap, ◌∙◌, subst}
use mathlib.Core.Bool.{Bool, true, false, cond, not}
use mathlib.Core.List.{List, [], ◌∷◌, ◌++◌, append-nil, append_assoc}
use Prim.Native.Nat.{ℕ, zero, suc, ◌+◌, ◌*◌, ◌<◌}
use native.Mathlib.Nat.{suc-mul, not-suc-le-zero}
use native.Mathlib.Omega.{arith}
use lib.ListN.{length, get_or}
use lib.Dec.{leb}
use Rattle.bits.specs.Bits.{num}
use Rattle.grammar.specs.Syntax.{Item, Prog, field, fields}
use Rattle.grammar.specs.Meaning.{Env, width_of, width, values, bind, Reading, broken, reached, then, again, read, ends, end_of}
use Rattle.grammar.specs.Traces.{Trace, trace_of}
use Rattle.grammar.specs.Names.{Name, is_named, look, all_of, before, from, opening, part}
use Rattle.grammar.proofs.Run.{end_after}
use Rattle.grammar.proofs.Ends.{Gives, breaks, gives, given, when_gives, after_gives, then_gives}
use Rattle.grammar.proofs.Readings.{then_parts}
use Rattle.grammar.proofs.Each.{all, every, Each, each_append, each_values, reads_each}
use Rattle.grammar.proofs.Telling.{many}

-- the row does not have this name
abbrev pub other : Name → Item → Bool
other n i = not (is_named n i)

unnamed : (n : Name) (i : Item) → other n i ≡ true → is_named n i ≡ false
unnamed n i = go (is_named n i)
  where
    go : (b : Bool) → not b ≡ true → b ≡ false
    go true e = sym e
    go false e = refl

-- ---- rows of other names

pub look_past : (n : Name) (u v : Trace) → Each (other n) u → look (u ++ v) n ≡ look v n
unfolding look
look_past n [] v h = refl
look_past n (x ∷ u) v h = ap (λ (b : Bool). cond b x.1 (look (u ++ v) n)) (unnamed n x.0 h.0) ∙ look_past n u v h.1

pub look_none : (n : Name) (u : Trace) → Each (other n) u → look u n ≡ 0
unfolding look
look_none n [] h = refl
look_none n (x ∷ u) h = ap (λ (b : Bool). cond b x.1 (look u n)) (unnamed n x.0 h.0) ∙ look_none n u h.1

pub all_past : (n : Name) (u v : Trace) → Each (other n) u → all_of (u ++ v) n ≡ all_of v n
unfolding all_of
all_past n [] v h = refl
all_past n (x ∷ u) v h = ap (λ (b : Bool). cond b (x.1 ∷ all_of (u ++ v) n) (all_of (u ++ v) n)) (unnamed n x.0 h.0) ∙ all_past n u v h.1

pub all_none : (n : Name) (u : Trace) → Each (other n) u → all_of u n ≡ []
unfolding all_of
all_none n [] h = refl
all_none n (x ∷ u) h = ap (λ (b : Bool). cond b (x.1 ∷ all_of u n) (all_of u n)) (unnamed n x.0 h.0) ∙ all_none n u h.1

pub before_past : (n : Name) (u v : Trace) → Each (other n) u → before n (u ++ v) ≡ u ++ before n v
unfolding before
before_past n [] v h = refl
before_past n (x ∷ u) v h =
    ap (λ (b : Bool). cond b [] (x ∷ before n (u ++ v))) (unnamed n x.0 h.0) ∙ ap (λ (t : Trace). x ∷ t) (before_past n u v h.1)

pub before_all : (n : Name) (u : Trace) → Each (other n) u → before n u ≡ u
unfolding before
before_all n u h = ap (before n) (sym (append-nil u)) ∙ before_past n u [] h ∙ append-nil u

pub from_past : (n : Name) (m : ℕ) (u v : Trace) → Each (other n) u → from n m (u ++ v) ≡ from n m v
unfolding from
from_past n m [] v h = refl
from_past n zero (x ∷ u) v h =
    ap (λ (b : Bool). cond b (x ∷ (u ++ v)) (from n zero (u ++ v))) (unnamed n x.0 h.0) ∙ from_past n zero u v h.1
from_past n (suc m) (x ∷ u) v h =
    ap (λ (b : Bool). cond b (from n m (u ++ v)) (from n (suc m) (u ++ v))) (unnamed n x.0 h.0) ∙ from_past n (suc m) u v h.1

pub part_past : (n : Name) (m : ℕ) (u v : Trace) → Each (other n) u → part n m (u ++ v) ≡ part n m v
unfolding part
part_past n m u v h = ap (opening n) (from_past n m u v h)

-- ---- the parts of a list

-- a trace that opens with a row of that name and has no other
unfoldable pub Opens : Name → Trace → Type 0
Opens n [] = ⊥
Opens n (x ∷ t) = (is_named n x.0 ≡ true) × Each (other n) t

-- nothing, or a trace that goes on with a row of that name
unfoldable pub Next : Name → Trace → Type 0
Next n [] = Unit {0}
Next n (x ∷ t) = is_named n x.0 ≡ true

module _ (n : Name) where
  here : (u v : Trace) → Opens n u → part n 0 (u ++ v) ≡ u ++ before n v
  unfolding Opens part from opening
  here [] v h = absurd h
  here (x ∷ u) v h =
      ap (λ (b : Bool). opening n (cond b (x ∷ (u ++ v)) (from n 0 (u ++ v)))) h.0 ∙ ap (λ (t : Trace). x ∷ t) (before_past n u v h.1)

  later : (m : ℕ) (u v : Trace) → Opens n u → part n (suc m) (u ++ v) ≡ part n m v
  unfolding Opens part from
  later m [] v h = absurd h
  later m (x ∷ u) v h =
      ap (λ (b : Bool). opening n (cond b (from n m (u ++ v)) (from n (suc m) (u ++ v)))) h.0 ∙ ap (opening n) (from_past n m u v h.1)

  next_before : (v : Trace) → Next n v → before n v ≡ []
  unfolding Next before
  next_before [] h = refl
  next_before (x ∷ v) h = ap (λ (b : Bool). cond b [] (x ∷ before n v)) h

  opens_next : (u v : Trace) → Opens n u → Next n (u ++ v)
  unfolding Opens Next
  opens_next [] v h = absurd h
  opens_next (x ∷ u) v h = h.0

  -- a body that reads such traces
  module _ (g : ℕ → Reading) (body : (k : ℕ) → Gives (λ j t. Opens n t) (g k)) where
    again_next : (c k : ℕ) → Gives (λ j t. Next n t) (again c g k)
    unfolding again Next
    again_next zero k = gives tt
    again_next (suc c) k = then_gives {Q = λ i j t. Unit {0}} (body k) (λ i. anything (again c g i)) (λ i j u v o e. opens_next u v o)
      where
        anything : (r : Reading) → Gives (λ j t. Unit {0}) r
        anything (broken m) = breaks
        anything (reached j t) = gives tt

    -- part m of the list t, before anything x: what the body read where m times the body ended
    pub record Nth (m i : ℕ) (t x : Trace) : Type 0 where
      pub stop : ℕ
      pub rest : Trace
      pub reaches : g i ≡ reached stop (trace_of (g i))
      pub is : part n m (t ++ x) ≡ trace_of (g i) ++ rest
      pub alone : x ≡ [] → rest ≡ []

    first_of : (k i j : ℕ) (u v x : Trace) → g k ≡ reached i u → Next n v → Opens n u → Nth 0 k (u ++ v) x
    unfolding trace_of
    first_of k i j u v x e h o =
        let same : trace_of (g k) ≡ u = ap trace_of e in
        record {
          stop = i;
          rest = before n (v ++ x);
          reaches = e ∙ ap (reached i) (sym same);
          is = ap (part n 0) (append_assoc u v x) ∙ here u (v ++ x) o ∙ ap (λ (t : Trace). t ++ before n (v ++ x)) (sym same);
          alone = λ q. ap (λ (t : Trace). before n (v ++ t)) q ∙ ap (before n) (append-nil v) ∙ next_before v h;
        }

    pub nth : (c m k i j : ℕ) (t x : Trace) → m < c → again c g k ≡ reached j t → end_of (again m g k) ≡ ends i → Nth m i t x
    unfolding again then end_of
    nth zero m k i j t x l e q = absurd (not-suc-le-zero l)
    nth (suc c) zero k i j t x l e q =
        let p = then_parts (g k) (again c g) e in
        let same : k ≡ i = cc in
        subst (λ (y : ℕ). Nth 0 y t x) same
        (subst (λ (y : Trace). Nth 0 k y x) (sym p.joined)
        (first_of k p.mid j p.left p.right x p.came (given (again_next c p.mid) p.went) (given (body k) p.came)))
    nth (suc c) (suc m) k i j t x l e q =
        let p = then_parts (g k) (again c g) e in
        let on : end_of (again m g p.mid) ≡ ends i =
        sym (end_after p.left (again m g p.mid)) ∙ ap (λ (r : Reading). end_of (then r (again m g))) (sym p.came) ∙ q in
        let more = nth c m p.mid i j p.right x (omega arith) p.went on in
        record {
          stop = more.stop;
          rest = more.rest;
          reaches = more.reaches;
          is =
              ap (λ (y : Trace). part n (suc m) (y ++ x)) p.joined
              ∙ ap (part n (suc m)) (append_assoc p.left p.right x)
              ∙ later m p.left (p.right ++ x) (given (body k) p.came)
              ∙ more.is;
          alone = more.alone;
        }

-- a table that opens with a row of that name, and has no other, reads such traces
pub opens : (n : Name) (i : Item) (is : List Item) (p : Prog) → is_named n i ≡ true → all (other n) is ≡ true → every (other n) p ≡ true
    → (env : Env) (f : ℕ → ℕ) (end k : ℕ) → Gives (λ j t. Opens n t) (read (fields (i ∷ is) p) env f end k)
unfolding Opens values read
opens n i is p h l m env f end k =
    when_gives (leb (k + width (i ∷ is)) end)
    (λ q.
    after_gives (values (i ∷ is) f k) (reads_each (other n) p m (bind (i ∷ is) f k env) f end (k + width (i ∷ is)))
    (λ j u e. (h, each_append (other n) (values is f (k + width_of i)) u (each_values (other n) is f (k + width_of i) l) e)))

-- ---- the same rows so many times

-- part m of that, before anything
pub part_many : (n : Name) (i : Item) (is : List Item) → is_named n i ≡ true → all (other n) is ≡ true → (c m : ℕ) (f : ℕ → ℕ) (k : ℕ) (x : Trace) → m < c
    → (rest : Trace) × (part n m (many c (i ∷ is) f k ++ x) ≡ values (i ∷ is) f (k + m * width (i ∷ is)) ++ rest)
unfolding many values Opens
part_many n i is h l zero m f k x q = absurd (not-suc-le-zero q)
part_many n i is h l (suc c) zero f k x q = (
  before n (many c (i ∷ is) f (k + width (i ∷ is)) ++ x),
  ap (part n 0) (append_assoc (values (i ∷ is) f k) (many c (i ∷ is) f (k + width (i ∷ is))) x)
      ∙ here n (values (i ∷ is) f k) (many c (i ∷ is) f (k + width (i ∷ is)) ++ x) (h, each_values (other n) is f (k + width_of i) l)
      ∙ ap (λ (y : ℕ). values (i ∷ is) f y ++ before n (many c (i ∷ is) f (k + width (i ∷ is)) ++ x)) (omega arith),
)
part_many n i is h l (suc c) (suc m) f k x q =
    let more = part_many n i is h l c m f (k + width (i ∷ is)) x (omega arith) in (
      more.0,
      ap (part n (suc m)) (append_assoc (values (i ∷ is) f k) (many c (i ∷ is) f (k + width (i ∷ is))) x)
          ∙ later n m (values (i ∷ is) f k) (many c (i ∷ is) f (k + width (i ∷ is)) ++ x) (h, each_values (other n) is f (k + width_of i) l)
          ∙ more.1
          ∙ ap (λ (y : ℕ). values (i ∷ is) f y ++ more.0) (omega (arith, suc-mul m (width (i ∷ is)))),
    )

pub each_many : (q : Item → Bool) (is : List Item) (f : ℕ → ℕ) (c k : ℕ) → all q is ≡ true → Each q (many c is f k)
unfolding many
each_many q is f zero k h = tt
each_many q is f (suc c) k h = each_append q (values is f k) (many c is f (k + width is)) (each_values q is f k h) (each_many q is f c (k + width is) h)

-- the values of c fields of w bits each, one after another from place k on
unfoldable pub fields_from : (ℕ → ℕ) → ℕ → ℕ → ℕ → List ℕ
fields_from f w zero k = []
fields_from f w (suc c) k = num f k w ∷ fields_from f w c (k + w)

pub all_many : (n : Name) (w : ℕ) → is_named n (field w n) ≡ true → (f : ℕ → ℕ) (c k : ℕ) (x : Trace)
    → all_of (many c (field w n ∷ []) f k ++ x) n ≡ fields_from f w c k ++ all_of x n
unfolding many values all_of fields_from
all_many n w h f zero k x = refl
all_many n w h f (suc c) k x =
    let on : k + (w + 0) ≡ k + w = omega arith in
    ap (λ (b : Bool). cond b (num f k w ∷ all_of (many c (field w n ∷ []) f (k + (w + 0)) ++ x) n) (all_of (many c (field w n ∷ []) f (k + (w + 0)) ++ x) n)) h
    ∙ ap (λ (y : ℕ). num f k w ∷ all_of (many c (field w n ∷ []) f y ++ x) n) on
    ∙ ap (λ (t : List ℕ). num f k w ∷ t) (all_many n w h f c (k + w) x)

pub fields_length : (f : ℕ → ℕ) (w c k : ℕ) → length (fields_from f w c k) ≡ c
unfolding fields_from
fields_length f w zero k = refl
fields_length f w (suc c) k = ap suc (fields_length f w c (k + w))

pub fields_at : (f : ℕ → ℕ) (w c k m : ℕ) (x : List ℕ) → m < c → get_or (fields_from f w c k ++ x) m 0 ≡ num f (k + m * w) w
unfolding fields_from
fields_at f w zero k m x h = absurd (not-suc-le-zero h)
fields_at f w (suc c) k zero x h = ap (λ (y : ℕ). num f y w) (omega arith)
fields_at f w (suc c) k (suc m) x h = fields_at f w c (k + w) m x (omega arith) ∙ ap (λ (y : ℕ). num f y w) (omega (arith, suc-mul m w))
