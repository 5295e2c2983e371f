-- A table that looks only at names which it binds itself reads the same in every environment.
-- Assumes nothing.
use mathlib.Core.Path.{◌≡◌, refl, ap}
use mathlib.Core.Bool.{Bool, true, false, cond, ◌&&◌, ◌||◌, false≢true}
use mathlib.Core.List.{List, [], ◌∷◌}
use Prim.Native.Nat.{ℕ, ◌+◌, ◌-◌, ◌*◌}
use Prim.Native.String.{String}
use lib.Dec.{leb, eqb}
use lib.Text.{eqt}
use Rattle.bits.specs.Bits.{num}
use Rattle.grammar.specs.Syntax.{Item, Test, Prog, field, reserved, is, among, more, done, stop, fields, branch, call, repeat, frame, fill, under}
use Rattle.grammar.specs.Meaning.{Env, value_of, width, values, bind, is_among, holds, Reading, broken, after, then, again, sweep, exactly, numbered, read, end_of, run}
use Rattle.bits.proofs.Cases.{and_left, and_right}

-- the name is one of these
abbrev pub is_in : String → List String → Bool
is_in m [] = false
is_in m (n ∷ ns) = eqt n m || is_in m ns

-- these names and those of the rows
abbrev pub named : List Item → List String → List String
named [] ns = ns
named (field w n ∷ rows) ns = named rows (n ∷ ns)
named (reserved w ∷ rows) ns = named rows ns

-- the test looks at none but these names
abbrev pub asks : Test → List String → Bool
asks (is n v) ns = is_in n ns
asks (among n vs) ns = is_in n ns
asks more ns = true

-- each name that p looks at is bound in p before, or is one of these
unfoldable pub scoped : Prog → List String → Bool
scoped done ns = true
scoped stop ns = true
scoped (fields rows p) ns = scoped p (named rows ns)
scoped (branch t a b p) ns = asks t ns && (scoped a ns && (scoped b ns && scoped p ns))
scoped (call a p) ns = scoped a ns && scoped p ns
scoped (repeat n a p) ns = is_in n ns && (scoped a ns && scoped p ns)
scoped (frame n a p) ns = is_in n ns && (scoped a ns && scoped p ns)
scoped (fill a p) ns = scoped a ns && scoped p ns
scoped (under n a p) ns = scoped a ns && scoped p ns

-- the environments have the same value under each of these names
abbrev pub Agree : List String → Env → Env → Type 0
Agree ns env env' = (n : String) → is_in n ns ≡ true → value_of env n ≡ value_of env' n

-- ---- rows

one_more : (m n : String) (v : ℕ) (ns : List String) (env env' : Env) → Agree ns env env'
    → is_in m (n ∷ ns) ≡ true → value_of ((n, v) ∷ env) m ≡ value_of ((n, v) ∷ env') m
one_more m n v ns env env' same h = go (eqt n m) h
  where
    go : (t : Bool) → (t || is_in m ns) ≡ true → cond t v (value_of env m) ≡ cond t v (value_of env' m)
    go true l = refl
    go false l = same m l

agree_bind : (rows : List Item) (ns : List String) (env env' : Env) (f : ℕ → ℕ) (k : ℕ) → Agree ns env env'
    → Agree (named rows ns) (bind rows f k env) (bind rows f k env')
agree_bind [] ns env env' f k same = same
agree_bind (field w n ∷ rows) ns env env' f k same =
    agree_bind rows (n ∷ ns) ((n, num f k w) ∷ env) ((n, num f k w) ∷ env') f (k + w)
    (λ m h. one_more m n (num f k w) ns env env' same h)
agree_bind (reserved w ∷ rows) ns env env' f k same = agree_bind rows ns env env' f (k + w) same

agree_holds : (t : Test) (ns : List String) (env env' : Env) (end k : ℕ) → Agree ns env env' → asks t ns ≡ true
    → holds t env end k ≡ holds t env' end k
agree_holds (is n v) ns env env' end k same h = ap (λ (x : ℕ). eqb x v) (same n h)
agree_holds (among n vs) ns env env' end k same h = ap (λ (x : ℕ). is_among x vs) (same n h)
agree_holds more ns env env' end k same h = refl

-- ---- the law

pub same_read : (p : Prog) (ns : List String) (env env' : Env) → scoped p ns ≡ true → Agree ns env env'
    → (f : ℕ → ℕ) (end k : ℕ) → read p env f end k ≡ read p env' f end k
unfolding scoped read
same_read done ns env env' h same f end k = refl
same_read stop ns env env' h same f end k = refl
same_read (fields rows p) ns env env' h same f end k =
    ap (λ (r : Reading). cond (leb (k + width rows) end) (after (values rows f k) r) (broken 0))
    (same_read p (named rows ns) (bind rows f k env) (bind rows f k env') h (agree_bind rows ns env env' f k same) f end (k + width rows))
same_read (branch t a b p) ns env env' h same f end k =
    let arms = and_right (asks t ns) _ h in
    let rest = and_right (scoped a ns) _ arms in
    let test = agree_holds t ns env env' end k same (and_left (asks t ns) (scoped a ns && (scoped b ns && scoped p ns)) h) in
    let first = same_read a ns env env' (and_left (scoped a ns) _ arms) same f end k in
    let second = same_read b ns env env' (and_left (scoped b ns) _ rest) same f end k in
    let on = same_read p ns env env' (and_right (scoped b ns) _ rest) same f end in
    λ i. then (cond (test i) (first i) (second i)) (λ j. on j i)
same_read (call a p) ns env env' h same f end k =
    let body = same_read a ns env env' (and_left (scoped a ns) _ h) same f end k in
    let on = same_read p ns env env' (and_right (scoped a ns) _ h) same f end in
    λ i. then (body i) (λ j. on j i)
same_read (repeat n a p) ns env env' h same f end k =
    let rest = and_right (is_in n ns) _ h in
    let count = same n (and_left (is_in n ns) _ h) in
    let body = same_read a ns env env' (and_left (scoped a ns) _ rest) same f end in
    let on = same_read p ns env env' (and_right (scoped a ns) _ rest) same f end in
    λ i. then (again (count i) (λ j. body j i) k) (λ j. on j i)
same_read (frame n a p) ns env env' h same f end k =
    let rest = and_right (is_in n ns) _ h in
    let size = same n (and_left (is_in n ns) _ h) in
    let body = same_read a ns env env' (and_left (scoped a ns) _ rest) same f in
    let on = same_read p ns env env' (and_right (scoped a ns) _ rest) same f end in
    λ i. cond (leb (k + 8 * size i) end) (then (exactly (k + 8 * size i) (body (k + 8 * size i) k i)) (λ j. on j i)) (broken 0)
same_read (fill a p) ns env env' h same f end k =
    let body = same_read a ns env env' (and_left (scoped a ns) _ h) same f end in
    let on = same_read p ns env env' (and_right (scoped a ns) _ h) same f end in
    λ i. then (sweep (end - k) (λ j. body j i) end k) (λ j. on j i)
same_read (under n a p) ns env env' h same f end k =
    let body = same_read a ns env env' (and_left (scoped a ns) _ h) same f end k in
    let on = same_read p ns env env' (and_right (scoped a ns) _ h) same f end in
    λ i. then (numbered n (body i)) (λ j. on j i)

-- a table that needs no name from outside runs the same in every environment
pub same_run : (p : Prog) → scoped p [] ≡ true → (env env' : Env) (f : ℕ → ℕ) (end k : ℕ) → run p env f end k ≡ run p env' f end k
unfolding run
same_run p h env env' f end k = ap end_of (same_read p [] env env' h (λ n l. absurd (false≢true l)) f end k)
