-- What reading by a grammar gives: where it ends and what was read on the way, or the number of the rule that is broken.
-- Places and ends are counted in bits.
-- Assumes nothing.
use Rattle.std.specs.Prelude.{ℕ, zero, suc, ◌+◌, ◌-◌, ◌*◌, Bool, false, cond, ◌||◌, List, [], ◌∷◌, ◌++◌, leb, ltb, eqb}
use Prim.Native.String.{String}
use lib.Text.{eqt}
use Rattle.bits.specs.Bits.{num}
use Rattle.grammar.specs.Syntax.{Item, Test, Prog, field, reserved, is, among, more, done, stop, fields, branch, call, repeat, frame, fill, under}

-- the values read so far, by name, the last one first
abbrev pub Env : Type 0
Env = List (String × ℕ)

-- the value last read under this name, 0 where there is none
abbrev pub value_of : Env → String → ℕ
value_of [] n = 0
value_of (x ∷ env) n = cond (eqt x.0 n) x.1 (value_of env n)

-- ---- a row

-- how many bits a row has
abbrev pub width_of : Item → ℕ
width_of (field w n) = w
width_of (reserved w) = w

-- how many bits these rows have
abbrev pub width : List Item → ℕ
width [] = 0
width (i ∷ rows) = width_of i + width rows

-- each row with the number that its bits make, from place k on
unfoldable pub values : List Item → (ℕ → ℕ) → ℕ → List (Item × ℕ)
values [] f k = []
values (i ∷ rows) f k = (i, num f k (width_of i)) ∷ values rows f (k + width_of i)

-- a named value goes into the environment, a reserved one does not
abbrev pub bind_one : Item → ℕ → Env → Env
bind_one (field w n) v env = (n, v) ∷ env
bind_one (reserved w) v env = env

-- the names of these rows, the first of which stands at place k
abbrev pub bind : List Item → (ℕ → ℕ) → ℕ → Env → Env
bind [] f k env = env
bind (i ∷ rows) f k env = bind rows f (k + width_of i) (bind_one i (num f k (width_of i)) env)

-- ---- a test

-- the value is one of these
abbrev pub is_among : ℕ → List ℕ → Bool
is_among v [] = false
is_among v (x ∷ xs) = eqb v x || is_among v xs

-- whether a test holds at place k of a part that ends at `end`
abbrev pub holds : Test → Env → ℕ → ℕ → Bool
holds (is n v) env end k = eqb (value_of env n) v
holds (among n vs) env end k = is_among (value_of env n) vs
holds more env end k = ltb k end

-- ---- reading

-- what reading by a table comes to
pub data Reading : Type 0 where
  -- a rule is broken: its number, or 0 where none was given yet
  broken : ℕ → Reading
  -- the place after what was read, and that
  reached : ℕ → List (Item × ℕ) → Reading

-- what was read before, put in front
unfoldable pub after : List (Item × ℕ) → Reading → Reading
after t (broken n) = broken n
after t (reached k u) = reached k (t ++ u)

-- on from where the first ended
unfoldable pub then : Reading → (ℕ → Reading) → Reading
then (broken n) g = broken n
then (reached k t) g = after t (g k)

-- so many times
unfoldable pub again : ℕ → (ℕ → Reading) → ℕ → Reading
again zero g k = reached k []
again (suc n) g k = then (g k) (again n g)

-- as often as it takes to reach the end; each time must go on by at least a bit, so as many steps as bits are left suffice
unfoldable pub sweep : ℕ → (ℕ → Reading) → ℕ → ℕ → Reading
sweep zero g end k = cond (leb end k) (reached k []) (broken 0)
sweep (suc n) g end k = cond (leb end k) (reached k []) (then (g k) (λ j. cond (ltb k j) (sweep n g end j) (broken 0)))

-- the whole part was used up
unfoldable pub exactly : ℕ → Reading → Reading
exactly end (broken n) = broken n
exactly end (reached k t) = cond (eqb k end) (reached k t) (broken 0)

-- a breach that has no number yet gets this one
unfoldable pub numbered : ℕ → Reading → Reading
numbered n (broken zero) = broken n
numbered n (broken (suc m)) = broken (suc m)
numbered n (reached k t) = reached k t

-- reading by a grammar: the bits f up to `end`, from place k on
unfoldable pub read : Prog → Env → (ℕ → ℕ) → ℕ → ℕ → Reading
read done env f end k = reached k []
read stop env f end k = broken 0
read (fields rows p) env f end k =
    cond (leb (k + width rows) end) (after (values rows f k) (read p (bind rows f k env) f end (k + width rows))) (broken 0)
read (branch t a b p) env f end k =
    then (cond (holds t env end k) (read a env f end k) (read b env f end k)) (λ j. read p env f end j)
read (call a p) env f end k = then (read a env f end k) (λ j. read p env f end j)
read (repeat n a p) env f end k = then (again (value_of env n) (λ j. read a env f end j) k) (λ j. read p env f end j)
read (frame n a p) env f end k =
    let e = k + 8 * value_of env n in
    cond (leb e end) (then (exactly e (read a env f e k)) (λ j. read p env f end j)) (broken 0)
read (fill a p) env f end k = then (sweep (end - k) (λ j. read a env f end j) end k) (λ j. read p env f end j)
read (under n a p) env f end k = then (numbered n (read a env f end k)) (λ j. read p env f end j)

-- ---- where it ends

-- a rule broken, or the place after what was read
pub data Outcome : Type 0 where
  breach : ℕ → Outcome
  ends : ℕ → Outcome

-- what a reading comes to, without what was read
unfoldable pub end_of : Reading → Outcome
end_of (broken n) = breach n
end_of (reached k t) = ends k

-- reading, without what was read
unfoldable pub run : Prog → Env → (ℕ → ℕ) → ℕ → ℕ → Outcome
run p env f end k = end_of (read p env f end k)
