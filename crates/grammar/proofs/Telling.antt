-- What a reading that reached its end tells: a claim on where it ended and on its trace, carried through a table line by line.
-- Assumes nothing.
use mathlib.Core.Path.{◌≡◌, refl, sym, subst}
use mathlib.Core.Bool.{Bool, true, false, cond}
use mathlib.Core.List.{List, [], ◌∷◌, ◌++◌, append-nil}
use Prim.Native.Nat.{ℕ, zero, suc, ◌+◌, ◌-◌, ◌*◌, ◌≤◌}
use Prim.Native.String.{String}
use native.Mathlib.Nat.{suc-mul}
use native.Mathlib.Omega.{arith}
use lib.Dec.{leb, ltb}
use borrow.Author.Tests.{leb-true}
use Rattle.grammar.specs.Syntax.{Item, Test, Prog, field, done, fields, branch, call, repeat}
use Rattle.grammar.specs.Meaning.{Env, value_of, width, values, bind, holds, Reading, broken, reached, after, then, again, sweep, read}
use Rattle.grammar.specs.Traces.{Trace, trace_of}
use Rattle.grammar.specs.Tables.{bytes}
use Rattle.grammar.proofs.Ends.{Gives, breaks, gives, when_gives, sweep_over, sweep_more}

-- where reading by p from place k reaches its end, P holds of that place and of what was read
pub record Tells (P : ℕ → Trace → Type 0) (p : Prog) (env : Env) (f : ℕ → ℕ) (end k : ℕ) : Type 0 where
  pub tells : Gives P (read p env f end k)

-- ---- how claims are carried

map_gives : {P Q : ℕ → Trace → Type 0} {r : Reading} → Gives P r → ((j : ℕ) (t : Trace) → P j t → Q j t) → Gives Q r
map_gives breaks h = breaks
map_gives (gives {j = j} {t = t} c) h = gives (h j t c)

after_tells : {P : ℕ → Trace → Type 0} {r : Reading} (u : Trace) → Gives (λ j t. P j (u ++ t)) r → Gives P (after u r)
unfolding after
after_tells u breaks = breaks
after_tells u (gives c) = gives c

then_tells : {P : ℕ → Trace → Type 0} {r : Reading} {g : ℕ → Reading} → Gives (λ m u. Gives (λ j t. P j (u ++ t)) (g m)) r → Gives P (then r g)
unfolding then
then_tells breaks = breaks
then_tells (gives {j = m} {t = u} c) = after_tells u c

last_tells : {P : ℕ → Trace → Type 0} (env : Env) (f : ℕ → ℕ) (end : ℕ) {r : Reading} → Gives P r → Gives P (then r (λ j. read done env f end j))
unfolding then after read
last_tells env f end breaks = breaks
last_tells {P = P} env f end (gives {j = j} {t = t} c) = gives (subst (P j) (sym (append-nil t)) c)

-- what was read has a name of its own
told : {P : ℕ → Trace → Type 0} (r : Reading) → ((j : ℕ) → r ≡ reached j (trace_of r) → P j (trace_of r)) → Gives P r
unfolding trace_of
told (broken n) h = breaks
told (reached j t) h = gives (h j refl)

-- ---- the ways on of a grammar

-- a claim that follows from another
pub so : {P Q : ℕ → Trace → Type 0} {p : Prog} {env : Env} {f : ℕ → ℕ} {end k : ℕ} → Tells P p env f end k
    → ((j : ℕ) (t : Trace) → P j t → Q j t) → Tells Q p env f end k
so h l = record { tells = map_gives h.tells l }

pub place : {P : ℕ → Trace → Type 0} {p : Prog} {env : Env} {f : ℕ → ℕ} {end j k : ℕ} → k ≡ j → Tells P p env f end j → Tells P p env f end k
place {P} {p} {env} {f} {end} e h = subst (Tells P p env f end) (sym e) h

pub over : {P : ℕ → Trace → Type 0} {env : Env} {f : ℕ → ℕ} {end k : ℕ} → P k [] → Tells P done env f end k
unfolding read
over h = record { tells = gives h }

-- rows, which are then all there
pub rows : {P : ℕ → Trace → Type 0} {is : List Item} {p : Prog} {env : Env} {f : ℕ → ℕ} {end k : ℕ}
    → (k + width is ≤ end → Tells (λ j t. P j (values is f k ++ t)) p (bind is f k env) f end (k + width is)) → Tells P (fields is p) env f end k
unfolding read
rows {is = is} {f = f} {end = end} {k = k} h =
    record { tells = when_gives (leb (k + width is) end) (λ m. after_tells (values is f k) (h (leb-true (k + width is) end m)).tells) }

-- the arm that the test picks, and then on
pub arm : {P : ℕ → Trace → Type 0} {c : Test} {a b p : Prog} {env : Env} {f : ℕ → ℕ} {end k : ℕ} (v : Bool) → holds c env end k ≡ v
    → Tells (λ m u. Tells (λ j t. P j (u ++ t)) p env f end m) (cond v a b) env f end k → Tells P (branch c a b p) env f end k
unfolding read
arm {P} {c} {a} {b} {p} {env} {f} {end} {k} v e h =
    record {
      tells =
          subst (λ (x : Bool). Gives P (then (cond x (read a env f end k) (read b env f end k)) (λ j. read p env f end j))) (sym e)
          (then_tells (map_gives (picked v h) (λ m u l. l.tells)));
    }
  where
    picked : {Q : ℕ → Trace → Type 0} (x : Bool) → Tells Q (cond x a b) env f end k → Gives Q (cond x (read a env f end k) (read b env f end k))
    picked true l = l.tells
    picked false l = l.tells

pub arm_last : {P : ℕ → Trace → Type 0} {c : Test} {a b : Prog} {env : Env} {f : ℕ → ℕ} {end k : ℕ} (v : Bool) → holds c env end k ≡ v
    → Tells P (cond v a b) env f end k → Tells P (branch c a b done) env f end k
arm_last {P} {env = env} {f = f} {end = end} v e h = arm v e (so h (λ m u l. over (subst (P m) (sym (append-nil u)) l)))

-- another table, and then on
pub sub : {P : ℕ → Trace → Type 0} {a p : Prog} {env : Env} {f : ℕ → ℕ} {end k : ℕ}
    → Tells (λ m u. Tells (λ j t. P j (u ++ t)) p env f end m) a env f end k → Tells P (call a p) env f end k
unfolding read
sub h = record { tells = then_tells (map_gives h.tells (λ m u l. l.tells)) }

pub sub_last : {P : ℕ → Trace → Type 0} {a : Prog} {env : Env} {f : ℕ → ℕ} {end k : ℕ} → Tells P a env f end k → Tells P (call a done) env f end k
unfolding read
sub_last {env = env} {f = f} {end = end} h = record { tells = last_tells env f end h.tells }

-- another table, whatever it read, and on from where it ended
pub some : {P : ℕ → Trace → Type 0} {a : Prog} {env : Env} {f : ℕ → ℕ} {end k : ℕ}
    → ((m : ℕ) → read a env f end k ≡ reached m (trace_of (read a env f end k)) → P m (trace_of (read a env f end k))) → Tells P a env f end k
some {a = a} {env = env} {f = f} {end = end} {k = k} h = record { tells = told (read a env f end k) h }

-- ---- lists

-- a body so many times, whatever it read, and on from where it ended
pub loop : {P : ℕ → Trace → Type 0} {n : String} {a p : Prog} {env : Env} {f : ℕ → ℕ} {end k : ℕ} (c : ℕ) → value_of env n ≡ c
    → ((m : ℕ) → again c (λ j. read a env f end j) k ≡ reached m (trace_of (again c (λ j. read a env f end j) k))
    → Tells (λ j t. P j (trace_of (again c (λ j. read a env f end j) k) ++ t)) p env f end m)
    → Tells P (repeat n a p) env f end k
unfolding read
loop {P} {n} {a} {p} {env} {f} {end} {k} c e h =
    record {
      tells =
          subst (λ (x : ℕ). Gives P (then (again x (λ j. read a env f end j) k) (λ j. read p env f end j))) (sym e)
          (then_tells (told (again c (λ j. read a env f end j) k) (λ m q. (h m q).tells)));
    }

-- so many times the same rows
unfoldable pub many : ℕ → List Item → (ℕ → ℕ) → ℕ → Trace
many zero is f k = []
many (suc n) is f k = values is f k ++ many n is f (k + width is)

many_gives : {P : ℕ → Trace → Type 0} (is : List Item) (env : Env) (f : ℕ → ℕ) (end n k : ℕ) → P (k + n * width is) (many n is f k)
    → Gives P (again n (λ j. read (fields is done) env f end j) k)
unfolding many again read after
many_gives {P} is env f end zero k h =
    let here : k + 0 * width is ≡ k = omega arith in
    gives (subst (λ (x : ℕ). P x []) here h)
many_gives {P} is env f end (suc n) k h =
    let last : k + suc n * width is ≡ k + width is + n * width is = omega (arith, suc-mul n (width is)) in
    then_tells
    (when_gives (leb (k + width is) end)
    (λ m.
    gives
    (subst (λ (u : Trace). Gives (λ j t. P j (u ++ t)) (again n (λ j. read (fields is done) env f end j) (k + width is))) (sym (append-nil (values is f k)))
    (many_gives {P = λ j t. P j (values is f k ++ t)} is env f end n (k + width is)
    (subst (λ (x : ℕ). P x (values is f k ++ many n is f (k + width is))) last h)))))

pub alike : {P : ℕ → Trace → Type 0} {n : String} {is : List Item} {p : Prog} {env : Env} {f : ℕ → ℕ} {end k : ℕ} (c : ℕ) → value_of env n ≡ c
    → Tells (λ j t. P j (many c is f k ++ t)) p env f end (k + c * width is) → Tells P (repeat n (fields is done) p) env f end k
unfolding read
alike {P} {n} {is} {p} {env} {f} {end} {k} c e h =
    record {
      tells =
          subst (λ (x : ℕ). Gives P (then (again x (λ j. read (fields is done) env f end j) k) (λ j. read p env f end j))) (sym e)
          (then_tells (many_gives is env f end c k h.tells));
    }

-- bytes up to the end of the part
one_byte : {P : ℕ → Trace → Type 0} (n : String) (env : Env) (f : ℕ → ℕ) (end k : ℕ) (g : ℕ → Reading)
    → Gives (λ j t. P j (values (field 8 n ∷ []) f k ++ t)) (g (k + 8))
    → Gives P (then (read (fields (field 8 n ∷ []) done) env f end k) (λ i. cond (ltb k i) (g i) (broken 0)))
unfolding values
one_byte {P} n env f end k g h = then_tells whole.tells
  where
    whole : Tells (λ i u. Gives (λ j t. P j (u ++ t)) (cond (ltb k i) (g i) (broken 0))) (fields (field 8 n ∷ []) done) env f end k
    whole = rows (λ m. over (when_gives (ltb k (k + 8)) (λ q. h)))

bytes_give : {P : ℕ → Trace → Type 0} (n : String) (env : Env) (f : ℕ → ℕ) (end steps m k : ℕ) → end - k ≤ steps → k + 8 * m ≡ end
    → P end (many m (field 8 n ∷ []) f k) → Gives P (sweep steps (λ j. read (fields (field 8 n ∷ []) done) env f end j) end k)
unfolding many
bytes_give {P} n env f end steps zero k few e h =
    let here : k ≡ end = omega arith in
    subst (Gives P) (sym (sweep_over steps _ end k (omega arith))) (gives (subst (λ (x : ℕ). P x []) (sym here) h))
bytes_give {P} n env f end steps (suc m) k few e h =
    subst (Gives P) (sym (sweep_more steps _ end k few (omega arith)))
    (one_byte n env f end k (λ i. sweep (end - i) (λ j. read (fields (field 8 n ∷ []) done) env f end j) end i)
    (bytes_give {P = λ j t. P j (values (field 8 n ∷ []) f k ++ t)} n env f end (end - (k + 8)) m (k + 8) (omega arith) (omega arith) h))

-- so many bytes are all that is left
pub to_end : {P : ℕ → Trace → Type 0} {n : String} {env : Env} {f : ℕ → ℕ} {end k : ℕ} (m : ℕ) → k + 8 * m ≡ end
    → P end (many m (field 8 n ∷ []) f k) → Tells P (bytes n) env f end k
unfolding read
to_end {P} {n} {env} {f} {end} {k} m e h = record { tells = last_tells env f end (bytes_give n env f end (end - k) m k (omega arith) e h) }
