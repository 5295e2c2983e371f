-- What the grammar reads is what is laid out: where a reading by any table reached its end, laying out by the same table gives the
-- fields of the trace, if the numbers that stand there are the trace's own.
-- Assumes nothing.
use mathlib.Core.Path.{◌≡◌, refl, sym, ap, ap₂, ◌∙◌, subst}
use mathlib.Core.Bool.{Bool, true, false, cond}
use mathlib.Core.List.{List, [], ◌∷◌, ◌++◌}
use Prim.Native.Nat.{ℕ, zero, suc, ◌+◌, ◌-◌, ◌*◌, ◌≤◌, ◌<◌}
use native.Mathlib.Nat.{add-zero}
use native.Mathlib.Omega.{arith}
use lib.ListN.{length, length-append}
use lib.Seq.{sets, length-sets}
use lib.Dec.{leb, ltb, eqb}
use borrow.Author.Tests.{le-leb, ltb-true, lt-ltb}
use Rattle.units.proofs.Put.{sets_append}
use Rattle.bits.specs.Bits.{num}
use Rattle.grammar.specs.Syntax.{Item, Prog, done, stop, fields, branch, call, repeat, frame, fill, under}
use Rattle.grammar.specs.Meaning.{Env, value_of, width_of, width, values, bind, bind_one, holds, Reading, broken, reached, then, again, sweep, exactly, read}
use Rattle.grammar.specs.Traces.{Trace, rows_of, size}
use Rattle.grammar.proofs.Ends.{Gives, breaks, gives, given, when_gives, after_gives, then_gives, numbered_gives}
use Rattle.grammar.proofs.Traces.{size_append, size_values}
use Rattle.fields.specs.Fields.{Source, Plan, total, advance, laid, widths_of, names, times_on, sweep_on, walk}

-- ---- widths

-- the widths of a trace
abbrev pub trace_widths : Trace → List ℕ
trace_widths [] = []
trace_widths (x ∷ t) = width_of x.0 ∷ trace_widths t

pub widths_append : (u v : Trace) → trace_widths (u ++ v) ≡ trace_widths u ++ trace_widths v
widths_append [] v = refl
widths_append (x ∷ u) v = ap (λ (l : List ℕ). width_of x.0 ∷ l) (widths_append u v)

pub widths_values : (rows : List Item) (f : ℕ → ℕ) (k : ℕ) → trace_widths (values rows f k) ≡ widths_of rows
unfolding values
widths_values [] f k = refl
widths_values (i ∷ rows) f k = ap (λ (l : List ℕ). width_of i ∷ l) (widths_values rows f (k + width_of i))

pub total_size : (t : Trace) → total (trace_widths t) ≡ size t
unfolding rows_of
total_size [] = refl
total_size (x ∷ t) = ap (λ (n : ℕ). width_of x.0 + n) (total_size t)

pub length_widths : (t : Trace) → length (trace_widths t) ≡ length t
length_widths [] = refl
length_widths (x ∷ t) = ap suc (length_widths t)

-- ---- fields and then more fields

total_append : (u v : List ℕ) → total (u ++ v) ≡ total u + total v
total_append [] v = omega arith
total_append (w ∷ u) v = omega (arith, total_append u v)

pub advance_append : (u v : List ℕ) (π : Plan) → advance (u ++ v) π ≡ advance v (advance u π)
unfolding advance
advance_append u v π =
    let bits : π.at + total (u ++ v) ≡ π.at + total u + total v = omega (arith, total_append u v) in
    let count : π.number + length (u ++ v) ≡ π.number + length u + length v = omega (arith, length-append u v) in
    let memory : sets π.widths π.number (u ++ v) ≡ sets (sets π.widths π.number u) (π.number + length u) v =
    sets_append π.widths π.number u v in
    λ i. record { at = bits i; number = count i; widths = memory i }

pub advance_none : (π : Plan) → advance [] π ≡ π
unfolding advance
advance_none π =
    let bits : π.at + 0 ≡ π.at = omega arith in
    let count : π.number + 0 ≡ π.number = omega arith in
    λ i. record { at = bits i; number = count i; widths = π.widths }

-- where there is room, all are laid out
pub laid_all : (ws : List ℕ) (π : Plan) → π.number + length ws ≤ length π.widths → laid ws π ≡ advance ws π
unfolding laid
laid_all ws π h = ap (λ (b : Bool). cond b (advance ws π) π) (le-leb _ _ h)

-- ---- the numbers that stand there

-- v tells the values of the trace, the first at place k under number i
abbrev pub Tells : Source → ℕ → ℕ → Trace → Type 0
Tells v k i [] = Unit {0}
Tells v k i (x ∷ t) = (v k i (width_of x.0) ≡ x.1) × Tells v (k + width_of x.0) (i + 1) t

pub tells_parts : (v : Source) (k i : ℕ) (t u : Trace) → Tells v k i (t ++ u) → Tells v k i t × Tells v (k + size t) (i + length t) u
unfolding rows_of
tells_parts v k i [] u h = (tt, rw (add-zero k, add-zero i) h)
tells_parts v k i (x ∷ t) u h =
    let more = tells_parts v (k + width_of x.0) (i + 1) t u h.1 in
    let place : k + width_of x.0 + size t ≡ k + (width_of x.0 + size t) = omega arith in
    let number : i + 1 + length t ≡ i + suc (length t) = omega arith in
    ((h.0, more.0), subst (λ (p : ℕ). Tells v p (i + suc (length t)) u) place (subst (λ (n : ℕ). Tells v (k + width_of x.0 + size t) n u) number more.1))

-- and so the names of rows mean the same
names_bind : (v : Source) (rows : List Item) (f : ℕ → ℕ) (k i : ℕ) (env : Env) → Tells v k i (values rows f k) → names rows v k i env ≡ bind rows f k env
unfolding values
names_bind v [] f k i env h = refl
names_bind v (x ∷ rows) f k i env h =
    ap (λ (n : ℕ). names rows v (k + width_of x) (i + 1) (bind_one x n env)) h.0
    ∙ names_bind v rows f (k + width_of x) (i + 1) (bind_one x (num f k (width_of x)) env) h.1

-- ---- what follows a reading

-- a reading from place k, which ended at j, and laying out by g: the place after it, and that g lays out the fields of its trace
record Follows (v : Source) (g : Plan → Plan) (k j : ℕ) (t : Trace) : Type 0 where
  far : j ≡ k + size t
  on : (π : Plan) → π.at ≡ k → Tells v k π.number t → π.number + length t ≤ length π.widths → g π ≡ advance (trace_widths t) π

module _ (v : Source) where
  none : (k : ℕ) → Follows v (λ π. π) k k []
  unfolding rows_of
  none k = record { far = omega arith; on = λ π e h r. sym (advance_none π) }

  -- where the fields of a trace end
  after_trace : (t : Trace) (π : Plan) {k j : ℕ} → π.at ≡ k → j ≡ k + size t → (advance (trace_widths t) π).at ≡ j
  unfolding advance
  after_trace t π e h = omega (arith, total_size t, e, h)

  -- one after the other
  both : {g h : Plan → Plan} {k i j : ℕ} {t u : Trace} → Follows v g k i t → Follows v h i j u → Follows v (λ π. h (g π)) k j (t ++ u)
  unfolding advance
  both {g} {h} {k} {i} {j} {t} {u} a b =
      record {
        far = omega (arith, size_append t u, a.far, b.far);
        on = λ π e m r.
            let parts = tells_parts v k π.number t u m in
            let σ : Plan = advance (trace_widths t) π in
            let count : π.number + length t ≡ σ.number = omega (arith, length_widths t) in
            let told : Tells v i σ.number u =
            subst (λ (n : ℕ). Tells v i n u) count (subst (λ (p : ℕ). Tells v p (π.number + length t) u) (sym a.far) parts.1) in
            let room : σ.number + length u ≤ length σ.widths =
            omega (arith, length-sets π.widths π.number (trace_widths t), length_widths t, length-append t u, r) in
            ap h (a.on π e parts.0 (omega (arith, length-append t u, r)))
            ∙ b.on σ (after_trace t π e a.far) told room
            ∙ sym (advance_append (trace_widths t) (trace_widths u) π)
            ∙ ap (λ (ws : List ℕ). advance ws π) (sym (widths_append t u));
      }

  -- rows, then on with their names
  rows_follow : (rows : List Item) (env : Env) (f : ℕ → ℕ) (g : Env → Plan → Plan) (k j : ℕ) (u : Trace)
      → Follows v (g (bind rows f k env)) (k + width rows) j u
      → Follows v (λ π. g (names rows v π.at π.number env) (laid (widths_of rows) π)) k j (values rows f k ++ u)
  unfolding advance
  rows_follow rows env f g k j u b =
      let t : Trace = values rows f k in
      record {
        far = omega (arith, size_append t u, size_values rows f k, b.far);
        on = λ π e m r.
            let parts = tells_parts v k π.number t u m in
            let same : trace_widths t ≡ widths_of rows = widths_values rows f k in
            let fits : π.number + length (widths_of rows) ≤ length π.widths =
            omega (arith, ap length same, length_widths t, length-append t u, r) in
            let put_all : laid (widths_of rows) π ≡ advance (trace_widths t) π = laid_all (widths_of rows) π fits ∙ ap (λ (ws : List ℕ). advance ws π) (sym same) in
            let known : names rows v π.at π.number env ≡ bind rows f k env =
            ap (λ (p : ℕ). names rows v p π.number env) e ∙ names_bind v rows f k π.number env parts.0 in
            let rest : Follows v (g (bind rows f k env)) (k + size t) j u =
            subst (λ (p : ℕ). Follows v (g (bind rows f k env)) (k + p) j u) (sym (size_values rows f k)) b in
            ap₂ g known put_all
            ∙ (both (record { far = refl; on = λ ρ q n s. refl }) rest).on π e m r;
      }

  -- where the place decides, it decides as it does for the reading
  placed : (g : ℕ → Plan → Plan) {k j : ℕ} {t : Trace} → Follows v (g k) k j t → Follows v (λ π. g π.at π) k j t
  placed g a = record { far = a.far; on = λ π e m r. ap (λ (p : ℕ). g p π) e ∙ a.on π e m r }

  choose : {g h : Plan → Plan} {k : ℕ} {a b : Reading} (c : Bool) → Gives (Follows v g k) a → Gives (Follows v h k) b
      → Gives (Follows v (λ π. cond c (g π) (h π)) k) (cond c a b)
  choose true x y = x
  choose false x y = y

  part : {g : Plan → Plan} {k : ℕ} {r : Reading} (e : ℕ) → Gives (Follows v g k) r → Gives (Follows v g k) (exactly e r)
  unfolding exactly
  part e breaks = breaks
  part e (gives {j = j} h) = when_gives (eqb j e) (λ q. gives h)

  map_gives : {P Q : ℕ → Trace → Type 0} {r : Reading} → Gives P r → ((j : ℕ) (t : Trace) → P j t → Q j t) → Gives Q r
  map_gives breaks h = breaks
  map_gives (gives {j = j} {t = t} c) h = gives (h j t c)

  -- so many times; to the end of a part
  module _ {g : Plan → Plan} {r : ℕ → Reading} (l : (k : ℕ) → Gives (Follows v g k) (r k)) where
    times : (n k : ℕ) → Gives (Follows v (times_on n g) k) (again n r k)
    unfolding again times_on
    times zero k = gives (none k)
    times (suc n) k = then_gives (l k) (times n) (λ i j t u a b. both a b)

    one_more : (n end : ℕ) {k i j : ℕ} {t u : Trace} → leb end k ≡ false → k < i → Follows v g k i t → Follows v (sweep_on n g end) i j u
        → Follows v (sweep_on (suc n) g end) k j (t ++ u)
    unfolding sweep_on
    one_more n end {k} {i} {j} {t} {u} before further a b =
        record {
          far = (both a b).far;
          on = λ π e m room.
              let parts = tells_parts v k π.number t u m in
              let one : g π ≡ advance (trace_widths t) π = a.on π e parts.0 (omega (arith, length-append t u, room)) in
              let place : (g π).at ≡ i = ap (λ (ρ : Plan). ρ.at) one ∙ after_trace t π e a.far in
              let gone : ltb π.at (g π).at ≡ true = lt-ltb π.at (g π).at (omega (arith, e, place, further)) in
              ap (λ (c : Bool). cond c π (cond (ltb π.at (g π).at) (sweep_on n g end (g π)) (g π))) (ap (leb end) e ∙ before)
              ∙ ap (λ (c : Bool). cond c (sweep_on n g end (g π)) (g π)) gone
              ∙ (both a b).on π e m room;
        }

    over : (n end k : ℕ) → leb end k ≡ true → Follows v (sweep_on (suc n) g end) k k []
    unfolding sweep_on
    over n end k q =
        record {
          far = (none k).far;
          on = λ π e m room.
              ap (λ (c : Bool). cond c π (cond (ltb π.at (g π).at) (sweep_on n g end (g π)) (g π))) (ap (leb end) e ∙ q) ∙ (none k).on π e m room;
        }

    step : (n end k : ℕ) → ((i : ℕ) → Gives (Follows v (sweep_on n g end) i) (sweep n r end i)) → (b : Bool) → leb end k ≡ b
        → Gives (Follows v (sweep_on (suc n) g end) k) (cond b (reached k []) (then (r k) (λ j. cond (ltb k j) (sweep n r end j) (broken 0))))
    step n end k rest true q = gives (over n end k q)
    step n end k rest false q =
        then_gives {Q = λ i j u. (k < i) × Follows v (sweep_on n g end) i j u} (l k)
        (λ i. when_gives (ltb k i) (λ c. map_gives (rest i) (λ j u b. (ltb-true k i c, b))))
        (λ i j t u a b. one_more n end q b.0 a b.1)

    sweeps : (end n k : ℕ) → Gives (Follows v (sweep_on n g end) k) (sweep n r end k)
    unfolding sweep sweep_on
    sweeps end zero k = when_gives (leb end k) (λ q. gives (none k))
    sweeps end (suc n) k = step n end k (sweeps end n) (leb end k) refl

  -- ---- for every grammar

  follow : (p : Prog) (env : Env) (f : ℕ → ℕ) (end k : ℕ) → Gives (Follows v (walk p env v end) k) (read p env f end k)
  unfolding read walk
  follow done env f end k = gives (none k)
  follow stop env f end k = breaks
  follow (fields rows p) env f end k =
      when_gives (leb (k + width rows) end)
      (λ m. after_gives (values rows f k) (follow p (bind rows f k env) f end (k + width rows))
      (λ j u. rows_follow rows env f (λ env'. walk p env' v end) k j u))
  follow (branch t a b p) env f end k =
      then_gives
      (map_gives (choose (holds t env end k) (follow a env f end k) (follow b env f end k))
      (λ j u. placed (λ p π. cond (holds t env end p) (walk a env v end π) (walk b env v end π))))
      (follow p env f end) (λ i j t u. both)
  follow (call a p) env f end k = then_gives (follow a env f end k) (follow p env f end) (λ i j t u. both)
  follow (repeat n a p) env f end k = then_gives (times (follow a env f end) (value_of env n) k) (follow p env f end) (λ i j t u. both)
  follow (frame n a p) env f end k =
      let e : ℕ = k + 8 * value_of env n in
      when_gives (leb e end)
      (λ m.
      then_gives
      (part e (map_gives (follow a env f e k) (λ j u. placed (λ p π. walk a env v (p + 8 * value_of env n) π))))
      (follow p env f end) (λ i j t u. both))
  follow (fill a p) env f end k =
      then_gives
      (map_gives (sweeps (follow a env f end) end (end - k) k) (λ j u. placed (λ p π. sweep_on (end - p) (walk a env v end) end π)))
      (follow p env f end) (λ i j t u. both)
  follow (under n a p) env f end k = then_gives (numbered_gives n (follow a env f end k)) (follow p env f end) (λ i j t u. both)

  -- laying out by a table gives the fields of what it reads
  pub lays_trace : (p : Prog) (env : Env) (f : ℕ → ℕ) (end k j : ℕ) (t : Trace) → read p env f end k ≡ reached j t
      → (π : Plan) → π.at ≡ k → Tells v k π.number t → π.number + length t ≤ length π.widths
      → walk p env v end π ≡ advance (trace_widths t) π
  lays_trace p env f end k j t e = (given (follow p env f end k) e).on
