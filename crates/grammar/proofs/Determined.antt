-- The numbers of a reading determine its rows: where two readings by one table, of any bits, give numbers that begin alike once
-- the reserved ones are set to 0, their rows are the same, and so are the numbers after them.
-- Assumes nothing.
use mathlib.Core.Path.{◌≡◌, refl, sym, ap, ap₂, ◌∙◌, subst}
use mathlib.Core.Bool.{Bool, true, false, cond, ◌&&◌, false≢true}
use mathlib.Core.List.{List, [], ◌∷◌, ◌++◌, append_assoc}
use mathlib.Core.Logic.{◌⊎◌, inl, inr}
use Prim.Native.Nat.{ℕ, zero, suc, ◌+◌, ◌-◌, ◌*◌}
use native.Mathlib.Omega.{arith}
use lib.Dec.{leb, ltb}
use Rattle.bits.specs.Bits.{num}
use Rattle.bits.proofs.Cases.{and_left, and_right, same_leb}
use Rattle.grammar.specs.Syntax.{Item, Test, Prog, field, reserved, is, among, more, done, stop, fields, branch, call, repeat, frame, fill, under}
use Rattle.grammar.specs.Meaning.{Env, value_of, width_of, width, values, bind, bind_one, holds, Reading, broken, reached, after, then, again, sweep, exactly, numbered, read}
use Rattle.grammar.specs.Traces.{Trace, rows_of, size, numbers, joined, Keeps, blank_value, blank}
use Rattle.grammar.specs.Tables.{splice_descriptor}
use Rattle.grammar.proofs.Traces.{numbers_append, bind_named, blank_append, blank_rows}
use Rattle.grammar.proofs.Ends.{covers}
use Rattle.grammar.proofs.Endless.{asks_no_end, endless, same_test}
use Rattle.grammar.proofs.Readings.{if_parts, after_parts, then_parts, numbered_parts, exactly_parts, Reads, rows_parts}

-- ---- what is claimed of two readings

-- they started at k and k' and reached j and j', equally far on, with the same rows, and the same numbers come after
record Alike (k k' j j' : ℕ) (t t' : Trace) (r r' : List ℕ) : Type 0 where
  step : ℕ
  far : j ≡ k + step
  far' : j' ≡ k' + step
  rows : blank t ≡ blank t'
  rest : r ≡ r'

-- so it is where both reach a place and their numbers begin alike
record Tells (k k' : ℕ) (x x' : Reading) : Type 0 where
  told : (j j' : ℕ) (t t' : Trace) (r r' : List ℕ) → x ≡ reached j t → x' ≡ reached j' t'
      → numbers (blank t) ++ r ≡ numbers (blank t') ++ r' → Alike k k' j j' t t' r r'

tells_none : (k k' : ℕ) → Tells k k' (reached k []) (reached k' [])
unfolding numbers blank
tells_none k k' =
    record {
      told = λ j j' t t' r r' e e' same.
          let here : k ≡ j = cc in
          let here' : k' ≡ j' = cc in
          let none : t ≡ [] = cc in
          let none' : t' ≡ [] = cc in
          let left : r ≡ r' = rw (none, none') at same in
          record { step = 0; far = omega arith; far' = omega arith; rows = ap blank (none ∙ sym none'); rest = left };
    }

tells_broken : (k k' : ℕ) (x' : Reading) → Tells k k' (broken 0) x'
tells_broken k k' x' = record { told = λ j j' t t' r r' e e' same. let z : ◌≡◌ {A = ℕ} 0 1 = cc in absurd (omega arith) }

tells_when : {k k' : ℕ} {x x' : Reading} (b b' : Bool) → Tells k k' x x' → Tells k k' (cond b x (broken 0)) (cond b' x' (broken 0))
tells_when {x = x} {x' = x'} b b' h =
    record { told = λ j j' t t' r r' e e'. h.told j j' t t' r r' (if_parts b x e).1 (if_parts b' x' e').1 }

tells_either : {k k' : ℕ} {x y x' y' : Reading} (b b' : Bool) → b ≡ b' → Tells k k' x x' → Tells k k' y y'
    → Tells k k' (cond b x y) (cond b' x' y')
tells_either {k} {k'} {x} {y} {x'} {y'} b b' e h l = subst (λ (c : Bool). Tells k k' (cond b x y) (cond c x' y')) e (both b)
  where
    both : (c : Bool) → Tells k k' (cond c x y) (cond c x' y')
    both true = h
    both false = l

tells_numbered : {k k' : ℕ} {x x' : Reading} (n : ℕ) → Tells k k' x x' → Tells k k' (numbered n x) (numbered n x')
tells_numbered {x = x} {x' = x'} n h =
    record { told = λ j j' t t' r r' e e'. h.told j j' t t' r r' (numbered_parts n x e) (numbered_parts n x' e') }

tells_exactly : {k k' : ℕ} {x x' : Reading} (end end' : ℕ) → Tells k k' x x' → Tells k k' (exactly end x) (exactly end' x')
tells_exactly {x = x} {x' = x'} end end' h =
    record { told = λ j j' t t' r r' e e'. h.told j j' t t' r r' (exactly_parts end x e).0 (exactly_parts end' x' e').0 }

-- ---- one after the other

module _ (t u v : Trace) (e : t ≡ u ++ v) where
  blanks : blank t ≡ blank u ++ blank v
  blanks = ap blank e ∙ blank_append u v

  blanks_rest : (r : List ℕ) → numbers (blank t) ++ r ≡ numbers (blank u) ++ (numbers (blank v) ++ r)
  blanks_rest r = ap (λ (x : Trace). numbers x ++ r) blanks ∙ rw (numbers_append, append_assoc)

-- the numbers of the first parts begin alike too, and what is known of both parts is known of the whole
module _ (t u v t' u' v' : Trace) (e : t ≡ u ++ v) (e' : t' ≡ u' ++ v') (r r' : List ℕ) where
  front : numbers (blank t) ++ r ≡ numbers (blank t') ++ r'
      → numbers (blank u) ++ (numbers (blank v) ++ r) ≡ numbers (blank u') ++ (numbers (blank v') ++ r')
  front same = sym (blanks_rest t u v e r) ∙ same ∙ blanks_rest t' u' v' e' r'

  whole : {k k' i i' j j' : ℕ} {s s' : List ℕ} → Alike k k' i i' u u' s s' → Alike i i' j j' v v' r r' → Alike k k' j j' t t' r r'
  whole a b =
      record {
        step = a.step + b.step;
        far = omega (arith, a.far, b.far);
        far' = omega (arith, a.far', b.far');
        rows = blanks t u v e ∙ ap₂ (λ (x y : Trace). x ++ y) a.rows b.rows ∙ sym (blanks t' u' v' e');
        rest = b.rest;
      }

-- the ends lie equally far on, or that does not matter
abbrev Near : Bool → ℕ → ℕ → Type 0
Near b d d' = (b ≡ true) ⊎ (d ≡ d')

near_left : (a b : Bool) {d d' : ℕ} → Near (a && b) d d' → Near a d d'
near_left a b (inl h) = inl (and_left a b h)
near_left a b (inr e) = inr e

near_right : (a b : Bool) {d d' : ℕ} → Near (a && b) d d' → Near b d d'
near_right a b (inl h) = inl (and_right a b h)
near_right a b (inr e) = inr e

-- where it does, they lie equally far on
apart : {d d' : ℕ} → Near false d d' → d ≡ d'
apart (inl h) = absurd (false≢true h)
apart (inr e) = e

near_test : (t : Test) (env : Env) (end end' k k' : ℕ) → Near (asks_no_end t) (end - k) (end' - k') → holds t env end k ≡ holds t env end' k'
near_test t env end end' k k' (inl h) = same_test t h env end end' k k'
near_test (is n v) env end end' k k' (inr e) = refl
near_test (among n vs) env end end' k k' (inr e) = refl
near_test more env end end' k k' (inr e) = same_leb (suc k) end (suc k') end' (λ h. omega arith) (λ h. omega arith)

module _ (b : Bool) (end end' : ℕ) where
  near_on : {k k' j j' : ℕ} {t t' : Trace} {r r' : List ℕ} → Alike k k' j j' t t' r r' → Near b (end - k) (end' - k') → Near b (end - j) (end' - j')
  near_on a (inl h) = inl h
  near_on a (inr e) = inr (omega (arith, a.far, a.far'))

  -- two readings from any places from which the ends lie equally far on, if that matters
  abbrev Along : (ℕ → Reading) → (ℕ → Reading) → Type 0
  Along g g' = (i i' : ℕ) → Near b (end - i) (end' - i') → Tells i i' (g i) (g' i')

  tells_then : {k k' : ℕ} {x x' : Reading} {g g' : ℕ → Reading} → Near b (end - k) (end' - k') → Tells k k' x x' → Along g g'
      → Tells k k' (then x g) (then x' g')
  tells_then {x = x} {x' = x'} {g = g} {g' = g'} near h l =
      record {
        told = λ j j' t t' r r' e e' same.
            let q = then_parts x g e in
            let q' = then_parts x' g' e' in
            let begun = front t q.left q.right t' q'.left q'.right q.joined q'.joined r r' same in
            let first = h.told q.mid q'.mid q.left q'.left _ _ q.came q'.came begun in
            let second = (l q.mid q'.mid (near_on first near)).told j j' q.right q'.right r r' q.went q'.went first.rest in
            whole t q.left q.right t' q'.left q'.right q.joined q'.joined r r' first second;
      }

  tells_again : {g g' : ℕ → Reading} → Along g g' → (n : ℕ) → Along (again n g) (again n g')
  unfolding again
  tells_again l zero k k' near = tells_none k k'
  tells_again l (suc n) k k' near = tells_then near (l k k' near) (tells_again l n)

-- a sweep goes by its end
module _ (end end' : ℕ) {g g' : ℕ → Reading} (l : Along false end end' g g') where
  over : (k k' : ℕ) → end - k ≡ end' - k' → leb end k ≡ leb end' k'
  over k k' e = same_leb end k end' k' (λ h. omega arith) (λ h. omega arith)

  tells_sweep : (n k k' : ℕ) → end - k ≡ end' - k' → Tells k k' (sweep n g end k) (sweep n g' end' k')
  unfolding sweep
  tells_sweep zero k k' e = tells_either (leb end k) (leb end' k') (over k k' e) (tells_none k k') (tells_broken k k' (broken 0))
  tells_sweep (suc n) k k' e =
      tells_either (leb end k) (leb end' k') (over k k' e) (tells_none k k')
      (tells_then false end end' (inr e) (l k k' (inr e)) (λ j j' near. tells_when (ltb k j) (ltb k' j') (tells_sweep n j j' (apart near))))

-- ---- rows

kept : (i : Item) (v v' : ℕ) → blank_value i v ≡ blank_value i v' → Keeps i v v'
kept (field w n) v v' e = e
kept (reserved w) v v' e = tt

-- the rows are as many on both sides, and the values bound by name are among the numbers
same_rows : (rows : List Item) (f f' : ℕ → ℕ) (k k' : ℕ) (env : Env) (r r' : List ℕ)
    → numbers (blank (values rows f k)) ++ r ≡ numbers (blank (values rows f' k')) ++ r'
    → Alike k k' (k + width rows) (k' + width rows) (values rows f k) (values rows f' k') r r' × (bind rows f k env ≡ bind rows f' k' env)
unfolding values blank numbers
same_rows [] f f' k k' env r r' e = (record { step = 0; far = refl; far' = refl; rows = refl; rest = e }, refl)
same_rows (i ∷ rows) f f' k k' env r r' e =
    let v : ℕ = num f k (width_of i) in
    let v' : ℕ = num f' k' (width_of i) in
    let here : blank_value i v ≡ blank_value i v' = cc in
    let on = same_rows rows f f' (k + width_of i) (k' + width_of i) (bind_one i v env) r r' (cc) in (
      record {
        step = width (i ∷ rows);
        far = refl;
        far' = refl;
        rows = ap₂ (λ (x : ℕ) (t : Trace). (i, x) ∷ t) here on.0.rows;
        rest = on.0.rest;
      },
      on.1 ∙ ap (bind rows f' (k' + width_of i)) (bind_named i v v' env (kept i v v' here)),
    )

-- then on, in the same environment
tells_after : (b : Bool) (end end' k k' : ℕ) (rows : List Item) (f f' : ℕ → ℕ) (env : Env) (g g' : Env → ℕ → Reading)
    → Near b (end - k) (end' - k') → ((env' : Env) → Along b end end' (g env') (g' env'))
    → Tells k k' (after (values rows f k) (g (bind rows f k env) (k + width rows)))
    (after (values rows f' k') (g' (bind rows f' k' env) (k' + width rows)))
tells_after b end end' k k' rows f f' env g g' near l =
    record {
      told = λ j j' t t' r r' e e' same.
          let u : Trace = values rows f k in
          let u' : Trace = values rows f' k' in
          let q = after_parts u (g (bind rows f k env) (k + width rows)) e in
          let q' = after_parts u' (g' (bind rows f' k' env) (k' + width rows)) e' in
          let first = same_rows rows f f' k k' env _ _ (front t u q.0 t' u' q'.0 q.2 q'.2 r r' same) in
          let on = l (bind rows f k env) (k + width rows) (k' + width rows) (near_on b end end' first.0 near) in
          let met = ap (λ (env' : Env). g' env' (k' + width rows)) first.1 ∙ q'.1 in
          whole t u q.0 t' u' q'.0 q.2 q'.2 r r' first.0 (on.told j j' q.0 q'.0 r r' q.1 met first.0.rest);
    }

-- ---- for every table

tells : (p : Prog) (env : Env) (f f' : ℕ → ℕ) (end end' k k' : ℕ) → Near (endless p) (end - k) (end' - k')
    → Tells k k' (read p env f end k) (read p env f' end' k')
unfolding endless read
tells done env f f' end end' k k' near = tells_none k k'
tells stop env f f' end end' k k' near = tells_broken k k' (broken 0)
tells (fields rows p) env f f' end end' k k' near =
    tells_when (leb (k + width rows) end) (leb (k' + width rows) end')
    (tells_after (endless p) end end' k k' rows f f' env (λ env' i. read p env' f end i) (λ env' i. read p env' f' end' i) near
    (λ env'. tells p env' f f' end end'))
tells (branch t a b p) env f f' end end' k k' near =
    let arms = near_right (asks_no_end t) (endless a && (endless b && endless p)) near in
    let rest = near_right (endless a) (endless b && endless p) arms in
    tells_then (endless p) end end' (near_right (endless b) (endless p) rest)
    (tells_either (holds t env end k) (holds t env end' k') (near_test t env end end' k k' (near_left (asks_no_end t) _ near))
    (tells a env f f' end end' k k' (near_left (endless a) _ arms))
    (tells b env f f' end end' k k' (near_left (endless b) _ rest)))
    (tells p env f f' end end')
tells (call a p) env f f' end end' k k' near =
    tells_then (endless p) end end' (near_right (endless a) (endless p) near)
    (tells a env f f' end end' k k' (near_left (endless a) _ near))
    (tells p env f f' end end')
tells (repeat n a p) env f f' end end' k k' near =
    tells_then (endless p) end end' (near_right (endless a) (endless p) near)
    (tells_again (endless a) end end' (tells a env f f' end end') (value_of env n) k k' (near_left (endless a) _ near))
    (tells p env f f' end end')
tells (frame n a p) env f f' end end' k k' near =
    let e : ℕ = k + 8 * value_of env n in
    let e' : ℕ = k' + 8 * value_of env n in
    tells_when (leb e end) (leb e' end')
    (tells_then (endless p) end end' near (tells_exactly e e' (tells a env f f' e e' k k' (inr (omega arith)))) (tells p env f f' end end'))
tells (fill a p) env f f' end end' k k' near =
    let e : end - k ≡ end' - k' = apart near in
    tells_then (endless p) end end' (inr e)
    (subst (λ (n : ℕ). Tells k k' (sweep (end - k) (λ j. read a env f end j) end k) (sweep n (λ j. read a env f' end' j) end' k')) e
    (tells_sweep end end' (λ i i' h. tells a env f f' end end' i i' (inr (apart h))) (end - k) k k' e))
    (tells p env f f' end end')
tells (under n a p) env f f' end end' k k' near =
    tells_then (endless p) end end' (near_right (endless a) (endless p) near)
    (tells_numbered n (tells a env f f' end end' k k' (near_left (endless a) _ near)))
    (tells p env f f' end end')

module _ {p : Prog} {env : Env} {f f' : ℕ → ℕ} {end end' k k' j j' : ℕ} {t t' : Trace} (r r' : List ℕ) (q : Reads p env f end k j t)
    (q' : Reads p env f' end' k' j' t') (near : (endless p ≡ true) ⊎ (end - k ≡ end' - k'))
    (same : numbers (blank t) ++ r ≡ numbers (blank t') ++ r') where
  -- the rows are the same but for what reserved bits hold, and so are the numbers after them
  pub determined : (blank t ≡ blank t') × (r ≡ r')
  determined = let a = (tells p env f f' end end' k k' near).told j j' t t' r r' q.reads q'.reads same in (a.rows, a.rest)

  pub same_size : size t ≡ size t'
  same_size = ap width (sym (blank_rows t) ∙ ap rows_of determined.0 ∙ blank_rows t')

  pub as_far : j - k ≡ j' - k'
  as_far = omega (arith, same_size, covers p env f end k j t q.reads, covers p env f' end' k' j' t' q'.reads)

-- ---- lists

-- what p reads, with the reserved values set to 0
pub record Blanked (p : Prog) (env : Env) (b : Trace) : Type 0 where
  pub bits : ℕ → ℕ
  pub end : ℕ
  pub start : ℕ
  pub stop : ℕ
  pub trace : Trace
  pub reading : Reads p env bits end start stop trace
  pub is : b ≡ blank trace

abbrev pub AllBlanked : Prog → Env → List Trace → Type 0
AllBlanked p env [] = Unit {0}
AllBlanked p env (b ∷ bs) = Blanked p env b × AllBlanked p env bs

-- the table opens with a row, so none of its traces is without a number
module _ (i : Item) (rows : List Item) (p : Prog) (env : Env) (free : endless p ≡ true) where
  some : (b : Trace) → Blanked (fields (i ∷ rows) p) env b → (x : ℕ) × (xs : List ℕ) × (numbers b ≡ x ∷ xs)
  unfolding values blank numbers
  some b h =
      let q = rows_parts h.reading in
      (_, _, ap numbers (h.is ∙ ap blank q.2))

  no_more : (b : Trace) (bs : List Trace) → Blanked (fields (i ∷ rows) p) env b → numbers (joined (b ∷ bs)) ≡ [] → ⊥
  unfolding joined
  no_more b bs h e =
      let s = some b h in
      let split = numbers_append b (joined bs) in
      let full = ap (λ (l : List ℕ). l ++ numbers (joined bs)) s.2 in
      let z : ◌≡◌ {A = ℕ} 0 1 = cc in
      omega arith

  pub lists_determined : (bs bs' : List Trace) → AllBlanked (fields (i ∷ rows) p) env bs → AllBlanked (fields (i ∷ rows) p) env bs'
      → numbers (joined bs) ≡ numbers (joined bs') → bs ≡ bs'
  unfolding joined numbers endless
  lists_determined [] [] h h' e = refl
  lists_determined [] (b' ∷ bs') h h' e = absurd (no_more b' bs' h'.0 (sym e))
  lists_determined (b ∷ bs) [] h h' e = absurd (no_more b bs h.0 e)
  lists_determined (b ∷ bs) (b' ∷ bs') h h' e =
      let split = sym (numbers_append b (joined bs)) ∙ e ∙ numbers_append b' (joined bs') in
      let d = determined (numbers (joined bs)) (numbers (joined bs')) h.0.reading h'.0.reading (inl free)
      (ap (λ (t : Trace). numbers t ++ numbers (joined bs)) (sym h.0.is) ∙ split ∙ ap (λ (t : Trace). numbers t ++ numbers (joined bs')) h'.0.is) in
      ap₂ (λ (t : Trace) (ts : List Trace). t ∷ ts) (h.0.is ∙ d.0 ∙ sym h'.0.is) (lists_determined bs bs' h.1 h'.1 d.1)

-- descriptors, one after another
pub descriptors_determined : (bs bs' : List Trace) → AllBlanked splice_descriptor [] bs → AllBlanked splice_descriptor [] bs'
    → numbers (joined bs) ≡ numbers (joined bs') → bs ≡ bs'
unfolding splice_descriptor endless
descriptors_determined = lists_determined _ _ _ [] refl
