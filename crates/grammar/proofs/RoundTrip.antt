-- Reading and writing by any grammar undo each other: what was read writes back from its numbers, what was written reads back
-- from the bits that it stands for, and a trace decides its bits.
-- Assumes nothing.
use mathlib.Core.Path.{◌≡◌, refl, sym, ap, ◌∙◌, subst}
use mathlib.Core.Bool.{Bool, true, false, cond}
use mathlib.Core.List.{List, [], ◌∷◌, ◌++◌, append_assoc}
use mathlib.Core.Logic.{⊎_elim}
use Prim.Native.Nat.{ℕ, zero, suc, ◌+◌, ◌*◌, ◌^◌, ◌≤◌, ◌<◌}
use native.Mathlib.Nat.{add_assoc, add-zero}
use native.Mathlib.Omega.{arith}
use lib.Dec.{ltb, eqb}
use borrow.Author.Tests.{ltb-true, lt-ltb}
use Rattle.bits.specs.Bits.{num, patched}
use Rattle.bits.proofs.Cases.{le_or_lt}
use Rattle.bits.proofs.Num.{Bits, num_lt, num_suc}
use Rattle.bits.proofs.Patch.{patched_bits, patched_after, num_here}
use Rattle.grammar.specs.Syntax.{Item, Prog}
use Rattle.grammar.specs.Meaning.{Env, width_of, width, values, bind, bind_one, Reading, broken, reached, after, then, exactly, numbered, read}
use Rattle.grammar.specs.Traces.{Trace, rows_of, size, numbers, Spans, NamedSpans}
use Rattle.grammar.specs.Writing.{Writing, refused, wrote, ahead, next, write_rows, filling, write}
use Rattle.grammar.proofs.Traces.{size_append, numbers_append, named_append, reread_append, reread, spans_named, bind_named, spans_from, Fits, fits_append}
use Rattle.grammar.proofs.Induction.{Kept, kept}
use Rattle.grammar.proofs.Ends.{Gives, breaks, gives, given, when_gives, after_gives, then_gives, numbered_gives}

-- the numbers of two traces, and more after them
numbers_rest : (u v : Trace) (rest : List ℕ) → numbers (u ++ v) ++ rest ≡ numbers u ++ (numbers v ++ rest)
numbers_rest u v rest = rw (numbers_append, append_assoc)

-- ---- what was read writes back

-- w writes the numbers of the trace, whatever comes after them
record Writes (w : List ℕ → Writing) (j : ℕ) (t : Trace) : Type 0 where
  back : (rest : List ℕ) → w (numbers t ++ rest) ≡ wrote j t rest

writes_none : (k : ℕ) → Writes (wrote k []) k []
unfolding numbers
writes_none k = record { back = λ rest. refl }

then_writes : {r : Reading} {g : ℕ → Reading} {w : List ℕ → Writing} {h : ℕ → List ℕ → Writing} → Gives (Writes w) r
    → ((i : ℕ) → Gives (Writes (h i)) (g i)) → Gives (Writes (λ xs. next (w xs) h)) (then r g)
unfolding next ahead
then_writes {w = w} {h = h} a b =
    then_gives a b
    (λ i j u v c d.
    record {
      back = λ rest.
          ap (λ (l : List ℕ). next (w l) h) (numbers_rest u v rest)
          ∙ ap (λ (x : Writing). next x h) (c.back (numbers v ++ rest))
          ∙ ap (ahead u) (d.back rest);
    })

exactly_writes : {r : Reading} {w : List ℕ → Writing} (e : ℕ) → Gives (Writes w) r → Gives (Writes (λ xs. filling e (w xs))) (exactly e r)
unfolding exactly filling
exactly_writes e breaks = breaks
exactly_writes e (gives {j = j} {t = t} h) =
    when_gives (eqb j e)
    (λ q. gives (record { back = λ rest. ap (filling e) (h.back rest) ∙ ap (λ (b : Bool). cond b (wrote j t rest) refused) q }))

ahead_none : (w : Writing) → ahead [] w ≡ w
unfolding ahead
ahead_none refused = refl
ahead_none (wrote j t rest) = refl

ahead_one : (x : Item × ℕ) (t : Trace) (w : Writing) → ahead (x ∷ []) (ahead t w) ≡ ahead (x ∷ t) w
unfolding ahead
ahead_one x t refused = refl
ahead_one x t (wrote j u rest) = refl

-- rows take their own numbers
rows_write : (rows : List Item) (f : ℕ → ℕ) → Bits f → (k : ℕ) (env : Env) (h : Env → List ℕ → Writing) (rest : List ℕ)
    → write_rows rows env (numbers (values rows f k) ++ rest) h ≡ ahead (values rows f k) (h (bind rows f k env) rest)
unfolding values numbers write_rows
rows_write [] f b k env h rest = sym (ahead_none (h env rest))
rows_write (i ∷ rows) f b k env h rest =
    let v : ℕ = num f k (width_of i) in
    let k' : ℕ = k + width_of i in
    ap (λ (t : Bool). cond t (ahead ((i, v) ∷ []) (write_rows rows (bind_one i v env) (numbers (values rows f k') ++ rest) h)) refused)
    (lt-ltb v (2 ^ width_of i) (num_lt f b k (width_of i)))
    ∙ ap (ahead ((i, v) ∷ [])) (rows_write rows f b k' (bind_one i v env) h rest)
    ∙ ahead_one (i, v) (values rows f k') (h (bind rows f k' (bind_one i v env)) rest)

after_writes : {r : Reading} (rows : List Item) (f : ℕ → ℕ) → Bits f → (k : ℕ) (env : Env) (h : Env → List ℕ → Writing)
    → Gives (Writes (h (bind rows f k env))) r → Gives (Writes (λ xs. write_rows rows env xs h)) (after (values rows f k) r)
unfolding ahead
after_writes rows f b k env h l =
    after_gives (values rows f k) l
    (λ j v c.
    record {
      back = λ rest.
          ap (λ (xs : List ℕ). write_rows rows env xs h) (numbers_rest (values rows f k) v rest)
          ∙ rows_write rows f b k env h (numbers v ++ rest)
          ∙ ap (ahead (values rows f k)) (c.back rest);
    })

-- ---- what was written reads back

-- where numbers were written, P holds of the place, the trace and the numbers that are left; the laws below carry that on
data Makes (P : ℕ → Trace → List ℕ → Type 0) : Writing → Type 0 where
  refuses : Makes P refused
  makes : {j : ℕ} {t : Trace} {rest : List ℕ} → P j t rest → Makes P (wrote j t rest)

made : {P : ℕ → Trace → List ℕ → Type 0} {w : Writing} {j : ℕ} {t : Trace} {rest : List ℕ} → Makes P w → w ≡ wrote j t rest → P j t rest
made {P} h e = of (subst (Makes P) e h)
  where
    of : {j : ℕ} {t : Trace} {rest : List ℕ} → Makes P (wrote j t rest) → P j t rest
    of (makes h) = h

when_makes : {P : ℕ → Trace → List ℕ → Type 0} (b : Bool) {w : Writing} → (b ≡ true → Makes P w) → Makes P (cond b w refused)
when_makes true h = h refl
when_makes false h = refuses

map_makes : {P Q : ℕ → Trace → List ℕ → Type 0} {w : Writing} → Makes P w → ((j : ℕ) (t : Trace) (rest : List ℕ) → P j t rest → Q j t rest)
    → Makes Q w
map_makes refuses h = refuses
map_makes (makes {j = j} {t = t} {rest = rest} c) h = makes (h j t rest c)

ahead_makes : {P Q : ℕ → Trace → List ℕ → Type 0} {w : Writing} (u : Trace) → Makes P w
    → ((j : ℕ) (v : Trace) (rest : List ℕ) → P j v rest → Q j (u ++ v) rest) → Makes Q (ahead u w)
unfolding ahead
ahead_makes u refuses h = refuses
ahead_makes u (makes {j = j} {t = v} {rest = rest} c) h = makes (h j v rest c)

-- the numbers xs begin with those of the trace, which goes from k to j and whose values fit
record Uses (k : ℕ) (xs : List ℕ) (j : ℕ) (t : Trace) (rest : List ℕ) : Type 0 where
  far : j ≡ k + size t
  used : xs ≡ numbers t ++ rest
  fit : Fits t

both_use : {k i j : ℕ} {u v : Trace} {xs ys rest : List ℕ} → Uses k xs i u ys → Uses i ys j v rest → Uses k xs j (u ++ v) rest
both_use {u = u} {v = v} {rest = rest} a b =
    record {
      far = omega (arith, a.far, b.far, size_append u v);
      used = a.used ∙ ap (λ (l : List ℕ). numbers u ++ l) b.used ∙ sym (numbers_rest u v rest);
      fit = fits_append u v a.fit b.fit;
    }

-- and r reads the trace from bits that make its named values, with what they have in the reserved ones
record Reads (k : ℕ) (r : (ℕ → ℕ) → Reading) (xs : List ℕ) (j : ℕ) (t : Trace) (rest : List ℕ) : Type 0 where
  uses : Uses k xs j t rest
  back : (f : ℕ → ℕ) → NamedSpans f k t → r f ≡ reached j (values (rows_of t) f k)

reads_none : (k : ℕ) (xs : List ℕ) → Reads k (λ f. reached k []) xs k [] xs
unfolding numbers rows_of values
reads_none k xs = record { uses = record { far = omega arith; used = refl; fit = tt }; back = λ f s. refl }

next_reads : {k : ℕ} {r : (ℕ → ℕ) → Reading} {g : (ℕ → ℕ) → ℕ → Reading} {xs : List ℕ} {w : Writing} {h : ℕ → List ℕ → Writing}
    → Makes (Reads k r xs) w → ((i : ℕ) (ys : List ℕ) → Makes (Reads i (λ f. g f i) ys) (h i ys))
    → Makes (Reads k (λ f. then (r f) (g f)) xs) (next w h)
unfolding next then after
next_reads refuses l = refuses
next_reads {k} {r} {g} (makes {j = i} {t = u} {rest = ys} a) l =
    ahead_makes u (l i ys)
    (λ j v rest b.
    record {
      uses = both_use a.uses b.uses;
      back = λ f s.
          let split = named_append f k u v s in
          ap (λ (x : Reading). then x (g f)) (a.back f split.0)
          ∙ ap (after (values (rows_of u) f k)) (b.back f (rw a.uses.far split.1))
          ∙ rw (reread_append, a.uses.far);
    })

filling_reads : {k : ℕ} {r : (ℕ → ℕ) → Reading} {xs : List ℕ} {w : Writing} (e : ℕ) → Makes (Reads k r xs) w
    → Makes (Reads k (λ f. exactly e (r f)) xs) (filling e w)
unfolding exactly filling
filling_reads e refuses = refuses
filling_reads {k} e (makes {j = j} {t = t} h) =
    when_makes (eqb j e)
    (λ q.
    makes
    (record {
      uses = h.uses;
      back = λ f s. ap (exactly e) (h.back f s) ∙ ap (λ (b : Bool). cond b (reached j (values (rows_of t) f k)) (broken 0)) q;
    }))

numbered_reads : {k : ℕ} {r : (ℕ → ℕ) → Reading} {xs : List ℕ} {w : Writing} (n : ℕ) → Makes (Reads k r xs) w
    → Makes (Reads k (λ f. numbered n (r f)) xs) w
unfolding numbered
numbered_reads n h = map_makes h (λ j t rest c. record { uses = c.uses; back = λ f s. ap (numbered n) (c.back f s) })

after_one : (x : Item × ℕ) (t : Trace) (r : Reading) → after (x ∷ t) r ≡ after (x ∷ []) (after t r)
unfolding after
after_one x t (broken n) = refl
after_one x t (reached j u) = refl

-- rows read what they took
rows_read : (rows : List Item) (k : ℕ) (env : Env) (g : Env → (ℕ → ℕ) → Reading) (h : Env → List ℕ → Writing)
    → ((env' : Env) (ys : List ℕ) → Makes (Reads (k + width rows) (g env') ys) (h env' ys))
    → (xs : List ℕ) → Makes (Reads k (λ f. after (values rows f k) (g (bind rows f k env) f)) xs) (write_rows rows env xs h)
unfolding values write_rows rows_of numbers after
rows_read [] k env g h l xs =
    map_makes (rw add-zero at (l env xs)) (λ j t rest c. record { uses = c.uses; back = λ f s. ap (after []) (c.back f s) })
rows_read (i ∷ rows) k env g h l [] = refuses
rows_read (i ∷ rows) k env g h l (x ∷ xs) =
    when_makes (ltb x (2 ^ width_of i))
    (λ q.
    ahead_makes ((i, x) ∷ [])
    (rows_read rows (k + width_of i) (bind_one i x env) g h (rw (add_assoc k (width_of i) (width rows)) l) xs)
    (λ j v rest c.
    record {
      uses =
          record {
            far = omega (arith, c.uses.far);
            used = ap (λ (ys : List ℕ). x ∷ ys) c.uses.used;
            fit = (ltb-true x (2 ^ width_of i) q, c.uses.fit);
          };
      back = λ f s.
          let v' : ℕ = num f k (width_of i) in
          let k' : ℕ = k + width_of i in
          ap (λ (env' : Env). after ((i, v') ∷ values rows f k') (g (bind rows f k' env') f)) (bind_named i v' x env s.0)
          ∙ after_one (i, v') (values rows f k') (g (bind rows f k' (bind_one i x env)) f)
          ∙ ap (after ((i, v') ∷ [])) (c.back f s.1);
    }))

-- ---- for every grammar

-- what is claimed of a reading and a writing from place k
record Both (k : ℕ) (r : (ℕ → ℕ) → Reading) (w : List ℕ → Writing) : Type 0 where
  writes : (f : ℕ → ℕ) → Bits f → Gives (Writes w) (r f)
  reads : (xs : List ℕ) → Makes (Reads k r xs) (w xs)

-- each part of a grammar keeps it
parts : Kept (λ end k r w. Both k r w)
parts =
    record {
      nothing = λ end k. record { writes = λ f b. gives (writes_none k); reads = λ xs. makes (reads_none k xs) };
      breach = λ end k. record { writes = λ f b. breaks; reads = λ xs. refuses };
      onward = λ a l.
          record {
            writes = λ f b. then_writes (a.writes f b) (λ i. (l i).writes f b);
            reads = λ xs. next_reads (a.reads xs) (λ i. (l i).reads);
          };
      rows = λ end k is env g h m l.
          record {
            writes = λ f b. after_writes is f b k env h ((l (bind is f k env)).writes f b);
            reads = rows_read is k env g h (λ env'. (l env').reads);
          };
      part = λ m a. record { writes = λ f b. exactly_writes _ (a.writes f b); reads = λ xs. filling_reads _ (a.reads xs) };
      label = λ n a. record { writes = λ f b. numbered_gives n (a.writes f b); reads = λ xs. numbered_reads n (a.reads xs) };
    }

both : (p : Prog) (env : Env) (end k : ℕ) → Both k (λ f. read p env f end k) (write p env end k)
both = kept (λ end k r w. Both k r w) parts

-- what was read writes back from its numbers, whatever comes after them
pub read_write : (p : Prog) (env : Env) (f : ℕ → ℕ) → Bits f → (end k j : ℕ) (t : Trace) → read p env f end k ≡ reached j t
    → (rest : List ℕ) → write p env end k (numbers t ++ rest) ≡ wrote j t rest
read_write p env f b end k j t e = (given ((both p env end k).writes f b) e).back

-- the bits of a trace, the first at place k, and 0 elsewhere
laid : ℕ → Trace → ℕ → ℕ
laid k [] = λ i. 0
laid k (x ∷ t) = patched (laid (k + width_of x.0) t) k (width_of x.0) x.1

laid_bits : (k : ℕ) (t : Trace) → Bits (laid k t)
unfolding laid
laid_bits k [] = λ i. omega arith
laid_bits k (x ∷ t) = patched_bits (laid (k + width_of x.0) t) k (width_of x.0) x.1 (laid_bits (k + width_of x.0) t)

laid_spans : (k : ℕ) (t : Trace) → Fits t → Spans (laid k t) k t
unfolding laid
laid_spans k [] m = tt
laid_spans k (x ∷ t) m =
    let w : ℕ = width_of x.0 in
    let later : ℕ → ℕ = laid (k + w) t in (
      num_here later k w x.1 m.0,
      spans_from later (patched later k w x.1) (k + w) t (λ i h. sym (patched_after later k w x.1 i h)) (laid_spans (k + w) t m.1),
    )

module _ (p : Prog) (env : Env) (end k : ℕ) (xs : List ℕ) (j : ℕ) (t : Trace) (rest : List ℕ) (e : write p env end k xs ≡ wrote j t rest) where
  facts : Reads k (λ f. read p env f end k) xs j t rest
  facts = made ((both p env end k).reads xs) e

  -- writing uses up the numbers of its trace and no other
  pub write_numbers : xs ≡ numbers t ++ rest
  write_numbers = facts.uses.used

  -- what was written reads back from the bits that it stands for
  pub write_read : (f : ℕ → ℕ) → Spans f k t → read p env f end k ≡ reached j t
  write_read f s = facts.back f (spans_named f k t s) ∙ ap (reached j) (reread f k t s)

  -- and from bits that make its named values, with what they have in the reserved ones
  pub write_named : (f : ℕ → ℕ) → NamedSpans f k t → read p env f end k ≡ reached j (values (rows_of t) f k)
  write_named = facts.back

  -- there are bits that it stands for
  pub write_bits : (f : ℕ → ℕ) × Bits f × Spans f k t
  write_bits = (laid k t, laid_bits k t, laid_spans k t facts.uses.fit)

-- ---- a trace decides its bits

-- a number decides its bits
num_decides : (f g : ℕ → ℕ) → Bits f → Bits g → (k w : ℕ) → num f k w ≡ num g k w → (i : ℕ) → k ≤ i → i < k + w → f i ≡ g i
num_decides f g b c k zero e i h l = absurd (omega arith)
num_decides f g b c k (suc w) e i h l =
    let m : num f k w * 2 + f (k + w) ≡ num g k w * 2 + g (k + w) = rw (num_suc f k w, num_suc g k w) at e in
    let last : f (k + w) ≡ g (k + w) = omega (arith, b (k + w), c (k + w)) in
    ⊎_elim
    (λ n. let here : i ≡ k + w = omega arith in ap f here ∙ last ∙ ap g (sym here))
    (λ n. num_decides f g b c k w (omega arith) i h n)
    (le_or_lt (k + w) i)

-- bits that make the same trace agree at each place that it covers
pub trace_decides : (f g : ℕ → ℕ) → Bits f → Bits g → (k : ℕ) (t : Trace) → Spans f k t → Spans g k t
    → (i : ℕ) → k ≤ i → i < k + size t → f i ≡ g i
unfolding rows_of
trace_decides f g b c k [] s u i h l = absurd (omega arith)
trace_decides f g b c k (x ∷ t) s u i h l =
    ⊎_elim
    (λ n. trace_decides f g b c (k + width_of x.0) t s.1 u.1 i n (omega arith))
    (λ n. num_decides f g b c k (width_of x.0) (s.0 ∙ sym u.0) i h n)
    (le_or_lt (k + width_of x.0) i)
