-- What writing by a grammar gives, the mirror of reading: the rows take their values from a list of numbers in place of bits.
-- Places and ends are counted in bits.
-- Assumes nothing.
use Rattle.std.specs.Prelude.{ℕ, zero, suc, ◌+◌, ◌-◌, ◌*◌, ◌^◌, cond, List, [], ◌∷◌, ◌++◌, leb, ltb, eqb}
use Rattle.grammar.specs.Syntax.{Item, Prog, done, stop, fields, branch, call, repeat, frame, fill, under}
use Rattle.grammar.specs.Meaning.{Env, value_of, width_of, width, bind_one, holds}
use Rattle.grammar.specs.Traces.{Trace}

-- what writing by a table comes to
pub data Writing : Type 0 where
  -- the numbers are not those of a reading
  refused : Writing
  -- the place after what was written, that, and the numbers that are left
  wrote : ℕ → Trace → List ℕ → Writing

-- what was written before, put in front
unfoldable pub ahead : Trace → Writing → Writing
ahead t refused = refused
ahead t (wrote k u xs) = wrote k (t ++ u) xs

-- on from where the first ended, with the numbers that it left
unfoldable pub next : Writing → (ℕ → List ℕ → Writing) → Writing
next refused g = refused
next (wrote k t xs) g = ahead t (g k xs)

-- each row takes a number, which its bits must hold, then on with the values by name and the numbers that are left
unfoldable pub write_rows : List Item → Env → List ℕ → (Env → List ℕ → Writing) → Writing
write_rows [] env xs g = g env xs
write_rows (i ∷ rows) env [] g = refused
write_rows (i ∷ rows) env (x ∷ xs) g =
    cond (ltb x (2 ^ width_of i)) (ahead ((i, x) ∷ []) (write_rows rows (bind_one i x env) xs g)) refused

-- so many times
unfoldable pub times : ℕ → (ℕ → List ℕ → Writing) → ℕ → List ℕ → Writing
times zero g k xs = wrote k [] xs
times (suc n) g k xs = next (g k xs) (times n g)

-- as often as it takes to reach the end, each time on by at least a bit
unfoldable pub to_end : ℕ → (ℕ → List ℕ → Writing) → ℕ → ℕ → List ℕ → Writing
to_end zero g end k xs = cond (leb end k) (wrote k [] xs) refused
to_end (suc n) g end k xs =
    cond (leb end k) (wrote k [] xs) (next (g k xs) (λ j ys. cond (ltb k j) (to_end n g end j ys) refused))

-- the whole part was used up
unfoldable pub filling : ℕ → Writing → Writing
filling end refused = refused
filling end (wrote k t xs) = cond (eqb k end) (wrote k t xs) refused

-- writing by a grammar: the numbers xs, up to `end`, from place k on
unfoldable pub write : Prog → Env → ℕ → ℕ → List ℕ → Writing
write done env end k xs = wrote k [] xs
write stop env end k xs = refused
write (fields rows p) env end k xs =
    cond (leb (k + width rows) end) (write_rows rows env xs (λ env' ys. write p env' end (k + width rows) ys)) refused
write (branch t a b p) env end k xs =
    next (cond (holds t env end k) (write a env end k xs) (write b env end k xs)) (λ j ys. write p env end j ys)
write (call a p) env end k xs = next (write a env end k xs) (λ j ys. write p env end j ys)
write (repeat n a p) env end k xs = next (times (value_of env n) (λ j ys. write a env end j ys) k xs) (λ j ys. write p env end j ys)
write (frame n a p) env end k xs =
    let e = k + 8 * value_of env n in
    cond (leb e end) (next (filling e (write a env e k xs)) (λ j ys. write p env end j ys)) refused
write (fill a p) env end k xs = next (to_end (end - k) (λ j ys. write a env end j ys) end k xs) (λ j ys. write p env end j ys)
write (under n a p) env end k xs = next (write a env end k xs) (λ j ys. write p env end j ys)
