-- What the end of a run says: of rows, that they are there; and of a part at the end of a table, that it is and is used up.
-- Assumes nothing.
use mathlib.Core.Path.{◌≡◌, refl, sym, ◌∙◌}
use mathlib.Core.Bool.{Bool, true, false, cond}
use mathlib.Core.List.{List}
use mathlib.Core.Logic.{⊎_elim}
use Prim.Native.Nat.{ℕ, ◌+◌, ◌*◌, ◌≤◌, ◌<◌}
use Prim.Native.String.{String}
use native.Mathlib.Omega.{arith}
use lib.Dec.{eqb}
use borrow.Author.Tests.{eqb-true}
use Rattle.bits.proofs.Cases.{le_or_lt}
use Rattle.grammar.specs.Syntax.{Item, Prog, done, fields, frame}
use Rattle.grammar.specs.Meaning.{Env, value_of, width, bind, Outcome, breach, ends, end_of, read, run}
use Rattle.grammar.proofs.Run.{Runs, on, pass, short, exact, framed, frame_short}

never : {m j : ℕ} {A : Type 0} → breach m ≡ ends j → A
never {m} {j} e = let z : ◌≡◌ {A = ℕ} 0 1 = cc in absurd (omega arith)

pub fields_end : (rows : List Item) (p : Prog) (env : Env) (f : ℕ → ℕ) (end k j : ℕ) → run (fields rows p) env f end k ≡ ends j
    → run p (bind rows f k env) f end (k + width rows) ≡ ends j
fields_end rows p env f end k j e = ⊎_elim there missing (le_or_lt (k + width rows) end)
  where
    rest : Runs p (bind rows f k env) f end (k + width rows) (run p (bind rows f k env) f end (k + width rows))
    rest = record { runs = refl }

    there : k + width rows ≤ end → run p (bind rows f k env) f end (k + width rows) ≡ ends j
    there h = sym (pass {rows = rows} h rest).runs ∙ e

    missing : end < k + width rows → run p (bind rows f k env) f end (k + width rows) ≡ ends j
    missing h = never (sym (short {rows = rows} {p = p} h).runs ∙ e)

exact_end : (env : Env) (f : ℕ → ℕ) (end e j : ℕ) (x : Outcome) → on (exact e x) (run done env f end) ≡ ends j → j ≡ e
unfolding run read end_of
exact_end env f end e j (breach m) q = never q
exact_end env f end e j (ends i) q = go (eqb i e) refl q
  where
    go : (t : Bool) → eqb i e ≡ t → on (cond t (ends i) (breach 0)) (run done env f end) ≡ ends j → j ≡ e
    go true same l = let z : i ≡ j = cc in sym z ∙ eqb-true i e same
    go false other l = never l

pub frame_end : (n : String) (a : Prog) (env : Env) (f : ℕ → ℕ) (end k j : ℕ) → run (frame n a done) env f end k ≡ ends j
    → (j ≡ k + 8 * value_of env n) × (j ≤ end)
frame_end n a env f end k j q = ⊎_elim there missing (le_or_lt (k + 8 * value_of env n) end)
  where
    body : Runs a env f (k + 8 * value_of env n) k (run a env f (k + 8 * value_of env n) k)
    body = record { runs = refl }

    there : k + 8 * value_of env n ≤ end → (j ≡ k + 8 * value_of env n) × (j ≤ end)
    there h =
        let used = exact_end env f end (k + 8 * value_of env n) j (run a env f (k + 8 * value_of env n) k) (sym (framed refl h body refl).runs ∙ q) in
        (used, omega arith)

    missing : end < k + 8 * value_of env n → (j ≡ k + 8 * value_of env n) × (j ≤ end)
    missing h = never (sym (frame_short {n = n} {a = a} h).runs ∙ q)
