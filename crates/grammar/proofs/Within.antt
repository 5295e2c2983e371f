-- A run ends within its frame.
-- Assumes nothing.
use mathlib.Core.Path.{◌≡◌, refl, ap, subst}
use Prim.Native.Nat.{ℕ, ◌*◌, ◌≤◌}
use native.Mathlib.Omega.{arith}
use Rattle.grammar.specs.Syntax.{Prog}
use Rattle.grammar.specs.Meaning.{Env, Reading, broken, reached, read, Outcome, breach, ends, end_of, run}
use Rattle.grammar.proofs.Ends.{ends_within}

-- the place of an outcome, where it has one
abbrev pub place : Outcome → ℕ
place (breach n) = 0
place (ends j) = j

pub run_within : (p : Prog) (env : Env) (f : ℕ → ℕ) (end k j : ℕ) → run p env f end k ≡ ends j → k ≤ end → (k ≤ j) × (j ≤ end)
unfolding run end_of
run_within p env f end k j e h = of (read p env f end k) refl e
  where
    of : (r : Reading) → read p env f end k ≡ r → end_of r ≡ ends j → (k ≤ j) × (j ≤ end)
    of (broken n) q d = let z : ◌≡◌ {A = ℕ} 0 1 = cc in absurd (omega arith)
    of (reached i t) q d = subst (λ (x : ℕ). (k ≤ x) × (x ≤ end)) (ap place d) (ends_within p env f end k i t q h)

-- the same in bytes
pub byte_within : (p : Prog) (env : Env) (f : ℕ → ℕ) (end at n : ℕ) → run p env f (8 * end) (8 * at) ≡ ends (8 * n) → at ≤ end → (at ≤ n) × (n ≤ end)
byte_within p env f end at n e h =
    let bounds : (8 * at ≤ 8 * n) × (8 * n ≤ 8 * end) = run_within p env f (8 * end) (8 * at) (8 * n) e (omega arith) in
    omega arith
