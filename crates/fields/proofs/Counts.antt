-- A loop that does the same so many times: what is left, from where it stands, is all of it.
-- Assumes nothing.
use mathlib.Core.Path.{◌≡◌, ap, ◌∙◌}
use Prim.Native.Nat.{ℕ, ◌+◌, ◌-◌, ◌≤◌, ◌<◌}
use native.Mathlib.Omega.{arith}
use Rattle.fields.specs.Fields.{Plan, times_on}
use Rattle.fields.proofs.Lays.{times_over, times_next}

-- g has been done k times of n, from π on, and has come to σ
pub record Going (n : ℕ) (g : Plan → Plan) (π : Plan) (k : ℕ) (σ : Plan) : Type 0 where
  pub rest : times_on n g π ≡ times_on (n - k) g σ

pub going_first : {n : ℕ} {g : Plan → Plan} {π : Plan} → Going n g π 0 π
going_first {n} {g} {π} = let all : n ≡ n - 0 = omega arith in record { rest = ap (λ (m : ℕ). times_on m g π) all }

pub going_on : {n k : ℕ} {g : Plan → Plan} {π σ τ : Plan} → k < n → Going n g π k σ → τ ≡ g σ → Going n g π (k + 1) τ
going_on {n} {k} {g} {σ = σ} h e q = record { rest = e.rest ∙ times_next (n - k) (n - (k + 1)) g σ (omega arith) q }

pub going_over : {n k : ℕ} {g : Plan → Plan} {π σ : Plan} → n ≤ k → Going n g π k σ → times_on n g π ≡ σ
going_over {n} {k} {g} {σ = σ} h e = e.rest ∙ times_over (n - k) g σ (omega arith)
