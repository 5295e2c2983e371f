-- What a table lays out up to the end of a part: over at the end; before it one time, and on from there where that went on.
-- Assumes nothing.
use mathlib.Core.Path.{◌≡◌, refl, sym, ap, ◌∙◌}
use mathlib.Core.Bool.{Bool, cond}
use Prim.Native.Nat.{ℕ, zero, suc, ◌-◌, ◌≤◌, ◌<◌}
use native.Mathlib.Omega.{arith}
use lib.Dec.{leb, ltb}
use borrow.Author.Tests.{ltb-true, le-leb, lt-leb, lt-ltb, le-ltb}
use Rattle.bits.proofs.Cases.{cond_same}
use Rattle.fields.specs.Fields.{Plan, sweep_on}

pub sweep_over : (n : ℕ) (g : Plan → Plan) (end : ℕ) (π : Plan) → end ≤ π.at → sweep_on n g end π ≡ π
unfolding sweep_on
sweep_over zero g end π h = refl
sweep_over (suc n) g end π h = rw (le-leb end π.at h)

-- with as many steps as bits are left, or more, it does not matter how many
sweep_steps : (n m : ℕ) (g : Plan → Plan) (end : ℕ) (π : Plan) → end - π.at ≤ n → end - π.at ≤ m → sweep_on n g end π ≡ sweep_on m g end π
unfolding sweep_on
sweep_steps zero m g end π h l = sym (sweep_over m g end π (omega arith))
sweep_steps (suc n) zero g end π h l = sweep_over (suc n) g end π (omega arith)
sweep_steps (suc n) (suc m) g end π h l =
    cond_same (leb end π.at) (λ q. refl)
    (λ q.
    cond_same (ltb π.at (g π).at)
    (λ c.
    let on : π.at < (g π).at = ltb-true π.at (g π).at c in
    sweep_steps n m g end (g π) (omega arith) (omega arith)) (λ c. refl))

-- one time, before the end
once : (n : ℕ) (g : Plan → Plan) (end : ℕ) (π : Plan) {ρ : Plan} → π.at < end → g π ≡ ρ
    → sweep_on (suc n) g end π ≡ cond (ltb π.at ρ.at) (sweep_on n g end ρ) ρ
unfolding sweep_on
once n g end π h e =
    ap (λ (b : Bool). cond b π (cond (ltb π.at (g π).at) (sweep_on n g end (g π)) (g π))) (lt-leb end π.at h)
    ∙ ap (λ (σ : Plan). cond (ltb π.at σ.at) (sweep_on n g end σ) σ) e

-- it went on; it did not
pub sweep_on_lem : (n : ℕ) (g : Plan → Plan) (end : ℕ) (π : Plan) {ρ : Plan} → end - π.at ≤ n → π.at < end → g π ≡ ρ → π.at < ρ.at
    → sweep_on n g end π ≡ sweep_on (end - ρ.at) g end ρ
sweep_on_lem zero g end π s h e l = absurd (omega arith)
sweep_on_lem (suc n) g end π {ρ} s h e l =
    once n g end π h e ∙ ap (λ (b : Bool). cond b (sweep_on n g end ρ) ρ) (lt-ltb π.at ρ.at l)
    ∙ sweep_steps n (end - ρ.at) g end ρ (omega arith) (omega arith)

pub sweep_last : (n : ℕ) (g : Plan → Plan) (end : ℕ) (π : Plan) {ρ : Plan} → end - π.at ≤ n → π.at < end → g π ≡ ρ → ρ.at ≤ π.at
    → sweep_on n g end π ≡ ρ
sweep_last zero g end π s h e l = absurd (omega arith)
sweep_last (suc n) g end π {ρ} s h e l =
    once n g end π h e ∙ ap (λ (b : Bool). cond b (sweep_on n g end ρ) ρ) (le-ltb π.at ρ.at l)
