-- Bytes up to the end of a part: as many times a byte as it takes, or as the memory has room for.
-- Assumes nothing.
use mathlib.Core.Path.{◌≡◌, refl, sym, ap, ◌∙◌}
use mathlib.Core.Bool.{Bool, true, false, cond}
use mathlib.Core.List.{[], ◌∷◌}
use mathlib.Core.Logic.{⊎_elim}
use Prim.Native.String.{String}
use Prim.Native.Nat.{ℕ, zero, suc, ◌+◌, ◌-◌, ◌*◌, ◌≤◌, ◌<◌}
use native.Mathlib.Omega.{arith}
use lib.Dec.{leb}
use lib.ListN.{length}
use Rattle.bits.proofs.Cases.{by_cases}
use Rattle.grammar.specs.Meaning.{Env}
use Rattle.grammar.specs.Tables.{bytes}
use Rattle.fields.specs.Fields.{Source, Plan, advance, laid, times_on, sweep_on, walk, bytes_to, Lays}
use Rattle.fields.proofs.Lays.{finished, filled}
use Rattle.fields.proofs.Descents.{sweep_over, sweep_on_lem, sweep_last}

-- what changes nothing once changes nothing so many times
times_stuck : (m : ℕ) (g : Plan → Plan) (π : Plan) → g π ≡ π → times_on m g π ≡ π
unfolding times_on
times_stuck zero g π e = refl
times_stuck (suc m) g π e = ap (times_on m g) e ∙ times_stuck m g π e

-- one byte more
byte : Plan → Plan
byte = laid (8 ∷ [])

byte_room : (π : Plan) → leb (π.number + 1) (length π.widths) ≡ true → (byte π).at ≡ π.at + 8
unfolding byte laid advance
byte_room π e = ap (λ (b : Bool). (cond b (advance (8 ∷ []) π) π).at) e

byte_full : (π : Plan) → leb (π.number + 1) (length π.widths) ≡ false → byte π ≡ π
unfolding byte laid
byte_full π e = ap (λ (b : Bool). cond b (advance (8 ∷ []) π) π) e

-- the fewest bytes that reach the end
swept : (m n end : ℕ) (π : Plan) → end ≤ π.at + 8 * m → π.at + 8 * m < end + 8 → end - π.at ≤ n → sweep_on n byte end π ≡ times_on m byte π
unfolding times_on
swept zero n end π all few left = sweep_over n byte end π (omega arith)
swept (suc m) zero end π all few left = absurd (omega arith)
swept (suc m) (suc n) end π all few left =
    let before : π.at < end = omega arith in
    ⊎_elim
    (λ e.
    let up : (byte π).at ≡ π.at + 8 = byte_room π e in
    sweep_on_lem (suc n) byte end π left before refl (omega arith) ∙ swept m (end - (byte π).at) end (byte π) (omega arith) (omega arith) (omega arith))
    (λ e.
    let same : byte π ≡ π = byte_full π e in
    let up : (byte π).at ≡ π.at = ap (λ (ρ : Plan). ρ.at) same in
    sweep_last (suc n) byte end π left before refl (omega arith) ∙ same ∙ sym (times_stuck (suc m) byte π same))
    (by_cases (leb (π.number + 1) (length π.widths)))

-- no bytes where the place is at the end already
pub no_bytes : (end : ℕ) (π : Plan) → end ≤ π.at → bytes_to end π ≡ π
unfolding bytes_to
no_bytes end π h = sweep_over (end - π.at) (laid (8 ∷ [])) end π h

-- or else the fewest that reach it
pub some_bytes : (m end : ℕ) (π : Plan) → end ≤ π.at + 8 * m → π.at + 8 * m < end + 8 → times_on m (laid (8 ∷ [])) π ≡ bytes_to end π
unfolding bytes_to byte
some_bytes m end π all few = sym (swept m (end - π.at) end π all few (omega arith))

-- bytes under any name lay it out
pub lays_bytes : (name : String) {env : Env} {v : Source} {end : ℕ} {π ρ : Plan} → ρ ≡ bytes_to end π → Lays (bytes name) env v end π ρ
unfolding bytes_to walk
lays_bytes name e = filled (sym e) (finished refl)
