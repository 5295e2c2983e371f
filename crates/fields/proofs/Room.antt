-- Plans with room: a place that has room, and what is laid out from it, has room again.
-- Assumes nothing.
use mathlib.Core.Path.{◌≡◌, refl, sym, ap, ◌∙◌}
use mathlib.Core.Bool.{Bool, true, false, cond, ◌&&◌}
use mathlib.Core.List.{List, [], ◌∷◌}
use mathlib.Core.Logic.{⊎_elim}
use Prim.Native.Nat.{ℕ, zero, suc, ◌+◌, ◌-◌, ◌*◌, ◌≤◌}
use native.Mathlib.Omega.{arith}
use lib.ListN.{length}
use lib.Seq.{length-sets}
use lib.Dec.{leb, ltb}
use borrow.Author.Tests.{leb-true, le-leb}
use Rattle.bits.proofs.Cases.{and_left, and_right, by_cases}
use Rattle.grammar.specs.Syntax.{Item, Prog, done, stop, fields, branch, call, repeat, frame, fill, under}
use Rattle.grammar.specs.Meaning.{Env, value_of, width_of, holds}
use Rattle.fields.specs.Fields.{Source, Plan, total, advance, laid, widths_of, names, times_on, sweep_on, walk, bytes_to, roomy, kept, Has, Lays}

-- the test and the facts
pub has_room : (π : Plan) → roomy π ≡ true → Has π
unfolding roomy
has_room π e =
    let short = and_left (leb (length π.widths) 32768) _ e in
    let more = and_right (leb (length π.widths) 32768) _ e in (
      leb-true _ _ (and_left (leb π.number (length π.widths)) _ more),
      leb-true _ _ (and_right (leb π.number (length π.widths)) _ more),
      leb-true _ _ short,
    )

pub is_roomy : (π : Plan) → Has π → roomy π ≡ true
unfolding roomy
is_roomy π h =
    rw (le-leb (length π.widths) 32768 h.2, le-leb π.number (length π.widths) h.0, le-leb π.at (104 + 255 * π.number) h.1)

-- what is made of a plan, where it has room and where not
pub kept_in : (g : Plan → Plan) (π : Plan) → roomy π ≡ true → kept g π ≡ g π
unfolding kept
kept_in g π e = ap (λ (b : Bool). cond b (g π) π) e

pub kept_out : (g : Plan → Plan) (π : Plan) → roomy π ≡ false → kept g π ≡ π
unfolding kept
kept_out g π e = ap (λ (b : Bool). cond b (g π) π) e

pub kept_none : (g : Plan → Plan) (π : Plan) → g π ≡ π → kept g π ≡ π
kept_none g π e = ⊎_elim (λ q. kept_in g π q ∙ e) (λ q. kept_out g π q) (by_cases (roomy π))

pub kept_same : (g h : Plan → Plan) (π : Plan) → g π ≡ h π → kept g π ≡ kept h π
unfolding kept
kept_same g h π e = ap (λ (ρ : Plan). cond (roomy π) ρ π) e

-- ---- what keeps room

abbrev Keeps : (Plan → Plan) → Type 0
Keeps g = (π : Plan) → roomy π ≡ true → roomy (g π) ≡ true

choose : (b : Bool) (π ρ : Plan) → (b ≡ true → roomy π ≡ true) → roomy ρ ≡ true → roomy (cond b π ρ) ≡ true
choose true π ρ h k = h refl
choose false π ρ h k = k

-- fields of at most 255 bits
laid_keeps : (ws : List ℕ) → leb (total ws) (255 * length ws) ≡ true → Keeps (laid ws)
unfolding laid advance roomy
laid_keeps ws small π e =
    let short = and_left (leb (length π.widths) 32768) _ e in
    let more = and_right (leb (length π.widths) 32768) _ e in
    let place : π.at ≤ 104 + 255 * π.number = leb-true _ _ (and_right (leb π.number (length π.widths)) _ more) in
    let bits : total ws ≤ 255 * length ws = leb-true _ _ small in
    choose (leb (π.number + length ws) (length π.widths)) (advance ws π) π
    (λ q.
    let fits : π.number + length ws ≤ length π.widths = leb-true _ _ q in
    let far : π.at + total ws ≤ 104 + 255 * (π.number + length ws) = omega arith in
    rw (length-sets π.widths π.number ws, short, le-leb _ _ fits, le-leb _ _ far))
    e

times_keep : (n : ℕ) (g : Plan → Plan) → Keeps g → Keeps (times_on n g)
unfolding times_on
times_keep zero g h π e = e
times_keep (suc n) g h π e = times_keep n g h (g π) (h π e)

sweep_keeps : (n : ℕ) (g : Plan → Plan) (end : ℕ) → Keeps g → Keeps (sweep_on n g end)
unfolding sweep_on
sweep_keeps zero g end h π e = e
sweep_keeps (suc n) g end h π e =
    choose (leb end π.at) π _ (λ q. e)
    (choose (ltb π.at (g π).at) (sweep_on n g end (g π)) (g π) (λ q. sweep_keeps n g end h (g π) (h π e)) (h π e))

bytes_to_keeps : (end : ℕ) → Keeps (bytes_to end)
unfolding bytes_to
bytes_to_keeps end π e = sweep_keeps (end - π.at) (laid (8 ∷ [])) end (laid_keeps (8 ∷ []) refl) π e

-- ---- tables

abbrev pub narrow : List Item → Bool
narrow [] = true
narrow (i ∷ rows) = leb 1 (width_of i) && (leb (width_of i) 48 && narrow rows)

-- each of its fields has 1 to 48 bits
unfoldable pub slim : Prog → Bool
slim done = true
slim stop = true
slim (fields rows p) = narrow rows && slim p
slim (branch t a b p) = slim a && (slim b && slim p)
slim (call a p) = slim a && slim p
slim (repeat n a p) = slim a && slim p
slim (frame n a p) = slim a && slim p
slim (fill a p) = slim a && slim p
slim (under n a p) = slim a && slim p

narrow_total : (rows : List Item) → narrow rows ≡ true → total (widths_of rows) ≤ 255 * length (widths_of rows)
narrow_total [] h = omega arith
narrow_total (i ∷ rows) h =
    let more = and_right (leb 1 (width_of i)) _ h in
    let wide : width_of i ≤ 48 = leb-true (width_of i) 48 (and_left (leb (width_of i) 48) _ more) in
    omega (arith, narrow_total rows (and_right (leb (width_of i) 48) _ more))

-- so what it lays out keeps room
walk_keeps : (p : Prog) → slim p ≡ true → (env : Env) (v : Source) (end : ℕ) → Keeps (walk p env v end)
unfolding slim walk
walk_keeps done h env v end π e = e
walk_keeps stop h env v end π e = e
walk_keeps (fields rows p) h env v end π e =
    walk_keeps p (and_right (narrow rows) _ h) (names rows v π.at π.number env) v end (laid (widths_of rows) π)
    (laid_keeps (widths_of rows) (le-leb _ _ (narrow_total rows (and_left (narrow rows) (slim p) h))) π e)
walk_keeps (branch t a b p) h env v end π e =
    let rest = and_right (slim a) _ h in
    walk_keeps p (and_right (slim b) _ rest) env v end _
    (choose (holds t env end π.at) (walk a env v end π) (walk b env v end π)
    (λ q. walk_keeps a (and_left (slim a) _ h) env v end π e) (walk_keeps b (and_left (slim b) _ rest) env v end π e))
walk_keeps (call a p) h env v end π e =
    walk_keeps p (and_right (slim a) _ h) env v end _ (walk_keeps a (and_left (slim a) _ h) env v end π e)
walk_keeps (repeat n a p) h env v end π e =
    walk_keeps p (and_right (slim a) _ h) env v end _
    (times_keep (value_of env n) (walk a env v end) (walk_keeps a (and_left (slim a) _ h) env v end) π e)
walk_keeps (frame n a p) h env v end π e =
    walk_keeps p (and_right (slim a) _ h) env v end _ (walk_keeps a (and_left (slim a) _ h) env v (π.at + 8 * value_of env n) π e)
walk_keeps (fill a p) h env v end π e =
    walk_keeps p (and_right (slim a) _ h) env v end _
    (sweep_keeps (end - π.at) (walk a env v end) end (walk_keeps a (and_left (slim a) _ h) env v end) π e)
walk_keeps (under n a p) h env v end π e =
    walk_keeps p (and_right (slim a) _ h) env v end _ (walk_keeps a (and_left (slim a) _ h) env v end π e)

-- ---- from a place with room

-- what a step makes of it, and room again
stays : (g : Plan → Plan) → Keeps g → (π : Plan) {ρ : Plan} → Has π → ρ ≡ kept g π → (ρ ≡ g π) × Has ρ
stays g h π {ρ} room e =
    let q : roomy π ≡ true = is_roomy π room in
    let same : ρ ≡ g π = e ∙ kept_in g π q in
    (same, has_room ρ (ap roomy same ∙ h π q))

pub group_in : (ws : List ℕ) (π : Plan) {ρ : Plan} → leb (total ws) (255 * length ws) ≡ true → Has π → ρ ≡ kept (laid ws) π → (ρ ≡ laid ws π) × Has ρ
group_in ws π small room e = stays (laid ws) (laid_keeps ws small) π room e

pub groups_in : (n : ℕ) (ws : List ℕ) (π : Plan) {ρ : Plan} → leb (total ws) (255 * length ws) ≡ true → Has π → ρ ≡ kept (times_on n (laid ws)) π
    → (ρ ≡ times_on n (laid ws) π) × Has ρ
groups_in n ws π small room e = stays (times_on n (laid ws)) (times_keep n (laid ws) (laid_keeps ws small)) π room e

pub bytes_in : (end : ℕ) (π : Plan) {ρ : Plan} → Has π → ρ ≡ kept (bytes_to end) π → (ρ ≡ bytes_to end π) × Has ρ
bytes_in end π room e = stays (bytes_to end) (bytes_to_keeps end) π room e

pub table_in : (p : Prog) → slim p ≡ true → (env : Env) (v : Source) (end : ℕ) (π : Plan) {ρ : Plan} → Has π → ρ ≡ kept (walk p env v end) π
    → Lays p env v end π ρ × Has ρ
table_in p h env v end π room e =
    let done = stays (walk p env v end) (walk_keeps p h env v end) π room e in
    (record { lays = sym done.0 }, done.1)
