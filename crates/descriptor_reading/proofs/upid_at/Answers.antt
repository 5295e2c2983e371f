-- `descriptor_reading::upid_at` meets its contract.
-- Assumes nothing.
use mathlib.Core.Path.{◌≡◌, sym, ap, ◌∙◌}
use Prim.Native.Nat.{ℕ}
use Rattle.known_walk.specs.Known.{standing_trace}
use native.Mathlib.Omega.{arith}
use Rattle.std.specs.Prelude.{Some, None}
use Rattle.std.proofs.lemmas.Result.{err_from_is_err_and}
use Rattle.units.specs.declared.refusals.Refusal.{Refusal}
use Rattle.descriptor_reading.specs.Descriptor.{upid_of, standing_upid}
use Rattle.known_walk.proofs.Placed.{no_rows, at_is, stands_there, low_enough}
use Rattle.descriptor_reading.proofs.Told.{upid_told, none_upid}
use Rattle.descriptor_reading.proofs.upid_at.Goals as goal

pub returns-in_err-here : goal.returns-in_err-here
unfolding standing_upid
returns-in_err-here c =
    let a = c.args in
    let none : c.standing.result ≡ None = grind arith in
    let refused = err_from_is_err_and c.from_residual.result c.from_residual.ensures.1 in
    let told : c.in_err-here.field-0.0 ≡ Refusal.NotHere = grind arith in
    rw (refused.1, refused.2, told)
    let rows = standing_trace a.s.now a.cursor in
    (sym
    (ap (upid_of a.cursor.at) (no_rows a.s.now a.cursor.at rows c.standing.ensures none)
    ∙ none_upid a.cursor.at))

pub upid-requires : goal.upid-requires
upid-requires c =
    let a = c.args in
    let some : c.standing.result ≡ Some c.in_ok-here.here = grind arith in
    let rows = standing_trace a.s.now a.cursor in
    low_enough _ _ _ (stands_there a.s.now a.cursor.at rows c.standing.ensures c.in_ok-here.here some)

pub returns : goal.returns
unfolding standing_upid
returns c =
    let a = c.args in
    let some : c.standing.result ≡ Some c.in_ok-here.here = grind arith in
    let rows = standing_trace a.s.now a.cursor in
    let placed = c.standing.ensures in
    c.upid.ensures
    ∙ sym (upid_told _ _ _ (stands_there a.s.now a.cursor.at rows placed c.in_ok-here.here some))
    ∙ ap (λ (x : ℕ). upid_of x rows) (at_is a.s.now a.cursor.at rows placed c.in_ok-here.here some)
