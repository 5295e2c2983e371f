-- `descriptor_reading::upid` meets its contract.
-- Assumes nothing.
use mathlib.Core.Path.{◌≡◌, sym, ap, ◌∙◌}
use Prim.Native.Nat.{ℕ}
use Rattle.known_walk.specs.Known.{known_cursors, numbered, known_trace}
use native.Mathlib.Omega.{arith}
use Rattle.std.specs.Prelude.{Some, None}
use Rattle.std.proofs.lemmas.Result.{err_from_is_err_and}
use Rattle.units.specs.declared.refusals.Refusal.{Refusal}
use Rattle.descriptor_reading.specs.Descriptor.{upid_of, upid}
use Rattle.known_walk.proofs.Placed.{not_there, is_at, stands_at, low_enough}
use Rattle.descriptor_reading.proofs.Told.{upid_told, none_upid}
use Rattle.descriptor_reading.proofs.upid.Goals as goal

pub returns-in_err-at : goal.returns-in_err-at
unfolding upid
returns-in_err-at c =
    let a = c.args in
    let none : c.known.result ≡ None = grind arith in
    let refused = err_from_is_err_and c.from_residual.result c.from_residual.ensures.1 in
    let told : c.in_err-at.field-0.0 ≡ Refusal.NotHere = grind arith in
    rw (refused.1, refused.2, told)
    (sym
    (ap (upid_of (numbered (known_cursors a.s.now a.cursor) a.n).at)
    (not_there a.s.now a.cursor a.n c.known.ensures none)
    ∙ none_upid (numbered (known_cursors a.s.now a.cursor) a.n).at))

pub upid-requires : goal.upid-requires
upid-requires c =
    let a = c.args in
    let some : c.known.result ≡ Some c.in_ok-at.at = grind arith in
    low_enough _ _ _ (stands_at a.s.now a.cursor a.n c.known.ensures c.in_ok-at.at some)

pub returns : goal.returns
unfolding upid
returns c =
    let a = c.args in
    let some : c.known.result ≡ Some c.in_ok-at.at = grind arith in
    let known = c.known.ensures in
    c.upid.ensures
    ∙ sym (upid_told _ _ _ (stands_at a.s.now a.cursor a.n known c.in_ok-at.at some))
    ∙ ap (λ (x : ℕ). upid_of x (known_trace a.s.now a.cursor a.n)) (is_at a.s.now a.cursor a.n known c.in_ok-at.at some)
