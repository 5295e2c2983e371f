-- `descriptor_lists::audio_component` meets its contract.
-- Assumes nothing.
use mathlib.Core.Path.{◌≡◌, sym, ap, ◌∙◌}
use Rattle.grammar.specs.Traces.{Trace}
use native.Mathlib.Omega.{arith}
use Rattle.std.specs.Prelude.{Some, None}
use Rattle.std.proofs.lemmas.Result.{err_from_is_err_and}
use Rattle.units.specs.declared.refusals.Refusal.{Refusal}
use Rattle.descriptor_reading.specs.Descriptor.{audio_component_of}
use Rattle.known_walk.proofs.Placed.{not_there, stands_at, low_enough}
use Rattle.descriptor_reading.proofs.Told.{audio_told, none_audio}
use Rattle.descriptor_lists.proofs.audio_component.Goals as goal

pub returns-in_err-at : goal.returns-in_err-at
returns-in_err-at c =
    let a = c.args in
    let none : c.known.result ≡ None = grind arith in
    let refused = err_from_is_err_and c.from_residual.result c.from_residual.ensures.1 in
    let told : c.in_err-at.field-0.0 ≡ Refusal.NotHere = grind arith in
    rw (refused.1, refused.2, told)
    (sym (ap (λ (t : Trace). audio_component_of t a.m) (not_there a.s.now a.cursor a.n c.known.ensures none) ∙ none_audio a.m))

pub audio_component-requires : goal.audio_component-requires
audio_component-requires c =
    let a = c.args in
    let some : c.known.result ≡ Some c.in_ok-at.at = grind arith in
    low_enough _ _ _ (stands_at a.s.now a.cursor a.n c.known.ensures c.in_ok-at.at some)

pub returns : goal.returns
returns c =
    let a = c.args in
    let some : c.known.result ≡ Some c.in_ok-at.at = grind arith in
    c.audio_component.ensures
    ∙ sym (audio_told _ _ _ a.m (stands_at a.s.now a.cursor a.n c.known.ensures c.in_ok-at.at some))
