-- `command_events::event_component` meets its contract.
-- Assumes nothing.
use mathlib.Core.Path.{◌≡◌, sym, ap, subst, ◌∙◌}
use mathlib.Core.Bool.{Bool, cond}
use mathlib.Core.List.{List, []}
use Prim.Native.Nat.{ℕ}
use native.Mathlib.Omega.{arith}
use Rattle.std.specs.Prelude.{Some, None, Err}
use Rattle.std.proofs.lemmas.Result.{err_from_is_err_and}
use borrow.Author.Tests.{le-ltb}
use Rattle.grammar.specs.Names.{look, part}
use Rattle.units.specs.declared.refusals.Refusal.{Refusal}
use Rattle.command_reading.specs.Command.{command_trace}
use Rattle.command_events.specs.Events.{event_component_in, event_component_of}
use Rattle.command_events.specs.Places.{event_component_at, EventIs}
use Rattle.command_events.proofs.event_component.Goals as goal

module _ (s : List ℕ) (n m : ℕ) where
  none : EventIs s n None → Err Refusal.NotHere ≡ event_component_of (command_trace s) n m
  unfolding event_component_of event_component_in look
  none h =
      sym
      (ap (λ (there : Bool). event_component_in (cond there (part "splice_event_id" n (command_trace s)) []) m) h
      ∙ rw (le-ltb m 0 (omega arith)))

  one : (at end : ℕ) → EventIs s n (Some (at, end)) → event_component_at s at m ≡ event_component_of (command_trace s) n m
  unfolding event_component_of
  one at end h = sym (h.5 m)

pub returns-in_err-at : goal.returns-in_err-at
returns-in_err-at c =
    let a = c.args in
    let lost : c.event_span.result ≡ None = grind arith in
    let why : c.in_err-at.field-0.0 ≡ Refusal.NotHere = grind arith in
    let given = err_from_is_err_and c.from_residual.result c.from_residual.ensures.1 in
    rw (given.1, given.2, why) (none a.s.now a.n a.m (subst (EventIs a.s.now a.n) lost c.event_span.ensures))

pub returns : goal.returns
returns c =
    let a = c.args in
    let found : c.event_span.result ≡ Some (c.in_ok-at.at, c.in_ok-at.field-0-1) = grind arith in
    c.event_component.ensures ∙ one a.s.now a.n a.m _ _ (subst (EventIs a.s.now a.n) found c.event_span.ensures)
