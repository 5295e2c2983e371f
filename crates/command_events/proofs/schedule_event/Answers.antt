-- `command_events::schedule_event` meets its contract.
-- Assumes nothing.
use mathlib.Core.Path.{◌≡◌, sym, ap, subst, ◌∙◌}
use mathlib.Core.Bool.{Bool, cond}
use mathlib.Core.List.{List}
use Prim.Native.Nat.{ℕ}
use native.Mathlib.Omega.{arith}
use Rattle.std.specs.Prelude.{Some, None, Result, Ok, Err}
use Rattle.std.proofs.lemmas.Result.{err_from_is_err_and}
use Rattle.units.specs.declared.refusals.Refusal.{Refusal}
use Rattle.command_reading.specs.declared.answers.Event.{Event}
use Rattle.command_reading.specs.Command.{command_trace}
use Rattle.command_events.specs.Events.{event_rows, scheduled_of, event_of}
use Rattle.command_events.specs.Places.{event_at, EventIs}
use Rattle.command_events.proofs.schedule_event.Goals as goal

module _ (s : List ℕ) (n : ℕ) where
  -- the event, where there is one
  abbrev answer : Bool → Result Event Refusal
  answer there = cond there (Ok (scheduled_of (event_rows (command_trace s) n))) (Err Refusal.NotHere)

  none : EventIs s n None → Err Refusal.NotHere ≡ event_of (command_trace s) n
  unfolding event_of
  none h = sym (ap answer h)

  one : (at end : ℕ) → EventIs s n (Some (at, end)) → Ok (event_at s at end) ≡ event_of (command_trace s) n
  unfolding event_of
  one at end h = sym (ap answer h.0 ∙ ap Ok h.4)

pub returns-in_err-at : goal.returns-in_err-at
returns-in_err-at c =
    let a = c.args in
    let lost : c.event_span.result ≡ None = grind arith in
    let why : c.in_err-at.field-0.0 ≡ Refusal.NotHere = grind arith in
    let given = err_from_is_err_and c.from_residual.result c.from_residual.ensures.1 in
    rw (given.1, given.2, why) (none a.s.now a.n (subst (EventIs a.s.now a.n) lost c.event_span.ensures))

pub returns : goal.returns
returns c =
    let a = c.args in
    let found : c.event_span.result ≡ Some (c.in_ok-at.at, c.in_ok-at.end) = grind arith in
    ap Ok c.event.ensures ∙ one a.s.now a.n _ _ (subst (EventIs a.s.now a.n) found c.event_span.ensures)
