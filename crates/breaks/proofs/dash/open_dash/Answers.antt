-- `breaks::dash::open_dash` meets its contract, by splice_command_type.
-- Assumes nothing.
use mathlib.Core.Path.{sym, ap, ◌∙◌}
use Rattle.std.specs.Prelude.{Result, Ok}
use native.Mathlib.Omega.{arith}
use Rattle.units.specs.declared.refusals.Refusal.{Refusal}
use Rattle.command_reading.specs.declared.answers.Command.{Command}
use Rattle.breaks.specs.declared.signal.Signal.{Signal}
use Rattle.breaks.specs.Signals.{known_readings}
use Rattle.breaks.specs.Dash.{dash_of, dash_by}
use Rattle.breaks.proofs.Opened.{allowed, filled, signal_is, undashed}
use Rattle.breaks.proofs.dash.open_dash.Goals as goal

pub bounds-s-13 : goal.bounds-s-13
bounds-s-13 c =
    let a = c.args in
    omega (arith, (allowed a.s.now a.cursor c.requires).long)

pub returns-then-s-ne6 : goal.returns-then-s-ne6
returns-then-s-ne6 c =
    let a = c.args in
    undashed a.s.now a.cursor c.requires (c.type_inv.s 13).fits c.if-s-ne6.true (known_readings a.s.now a.cursor)

pub walk-signal-requires : goal.walk-signal-requires
walk-signal-requires c =
    let a = c.args in
    ((allowed a.s.now a.cursor c.requires).fits, filled a.s.now a.cursor c.requires)

pub returns : goal.returns
returns c =
    let a = c.args in
    let ds = known_readings a.s.now a.cursor in
    ap Ok (c.lasting.ensures ∙ ap (λ (g : Signal). dash_of g.longest) c.walk-signal.ensures)
    ∙ ap (λ (k : Result Command Refusal). dash_by k ds) (sym (signal_is a.s.now a.cursor c.requires (c.type_inv.s 13).fits c.if-s-ne6.false))
