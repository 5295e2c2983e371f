-- `commands::schedule_event_at` meets its contract.
-- Assumes nothing.
use mathlib.Core.List.{[]}
use native.Mathlib.Omega.{arith}
use Rattle.grammar.specs.Tables.{schedule_event}
use Rattle.commands.specs.Command.{event_place}
use Rattle.commands.proofs.Lists.{listed, crossed, too_long}
use Rattle.commands.proofs.schedule_event_at.Goals as goal

pub returns-then-end-at : goal.returns-then-end-at
unfolding event_place
returns-then-end-at c =
    let a = c.args in
    crossed schedule_event [] a.s.now a.at a.end a.n (omega arith)

pub returns-then-s-end : goal.returns-then-s-end
unfolding event_place
returns-then-s-end c =
    let a = c.args in
    too_long schedule_event [] a.s.now a.at a.end a.n (omega arith) (omega arith)

pub returns : goal.returns
unfolding event_place
returns c =
    let a = c.args in
    listed schedule_event [] a.s.now a.at a.end a.n (omega arith) (omega arith) (c.schedule_events.ensures [])
