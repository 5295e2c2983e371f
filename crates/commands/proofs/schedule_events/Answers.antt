-- `commands::schedule_events` meets its contract.
-- Assumes nothing.
use mathlib.Core.Path.{refl}
use mathlib.Core.List.{[]}
use Rattle.std.proofs.Common.{rules, of_calls}
use Rattle.grammar.specs.Tables.{schedule_event}
use Rattle.commands.proofs.Lists.{ends_inside}
use Rattle.commands.proofs.schedule_events.Goals as goal

pub parts-requires : goal.parts-requires
parts-requires c κs = ((refl, tt), (search (rules, of_calls), λ one next e. ends_inside schedule_event [] one next (search rules)))
