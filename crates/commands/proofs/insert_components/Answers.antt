-- `commands::insert_components` meets its contract.
-- Assumes nothing.
use mathlib.Core.Path.{refl}
use mathlib.Core.List.{[], ◌∷◌}
use Rattle.std.proofs.Common.{rules, of_calls}
use Rattle.grammar.specs.Meaning.{Env}
use Rattle.grammar.specs.Tables.{insert_component}
use Rattle.commands.proofs.Lists.{ends_inside}
use Rattle.commands.proofs.insert_components.Goals as goal

pub parts-requires : goal.parts-requires
parts-requires c κs =
    let known : Env = ("splice_immediate_flag", c.args.splice_immediate_flag) ∷ [] in
    ((refl, tt), (search (rules, of_calls), λ one next e. ends_inside insert_component known one next (search rules)))
