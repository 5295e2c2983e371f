-- `commands::insert_component_at` meets its contract.
-- Assumes nothing.
use mathlib.Core.Path.{refl}
use mathlib.Core.List.{[], ◌∷◌}
use native.Mathlib.Omega.{arith}
use Rattle.grammar.specs.Meaning.{Env}
use Rattle.grammar.specs.Tables.{insert_component}
use Rattle.commands.specs.Command.{component_place}
use Rattle.commands.proofs.Lists.{listed, crossed, too_long}
use Rattle.commands.proofs.insert_component_at.Goals as goal

pub returns-then-end-at : goal.returns-then-end-at
unfolding component_place
returns-then-end-at c =
    let a = c.args in
    crossed insert_component (("splice_immediate_flag", a.splice_immediate_flag) ∷ []) a.s.now a.at a.end a.n (omega arith)

pub returns-then-s-end : goal.returns-then-s-end
unfolding component_place
returns-then-s-end c =
    let a = c.args in
    too_long insert_component (("splice_immediate_flag", a.splice_immediate_flag) ∷ []) a.s.now a.at a.end a.n (omega arith) (omega arith)

pub returns : goal.returns
unfolding component_place
returns c =
    let a = c.args in
    let known : Env = ("splice_immediate_flag", a.splice_immediate_flag) ∷ [] in
    listed insert_component known a.s.now a.at a.end a.n (omega arith) (omega arith) (c.insert_components.ensures known refl)
