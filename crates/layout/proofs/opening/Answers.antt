-- `layout::opening` meets its contract: the type, the command within its length, the loop.
-- Assumes nothing.
use mathlib.Core.Path.{refl, sym, ◌∙◌}
use mathlib.Core.List.{[], ◌∷◌}
use native.Mathlib.Omega.{arith}
use Rattle.grammar.specs.Meaning.{Env}
use Rattle.grammar.specs.Tables.{sized_command, descriptor_loop}
use Rattle.fields.specs.Fields.{Room}
use Rattle.fields.proofs.Below.{below}
use Rattle.fields.proofs.Lays.{finished, pass, ruled}
use Rattle.fields.proofs.Room.{group_in, table_in}
use Rattle.layout.specs.Layout.{opening}
use Rattle.layout.proofs.Shape.{command_slim, loop_slim}
use Rattle.layout.proofs.opening.Goals as goal

pub overflow_cast-splice_command_length : goal.overflow_cast-splice_command_length
overflow_cast-splice_command_length c =
    let value = c.value-splice_command_length in
    omega (arith, below _ _ _ _ _ value.ensures)

pub returns : goal.returns
unfolding opening
returns c =
    let room-group : Room c.group-part.result c.group-part.new.widths = (group_in _ _ refl c.requires c.group-part.ensures).1 in
    let room-command : Room c.sized_command-after.result c.sized_command-after.new.widths = let value2 = c.value-splice_command_type.result in
    let value = c.value-splice_command_length.result in
    let env : Env = ("splice_command_type", value2) ∷ ("splice_command_length", value) ∷ [] in
    (table_in sized_command command_slim env _ 0 _ (room-group) (c.sized_command-after.ensures env 0 refl refl)).1 in
    let room-loop : Room c.descriptor_loop.result c.descriptor_loop.new.widths = (table_in descriptor_loop loop_slim [] _ 0 _ (room-command) (c.descriptor_loop.ensures [] 0)).1 in
    let descriptor_loop = c.descriptor_loop in
    let sized_command = c.sized_command-after in
    let group = c.group-part in
    let value2 = c.value-splice_command_type in
    let value = c.value-splice_command_length in (
      λ env end e.
          pass (group_in _ _ refl c.requires group.ensures).0
          (ruled (table_in _ command_slim _ _ end _ (room-group) (sized_command.ensures _ end (sym value2.ensures) (e ∙ sym value.ensures))).0
          (ruled (table_in _ loop_slim _ _ end _ (room-command) (descriptor_loop.ensures _ end)).0 (finished refl))),
      room-loop,
    )
