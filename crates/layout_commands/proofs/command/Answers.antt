-- `layout_commands::command` meets its contract: each arm is the table of its type.
-- Assumes nothing.
use mathlib.Core.Path.{refl}
use mathlib.Core.Logic.{⊎_elim}
use Rattle.commands.specs.Command.{table_of}
use Rattle.fields.proofs.Lays.{finished, stopped}
use Rattle.fields.proofs.Sweeps.{lays_bytes}
use Rattle.layout_commands.proofs.Types.{of_type, otherwise, ending}
use Rattle.layout_commands.proofs.command.Goals as goal

pub returns-in-0-clause-lays : goal.returns-in-0-clause-lays
unfolding table_of
returns-in-0-clause-lays c =
    let a = c.args in
    λ env e h. ⊎_elim (λ q. of_type a.sized q (finished refl)) (λ q. of_type a.sized q (finished refl)) c.in-0.is

pub returns-in-4-clause-lays : goal.returns-in-4-clause-lays
unfolding table_of
returns-in-4-clause-lays c =
    let a = c.args in
    λ env e h. of_type a.sized c.in-4.is (c.splice_schedule.ensures.lays env e)

pub returns-in-5-clause-lays : goal.returns-in-5-clause-lays
unfolding table_of
returns-in-5-clause-lays c =
    let a = c.args in
    λ env e h. of_type a.sized c.in-5.is (c.splice_insert.ensures.lays env e)

pub returns-in-6-clause-lays : goal.returns-in-6-clause-lays
unfolding table_of
returns-in-6-clause-lays c =
    let a = c.args in
    λ env e h. of_type a.sized c.in-6.is (c.splice_time.ensures.lays env e)

pub returns-then-sized-clause-lays : goal.returns-then-sized-clause-lays
unfolding table_of
returns-then-sized-clause-lays c =
    let if1 = c.if-sized in
    let a = c.args in
    λ env e h. of_type a.sized c.in-255.is (rw if1.true (ending (h if1.true) (c.private_command.ensures.lays env _)))

pub returns-else-sized-clause-lays : goal.returns-else-sized-clause-lays
unfolding table_of
returns-else-sized-clause-lays c =
    let if1 = c.if-sized in
    let a = c.args in
    λ env e h. of_type a.sized c.in-255.is (rw if1.false (stopped refl))

pub returns-then-sized-2-clause-lays : goal.returns-then-sized-2-clause-lays
returns-then-sized-2-clause-lays c =
    let if2 = c.if-sized-2 in
    let no = c.in_default.in_default-own.rest in
    let a = c.args in
    λ env e h. otherwise a.sized no.0.0.0.0.1 no.0.0.0.1 no.0.0.1 no.0.1 no.1
    (rw if2.true (ending (h if2.true) (lays_bytes "command_byte" c.bytes.ensures.plan)))

pub returns-else-sized-2-clause-lays : goal.returns-else-sized-2-clause-lays
returns-else-sized-2-clause-lays c =
    let if2 = c.if-sized-2 in
    let no = c.in_default.in_default-own.rest in
    let a = c.args in
    λ env e h. otherwise a.sized no.0.0.0.0.1 no.0.0.0.1 no.0.0.1 no.0.1 no.1
    (rw if2.false (stopped refl))
