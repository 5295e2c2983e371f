-- `layout_commands::private_command` meets its contract: the identifier, then bytes.
-- Assumes nothing.
use Rattle.grammar.specs.Tables.{private_command}
use Rattle.fields.proofs.Lays.{pass}
use Rattle.fields.proofs.Sweeps.{lays_bytes}
use Rattle.layout_commands.proofs.private_command.Goals as goal

pub returns-clause-lays : goal.returns-clause-lays
unfolding private_command
returns-clause-lays c = λ env v. pass c.lay.ensures.plan (lays_bytes "private_byte" c.bytes.ensures.plan)
