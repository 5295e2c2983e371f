-- `layout_commands::command_within` meets its contract: the command alone, or in a part of the length that the header gives.
-- Assumes nothing.
use mathlib.Core.Path.{refl, sym, ap, ◌∙◌}
use mathlib.Core.Bool.{false≢true}
use Prim.Native.Nat.{ℕ, ◌+◌, ◌*◌}
use borrow.Author.Tests.{eq-eqb, ne_eqb}
use Rattle.grammar.specs.Syntax.{stop}
use Rattle.grammar.specs.Tables.{bytes, private_command, sized_command}
use Rattle.fields.proofs.Lays.{finished, yes_last, no_last, framed}
use Rattle.layout_commands.proofs.Types.{by_type}
use Rattle.layout_commands.proofs.command_within.Goals as goal

pub returns-then-splice_command_length-eq4095-clause-lays : goal.returns-then-splice_command_length-eq4095-clause-lays
unfolding sized_command
returns-then-splice_command_length-eq4095-clause-lays c =
    λ env end t l.
    yes_last (eq-eqb _ 0xFFF (l ∙ c.if-splice_command_length-eq4095.true))
    (by_type stop stop t (c.command.ensures.lays env end (λ q. absurd (false≢true q))))

pub returns-clause-lays : goal.returns-clause-lays
unfolding sized_command
returns-clause-lays c =
    λ env end t l.
    no_last (ne_eqb _ 0xFFF (λ q. c.if-splice_command_length-eq4095.false (sym l ∙ q)))
    (framed _ (ap (λ (n : ℕ). c.args.fields.now.at + 8 * n) l)
    (by_type private_command (bytes "command_byte") t (c.command-2.ensures.lays env _ (λ q. refl))) (finished refl))
