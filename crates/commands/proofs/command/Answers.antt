-- `commands::command` meets its contract: each arm is the table of its type.
-- Assumes nothing.
use mathlib.Core.Path.{◌≡◌, refl}
use mathlib.Core.Bool.{cond}
use mathlib.Core.Logic.{inl, inr, ⊎_elim}
use Prim.Native.Nat.{◌+◌, ◌-◌, ◌*◌}
use native.Mathlib.Omega.{arith}
use Rattle.bits.specs.Bits.{bit}
use Rattle.grammar.specs.Syntax.{Prog, stop}
use Rattle.grammar.specs.Tables.{private_command, bytes}
use Rattle.grammar.proofs.Run.{finished, stopped, filled_last, swept_bytes}
use Rattle.commands.specs.Command.{table_of}
use Rattle.commands.proofs.Types.{of_type, otherwise}
use Rattle.commands.proofs.command.Goals as goal

pub returns-in-0 : goal.returns-in-0
unfolding table_of
returns-in-0 c env =
    let a = c.args in
    let p : Prog = cond a.sized private_command stop in
    let o : Prog = cond a.sized (bytes "command_byte") stop in
    ⊎_elim (λ e. of_type p o a.splice_command_type 0x00 e (finished refl)) (λ e. of_type p o a.splice_command_type 0x07 e (finished refl)) c.in-0.is

pub returns-in-4 : goal.returns-in-4
unfolding table_of
returns-in-4 c env =
    let a = c.args in
    of_type (cond a.sized private_command stop) (cond a.sized (bytes "command_byte") stop) a.splice_command_type 0x04 c.in-4.is (c.splice_schedule.ensures env)

pub returns-in-5 : goal.returns-in-5
unfolding table_of
returns-in-5 c env =
    let a = c.args in
    of_type (cond a.sized private_command stop) (cond a.sized (bytes "command_byte") stop) a.splice_command_type 0x05 c.in-5.is (c.splice_insert.ensures env)

pub returns-in-6 : goal.returns-in-6
unfolding table_of
returns-in-6 c env =
    let a = c.args in
    of_type (cond a.sized private_command stop) (cond a.sized (bytes "command_byte") stop) a.splice_command_type 0x06 c.in-6.is (c.splice_time.ensures env)

pub returns-then-sized : goal.returns-then-sized
unfolding table_of
returns-then-sized c env =
    let a = c.args in
    of_type (cond a.sized private_command stop) (cond a.sized (bytes "command_byte") stop) a.splice_command_type 0xFF c.in-255.is (rw c.if-sized.true (c.private_command.ensures env))

pub returns-else-sized : goal.returns-else-sized
unfolding table_of
returns-else-sized c env =
    let a = c.args in
    of_type (cond a.sized private_command stop) (cond a.sized (bytes "command_byte") stop) a.splice_command_type 0xFF c.in-255.is (rw c.if-sized.false stopped)

pub returns-then-sized-2 : goal.returns-then-sized-2
unfolding table_of
returns-then-sized-2 c env =
    let a = c.args in
    let no = c.in_default.in_default-own.rest in
    let all : 8 * a.part.at + 8 * (a.part.end - a.part.at) ≡ 8 * a.part.end = omega arith in
    otherwise (cond a.sized private_command stop) (cond a.sized (bytes "command_byte") stop) a.splice_command_type
    (λ e. no.0.0.0.0.1 (inl e)) no.0.0.0.1 no.0.0.1 no.0.1 (λ e. no.0.0.0.0.1 (inr e)) no.1
    (rw c.if-sized-2.true (filled_last (swept_bytes "command_byte" env (bit a.part.s.now) (8 * a.part.end) (a.part.end - a.part.at) (8 * a.part.at) all)))

pub returns-else-sized-2 : goal.returns-else-sized-2
unfolding table_of
returns-else-sized-2 c env =
    let a = c.args in
    let no = c.in_default.in_default-own.rest in
    otherwise (cond a.sized private_command stop) (cond a.sized (bytes "command_byte") stop) a.splice_command_type
    (λ e. no.0.0.0.0.1 (inl e)) no.0.0.0.1 no.0.0.1 no.0.1 (λ e. no.0.0.0.0.1 (inr e)) no.1
    (rw c.if-sized-2.false stopped)
