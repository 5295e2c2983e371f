-- `command_lists::private_byte` meets its contract.
-- Assumes nothing.
use mathlib.Core.Path.{◌≡◌, refl, sym, ap, ◌∙◌}
use Prim.Native.Nat.{◌+◌, ◌-◌, ◌*◌, ◌≤◌}
use native.Mathlib.Omega.{arith}
use lib.ListN.{length, get_or}
use Rattle.std.specs.Prelude.{Some, None}
use Rattle.std.proofs.lemmas.Result.{err_from_is_err_and}
use Rattle.bits.specs.Bits.{bit, num}
use Rattle.units.specs.declared.refusals.Refusal.{Refusal}
use Rattle.grammar.specs.Meaning.{reached}
use Rattle.grammar.specs.Traces.{Trace, trace_of}
use Rattle.grammar.specs.Ended.{outcome}
use Rattle.grammar.proofs.Places.{octet}
use Rattle.command_reading.specs.Command.{command_reading}
use Rattle.command_reading.proofs.Said.{rows_to, bounds, private_rows}
use Rattle.command_lists.proofs.ByteAt.{no_byte, not_private, no_more, byte_at}
use Rattle.command_lists.proofs.private_byte.Goals as goal
use Rattle.command_lists.proofs.private_byte.Goals.{In_ok-end}

-- the rows of the command
rows : In_ok-end → Trace
rows c = trace_of (command_reading c.args.s.now)

-- they were read up to where the command ends
read_to : (c : In_ok-end) → command_reading c.args.s.now ≡ reached (8 * c.in_ok-end.end) (rows c)
unfolding rows
read_to c =
    let found : c.end.result ≡ Some c.in_ok-end.end = grind arith in
    rows_to c.args.s.now c.in_ok-end.end c.end.ensures found

-- it ends before the CRC
inside : (c : In_ok-end) → (20 ≤ length c.args.s.now) × (length c.args.s.now ≤ 4096) × (14 ≤ c.in_ok-end.end) × (c.in_ok-end.end ≤ length c.args.s.now - 4)
inside c = bounds c.args.s.now c.in_ok-end.end (rows c) (read_to c)

-- splice_command_type is byte 13
type_is : (c : In_ok-end) → num (bit c.args.s.now) 104 8 ≡ get_or c.args.s.now 13 0
type_is c = octet c.args.s.now 13 104 (c.type_inv.s 13).fits refl

pub returns-in_err-end : goal.returns-in_err-end
returns-in_err-end c =
    let lost : c.end.result ≡ None = grind arith in
    let why : c.in_err-end.field-0.0 ≡ Refusal.NotHere = grind arith in
    let given = err_from_is_err_and c.from_residual.result c.from_residual.ensures.1 in
    rw (given.1, given.2, why) (no_byte c.args.s.now c.args.n (sym c.end.ensures ∙ ap outcome lost))

pub bounds-s-13 : goal.bounds-s-13
bounds-s-13 c = omega (arith, inside (goal.at.bounds-s-13 c).In_ok-end)

pub returns-then-s : goal.returns-then-s
returns-then-s c =
    let x = (goal.at.returns-then-s c).In_ok-end in
    not_private c.args.s.now c.in_ok-end.end c.args.n (rows x) (read_to x) (λ h. c.if-s.true (sym (type_is x) ∙ h))

pub overflow_sub-end : goal.overflow_sub-end
overflow_sub-end c =
    let x = (goal.at.overflow_sub-end c).In_ok-end in
    omega (arith, (private_rows c.args.s.now c.in_ok-end.end (rows x) (read_to x) (type_is x ∙ c.if-s.false)).long)

pub returns-then-end-n : goal.returns-then-end-n
returns-then-end-n c =
    let x = (goal.at.returns-then-end-n c).In_ok-end in
    no_more c.args.s.now c.in_ok-end.end c.args.n (rows x) (read_to x) (type_is x ∙ c.if-s.false) (omega arith)

pub bounds-s-n : goal.bounds-s-n
bounds-s-n c = omega (arith, inside (goal.at.bounds-s-n c).In_ok-end)

pub returns : goal.returns
returns c =
    let x = (goal.at.returns c).In_ok-end in
    byte_at c.args.s.now c.in_ok-end.end c.args.n (rows x) (read_to x) (type_is x ∙ c.if-s.false) (omega arith) (c.type_inv.s (18 + c.args.n)).fits
