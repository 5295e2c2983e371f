-- `command_reading::command` meets its contract: each arm answers what the rows of its type say.
-- Assumes nothing.
use mathlib.Core.Path.{◌≡◌, refl, sym, ap, ◌∙◌}
use mathlib.Core.List.{List}
use Prim.Native.Nat.{ℕ, ◌-◌, ◌*◌, ◌≤◌}
use native.Mathlib.Omega.{arith}
use Rattle.std.specs.Prelude.{Some, None, Ok}
use Rattle.std.proofs.lemmas.Result.{err_from_is_err_and}
use Rattle.units.specs.declared.refusals.Refusal.{Refusal}
use lib.ListN.{length, get_or}
use Rattle.bits.specs.Bits.{bit, num}
use Rattle.bits.proofs.Fields.{field_lt}
use Rattle.grammar.specs.Meaning.{reached}
use Rattle.grammar.specs.Traces.{Trace, trace_of}
use Rattle.grammar.specs.Ended.{outcome}
use Rattle.grammar.proofs.Places.{octet}
use Rattle.command_reading.specs.declared.answers.Command.{Command}
use Rattle.command_reading.specs.declared.answers.SpliceTime.{SpliceTime}
use Rattle.command_reading.specs.Command.{command_reading}
use Rattle.command_reading.proofs.Said.{refused, rows_to, bounds, null, schedule, insert, signal, reservation, private_rows, private_one, unread}
use Rattle.command_reading.proofs.Times.{time_from}
use Rattle.command_reading.proofs.command.Goals as goal
use Rattle.command_reading.proofs.command.Goals.{In_ok-end}

-- the rows of the command
rows : In_ok-end → Trace
rows c = trace_of (command_reading c.args.s.now)

-- they were read up to where the command ends
read_to : (c : In_ok-end) → command_reading c.args.s.now ≡ reached (8 * c.in_ok-end.end) (rows c)
unfolding rows
read_to c =
    let found : c.end.result ≡ Some c.in_ok-end.end = grind arith in
    rows_to c.args.s.now c.in_ok-end.end c.end.ensures found

-- it ends before the CRC
inside : (c : In_ok-end) → (20 ≤ length c.args.s.now) × (length c.args.s.now ≤ 4096) × (14 ≤ c.in_ok-end.end) × (c.in_ok-end.end ≤ length c.args.s.now - 4)
inside c = bounds c.args.s.now c.in_ok-end.end (rows c) (read_to c)

-- splice_command_type is byte 13
type_is : (c : In_ok-end) → num (bit c.args.s.now) 104 8 ≡ get_or c.args.s.now 13 0
type_is c = octet c.args.s.now 13 104 (c.type_inv.s 13).fits refl

pub returns-in_err-end : goal.returns-in_err-end
returns-in_err-end c =
    let lost : c.end.result ≡ None = grind arith in
    let why : c.in_err-end.field-0.0 ≡ Refusal.Command = grind arith in
    let given = err_from_is_err_and c.from_residual.result c.from_residual.ensures.1 in
    rw (given.1, given.2, why) (refused c.args.s.now (sym c.end.ensures ∙ ap outcome lost))

pub bounds-s-13 : goal.bounds-s-13
bounds-s-13 c = omega (arith, inside (goal.at.bounds-s-13 c).In_ok-end)

pub bounds-s-14 : goal.bounds-s-14
bounds-s-14 c = omega (arith, inside (goal.at.bounds-s-14 c).In_ok-end)

pub insert-requires : goal.insert-requires
insert-requires c = omega (arith, inside (goal.at.insert-requires c).In_ok-end)

pub slice_bounds-splice_time-count : goal.slice_bounds-splice_time-count
slice_bounds-splice_time-count c = omega (arith, inside (goal.at.slice_bounds-splice_time-count c).In_ok-end)

pub slice_bounds-splice_time-start : goal.slice_bounds-splice_time-start
slice_bounds-splice_time-start c = omega (arith, inside (goal.at.slice_bounds-splice_time-start c).In_ok-end)

pub overflow_cast-result : goal.overflow_cast-result
overflow_cast-result c = omega (arith, field_lt c.args.s.now 112 32)

pub overflow_sub-result : goal.overflow_sub-result
overflow_sub-result c =
    let x = (goal.at.overflow_sub-result c).In_ok-end in
    omega (arith, (private_rows c.args.s.now c.in_ok-end.end (rows x) (read_to x) (type_is x ∙ c.in-255.is)).long)

pub returns-in-0 : goal.returns-in-0
returns-in-0 c = let x = (goal.at.returns-in-0 c).In_ok-end in sym (null c.args.s.now c.in_ok-end.end (rows x) (read_to x) (type_is x ∙ c.in-0.is))

pub returns-in-4 : goal.returns-in-4
returns-in-4 c =
    let x = (goal.at.returns-in-4 c).In_ok-end in
    let s : List ℕ = c.args.s.now in
    ap (λ (n : ℕ). Ok (Command.Schedule n)) (sym (octet s 14 112 (c.type_inv.s 14).fits refl))
    ∙ sym (schedule s c.in_ok-end.end (rows x) (read_to x) (type_is x ∙ c.in-4.is))

pub returns-in-5 : goal.returns-in-5
returns-in-5 c =
    let x = (goal.at.returns-in-5 c).In_ok-end in
    ap Ok c.insert.ensures ∙ sym (insert c.args.s.now c.in_ok-end.end (rows x) (read_to x) (type_is x ∙ c.in-5.is))

pub returns-in-6 : goal.returns-in-6
returns-in-6 c =
    let x = (goal.at.returns-in-6 c).In_ok-end in
    let s : List ℕ = c.args.s.now in
    ap (λ (t : SpliceTime). Ok (Command.TimeSignal t)) (c.splice_time.ensures ∙ time_from s 14 (omega (arith, inside x)))
    ∙ sym (signal s c.in_ok-end.end (rows x) (read_to x) (type_is x ∙ c.in-6.is))

pub returns-in-7 : goal.returns-in-7
returns-in-7 c = let x = (goal.at.returns-in-7 c).In_ok-end in sym (reservation c.args.s.now c.in_ok-end.end (rows x) (read_to x) (type_is x ∙ c.in-7.is))

pub returns-in-255 : goal.returns-in-255
returns-in-255 c =
    let x = (goal.at.returns-in-255 c).In_ok-end in
    ap (λ (v : ℕ). Ok (Command.Private v (c.in_ok-end.end - 18))) c.quad.ensures
    ∙ sym (private_one c.args.s.now c.in_ok-end.end (rows x) (read_to x) (type_is x ∙ c.in-255.is))

pub returns-in_default : goal.returns-in_default
returns-in_default c =
    let x = (goal.at.returns-in_default c).In_ok-end in
    let section : List ℕ = c.args.s.now in
    let no = c.in_default.in_default-own.rest in
    let not : (v : ℕ) → (get_or (section) 13 0 ≡ v → ⊥) → num (bit (section)) 104 8 ≡ v → ⊥ = λ v h e. h (sym (type_is x) ∙ e) in
    sym
    (unread section c.in_ok-end.end (rows x) (read_to x)
    (not 0x00 no.0.0.0.0.0.1) (not 0x04 no.0.0.0.0.1) (not 0x05 no.0.0.0.1) (not 0x06 no.0.0.1) (not 0x07 no.0.1) (not 0xFF no.1))
