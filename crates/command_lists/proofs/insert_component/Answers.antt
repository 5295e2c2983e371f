-- `command_lists::insert_component` meets its contract.
-- Assumes nothing.
use mathlib.Core.Path.{◌≡◌, refl, sym, ap, ◌∙◌}
use mathlib.Core.List.{List}
use Prim.Native.Nat.{ℕ, ◌*◌, ◌<◌}
use native.Mathlib.Omega.{arith}
use lib.ListN.{length, get_or}
use lib.Dec.{eqb}
use Rattle.std.specs.Prelude.{Option, Some, None, Ok}
use Rattle.std.proofs.lemmas.Result.{err_from_is_err_and}
use Rattle.bits.specs.Bits.{bit, num, field_of, flag_of}
use Rattle.bits.proofs.Fields.{field_lt}
use Rattle.units.specs.declared.refusals.Refusal.{Refusal}
use Rattle.grammar.specs.Meaning.{reached}
use Rattle.grammar.specs.Traces.{Trace, trace_of}
use Rattle.grammar.specs.Ended.{outcome}
use Rattle.grammar.proofs.Places.{octet}
use Rattle.commands.specs.Command.{component_place}
use Rattle.command_reading.specs.Command.{command_reading, command_trace}
use Rattle.command_reading.proofs.Said.{rows_to, bounds}
use Rattle.command_lists.specs.Lists.{insert_component_of}
use Rattle.command_lists.specs.Places.{insert_component_at}
use Rattle.command_lists.proofs.ComponentAt.{no_component, not_insert, absent, somewhere, at_place}
use Rattle.command_lists.proofs.insert_component.Goals as goal
use Rattle.command_lists.proofs.insert_component.Goals.{In_ok-end, After-insert_component_at-place}

-- the rows of the command
rows : In_ok-end → Trace
rows c = trace_of (command_reading c.args.s.now)

-- they were read up to where the command ends
read_to : (c : In_ok-end) → command_reading c.args.s.now ≡ reached (8 * c.in_ok-end.end) (rows c)
unfolding rows
read_to c =
    let found : c.end.result ≡ Some c.in_ok-end.end = grind arith in
    rows_to c.args.s.now c.in_ok-end.end c.end.ensures found

-- splice_command_type is byte 13
type_is : (c : In_ok-end) → num (bit c.args.s.now) 104 8 ≡ get_or c.args.s.now 13 0
type_is c = octet c.args.s.now 13 104 (c.type_inv.s 13).fits refl

-- where the components before the one that is asked for end, in an insert that has it
module _ (c : After-insert_component_at-place) where
  abbrev start : In_ok-end
  start = (goal.at.After-insert_component_at-place c).In_ok-end

  is_insert : num (bit c.args.s.now) 104 8 ≡ 0x05
  is_insert = type_is start ∙ c.if-s-ne5.false

  few : c.args.n < field_of c.args.s.now 160 8
  few = omega (arith, c.read.ensures)

  placed : {o : Option ℕ} → c.insert_component_at-place.result ≡ o → component_place c.args.s.now 21 c.in_ok-end.end c.args.n (field_of c.args.s.now 155 1) ≡ outcome o
  placed e =
      ap (component_place c.args.s.now 21 c.in_ok-end.end c.args.n) (sym c.read-splice_immediate_flag.ensures)
      ∙ sym c.insert_component_at-place.ensures
      ∙ ap outcome e

  nowhere : {A : Type 0} → c.insert_component_at-place.result ≡ None → A
  nowhere e =
      somewhere c.args.s.now c.in_ok-end.end c.args.n (rows start) (read_to start) is_insert (sym c.if-flag.ensures) (sym c.if-flag-2.ensures) few (placed e)

  at_byte : (at : ℕ) → c.insert_component_at-place.result ≡ Some at
      → (at < length c.args.s.now) × (Ok (insert_component_at c.args.s.now at (flag_of c.args.s.now 155)) ≡ insert_component_of (command_trace c.args.s.now) c.args.n)
  at_byte at e =
      at_place c.args.s.now c.in_ok-end.end c.args.n (rows start) (read_to start) is_insert (sym c.if-flag.ensures) (sym c.if-flag-2.ensures) few at (placed e)

pub returns-in_err-end : goal.returns-in_err-end
returns-in_err-end c =
    let lost : c.end.result ≡ None = grind arith in
    let why : c.in_err-end.field-0.0 ≡ Refusal.NotHere = grind arith in
    let given = err_from_is_err_and c.from_residual.result c.from_residual.ensures.1 in
    rw (given.1, given.2, why) (no_component c.args.s.now c.args.n (sym c.end.ensures ∙ ap outcome lost))

pub bounds-s-13 : goal.bounds-s-13
bounds-s-13 c = let x = (goal.at.bounds-s-13 c).In_ok-end in omega (arith, bounds c.args.s.now c.in_ok-end.end (rows x) (read_to x))

pub returns-then-s-ne5 : goal.returns-then-s-ne5
returns-then-s-ne5 c =
    let x = (goal.at.returns-then-s-ne5 c).In_ok-end in
    not_insert c.args.s.now c.in_ok-end.end c.args.n (rows x) (read_to x) (λ h. c.if-s-ne5.true (sym (type_is x) ∙ h))

pub returns-then-flag : goal.returns-then-flag
returns-then-flag c =
    let x = (goal.at.returns-then-flag c).In_ok-end in
    absent c.args.s.now c.in_ok-end.end c.args.n (rows x) (read_to x) (type_is x ∙ c.if-s-ne5.false) (rw (sym c.if-flag.ensures) (omega arith))

pub returns-then-flag-2 : goal.returns-then-flag-2
returns-then-flag-2 c =
    let x = (goal.at.returns-then-flag-2 c).In_ok-end in
    absent c.args.s.now c.in_ok-end.end c.args.n (rows x) (read_to x) (type_is x ∙ c.if-s-ne5.false)
    (rw (sym c.if-flag.ensures, sym c.if-flag-2.ensures) (omega arith))

pub returns-then-read-n : goal.returns-then-read-n
returns-then-read-n c =
    let x = (goal.at.returns-then-read-n c).In_ok-end in
    absent c.args.s.now c.in_ok-end.end c.args.n (rows x) (read_to x) (type_is x ∙ c.if-s-ne5.false)
    (rw (sym c.if-flag.ensures, sym c.if-flag-2.ensures) (omega (arith, c.read.ensures)))

pub overflow_cast-splice_immediate_flag : goal.overflow_cast-splice_immediate_flag
overflow_cast-splice_immediate_flag c = omega (arith, field_lt c.args.s.now 155 1)

pub returns-in_err-at : goal.returns-in_err-at
returns-in_err-at c =
    let lost : c.insert_component_at-place.result ≡ None = grind arith in
    nowhere (goal.at.returns-in_err-at c).After-insert_component_at-place lost

pub insert_component-requires : goal.insert_component-requires
insert_component-requires c =
    let found : c.insert_component_at-place.result ≡ Some c.in_ok-at.at = grind arith in
    (at_byte (goal.at.insert_component-requires c).After-insert_component_at-place c.in_ok-at.at found).0

pub returns : goal.returns
returns c =
    let found : c.insert_component_at-place.result ≡ Some c.in_ok-at.at = grind arith in
    let s : List ℕ = c.args.s.now in
    ap Ok (c.insert_component.ensures ∙ ap (λ (v : ℕ). insert_component_at s c.in_ok-at.at (eqb v 1)) c.read-splice_immediate_flag.ensures)
    ∙ (at_byte (goal.at.returns c).After-insert_component_at-place c.in_ok-at.at found).1
