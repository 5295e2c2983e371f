-- `command_events::parts::event_span` meets its contract.
-- Assumes nothing.
use mathlib.Core.Path.{◌≡◌, refl, sym, ◌∙◌}
use Prim.Native.Nat.{◌+◌, ◌-◌, ◌*◌, ◌≤◌, ◌<◌}
use native.Mathlib.Omega.{arith}
use lib.ListN.{length, get_or}
use Rattle.bits.specs.Bits.{bit, num}
use Rattle.grammar.specs.Meaning.{reached}
use Rattle.grammar.specs.Traces.{Trace, trace_of}
use Rattle.grammar.proofs.Places.{octet}
use Rattle.grammar.proofs.Readings.{reached_at}
use Rattle.command_reading.specs.Command.{command_reading}
use Rattle.command_reading.proofs.Said.{bounds}
use Rattle.command_events.proofs.EventAt.{no_command, not_schedule, no_event, somewhere, event_at_lem}
use Rattle.command_events.proofs.parts.event_span.Goals as goal
use Rattle.command_events.proofs.parts.event_span.Goals.{In_ok-end, Else-s-n}

-- the rows of the command
abbrev rows : In_ok-end → Trace
rows c = trace_of (command_reading c.args.s.now)

-- they were read up to where the command ends
read_to : (c : In_ok-end) → command_reading c.args.s.now ≡ reached (8 * c.in_ok-end.end) (rows c)
read_to c = reached_at (command_reading c.args.s.now) (8 * c.in_ok-end.end) (sym c.in_ok-end.ensures)

-- it ends before the CRC
inside : (c : In_ok-end) → (20 ≤ length c.args.s.now) × (length c.args.s.now ≤ 4096) × (14 ≤ c.in_ok-end.end) × (c.in_ok-end.end ≤ length c.args.s.now - 4)
inside c = bounds c.args.s.now c.in_ok-end.end (rows c) (read_to c)

-- splice_command_type is byte 13, and splice_count byte 14
type_is : (c : In_ok-end) → num (bit c.args.s.now) 104 8 ≡ get_or c.args.s.now 13 0
type_is c = octet c.args.s.now 13 104 (c.type_inv.s 13).fits refl

count_is : (c : In_ok-end) → num (bit c.args.s.now) 112 8 ≡ get_or c.args.s.now 14 0
count_is c = octet c.args.s.now 14 112 (c.type_inv.s 14).fits refl

-- a schedule that has the event
module _ (c : Else-s-n) where
  abbrev start : In_ok-end
  start = (goal.at.Else-s-n c).In_ok-end

  is_schedule : num (bit c.args.s.now) 104 8 ≡ 0x04
  is_schedule = type_is start ∙ c.if-s-ne4.false

  few : c.args.n < num (bit c.args.s.now) 112 8
  few = omega (arith, count_is start)

pub returns-in_err-end : goal.returns-in_err-end
returns-in_err-end c = rw c.from_residual.ensures (no_command c.args.s.now c.args.n (sym c.in_err-end.ensures))

pub bounds-s-13 : goal.bounds-s-13
bounds-s-13 c = omega (arith, inside (goal.at.bounds-s-13 c).In_ok-end)

pub returns-then-s-ne4 : goal.returns-then-s-ne4
returns-then-s-ne4 c =
    let x = (goal.at.returns-then-s-ne4 c).In_ok-end in
    not_schedule c.args.s.now c.in_ok-end.end c.args.n (rows x) (read_to x) (λ h. c.if-s-ne4.true (sym (type_is x) ∙ h))

pub bounds-s-14 : goal.bounds-s-14
bounds-s-14 c = omega (arith, inside (goal.at.bounds-s-14 c).In_ok-end)

pub returns-then-s-n : goal.returns-then-s-n
returns-then-s-n c =
    let x = (goal.at.returns-then-s-n c).In_ok-end in
    no_event c.args.s.now c.in_ok-end.end c.args.n (rows x) (read_to x) (type_is x ∙ c.if-s-ne4.false) (omega (arith, count_is x))

pub returns-in_err-from : goal.returns-in_err-from
returns-in_err-from c =
    let x = (goal.at.returns-in_err-from c).Else-s-n in
    somewhere c.args.s.now c.in_ok-end.end c.args.n (rows (start x)) (read_to (start x)) (is_schedule x) c.args.n (omega (arith, few x)) (sym c.in_err-from.ensures)

pub returns-in_err-to : goal.returns-in_err-to
returns-in_err-to c =
    let x = (goal.at.returns-in_err-to c).Else-s-n in
    somewhere c.args.s.now c.in_ok-end.end c.args.n (rows (start x)) (read_to (start x)) (is_schedule x) (c.args.n + 1) (omega (arith, few x)) (sym c.in_err-to.ensures)

pub returns : goal.returns
returns c =
    let x = (goal.at.returns c).Else-s-n in
    event_at_lem c.args.s.now c.in_ok-end.end c.args.n (rows (start x)) (read_to (start x)) (is_schedule x) (few x) _ _
    (sym c.in_ok-from.ensures) (sym c.in_ok-to.ensures)
