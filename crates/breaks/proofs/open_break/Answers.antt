-- `breaks::open_break` meets its contract, by splice_command_type.
-- Assumes nothing.
use mathlib.Core.Path.{◌≡◌, sym, ap, ◌∙◌}
use mathlib.Core.Logic.{inl, inr}
use Rattle.std.specs.Prelude.{Result, Ok}
use Prim.Native.Nat.{ℕ, ◌-◌, ◌≤◌, ◌<◌}
use native.Mathlib.Omega.{arith}
use lib.ListN.{length, get_or}
use Rattle.units.specs.declared.refusals.Refusal.{Refusal}
use Rattle.command_reading.specs.declared.answers.Command.{Command}
use Rattle.command_reading.specs.Places.{insert_at}
use Rattle.command_reading.proofs.Said.{bounds}
use Rattle.breaks.specs.Signals.{known_readings, break_of, signal_break}
use Rattle.breaks.specs.Breaks.{break_by}
use Rattle.breaks.proofs.Opened.{allowed, filled, stop, rows, loop_after, command_read, insert_is, signal_is, unread_is, unbroken}
use Rattle.breaks.proofs.open_break.Goals as goal

pub bounds-s-13 : goal.bounds-s-13
bounds-s-13 c =
    let a = c.args in
    omega (arith, (allowed a.s.now a.cursor c.requires).long)

pub overflow_sub-cursor : goal.overflow_sub-cursor
overflow_sub-cursor c =
    let ends_at : let a = c.args in (2 ≤ a.cursor.at) × (9 ≤ a.cursor.at - 2) × (a.cursor.at - 2 ≤ length a.s.now) × (a.cursor.at - 2 ≡ stop a.s.now a.cursor c.requires) = let s = c.args.s.now in
    let k = c.args.cursor in
    let o = c.requires in
    let after = loop_after s k o in
    let inside = bounds s (stop s k o) (rows s k o) (command_read s k o) in
    (omega (arith, after), omega (arith, after, inside), omega (arith, after, inside), omega (arith, after)) in
    (ends_at).0

pub insert_break-requires : goal.insert_break-requires
insert_break-requires c =
    let ends_at : let a = c.args in (2 ≤ a.cursor.at) × (9 ≤ a.cursor.at - 2) × (a.cursor.at - 2 ≤ length a.s.now) × (a.cursor.at - 2 ≡ stop a.s.now a.cursor c.requires) = let s = c.args.s.now in
    let k = c.args.cursor in
    let o = c.requires in
    let after = loop_after s k o in
    let inside = bounds s (stop s k o) (rows s k o) (command_read s k o) in
    (omega (arith, after), omega (arith, after, inside), omega (arith, after, inside), omega (arith, after)) in
    let a = c.args in
    ((ends_at).1, (ends_at).2, (allowed a.s.now a.cursor c.requires).fits)

pub walk-requires : goal.walk-requires
walk-requires c =
    let a = c.args in
    ((allowed a.s.now a.cursor c.requires).fits, filled a.s.now a.cursor c.requires)

pub returns-in-5 : goal.returns-in-5
returns-in-5 c =
    let type-byte : get_or c.args.s.now 13 0 < 256 = (c.type_inv.s 13).fits in
    let ends_at : let a = c.args in (2 ≤ a.cursor.at) × (9 ≤ a.cursor.at - 2) × (a.cursor.at - 2 ≤ length a.s.now) × (a.cursor.at - 2 ≡ stop a.s.now a.cursor c.requires) = let s = c.args.s.now in
    let k = c.args.cursor in
    let o = c.requires in
    let after = loop_after s k o in
    let inside = bounds s (stop s k o) (rows s k o) (command_read s k o) in
    (omega (arith, after), omega (arith, after, inside), omega (arith, after, inside), omega (arith, after)) in
    let a = c.args in
    let s = a.s.now in
    let ds = known_readings s a.cursor in
    c.insert_break.ensures ds
    ∙ ap (λ (k : Result Command Refusal). break_by k ds)
    (ap (λ (end : ℕ). Ok (insert_at s end)) (ends_at).3 ∙ sym (insert_is s a.cursor c.requires (type-byte) c.in-5.is))

pub returns-in-6 : goal.returns-in-6
unfolding signal_break
returns-in-6 c =
    let type-byte : get_or c.args.s.now 13 0 < 256 = (c.type_inv.s 13).fits in
    let a = c.args in
    let ds = known_readings a.s.now a.cursor in
    ap Ok (c.opening.ensures ∙ ap break_of c.walk.ensures)
    ∙ ap (λ (k : Result Command Refusal). break_by k ds) (sym (signal_is a.s.now a.cursor c.requires (type-byte) c.in-6.is))

pub returns-in-0 : goal.returns-in-0
returns-in-0 c =
    let type-byte : get_or c.args.s.now 13 0 < 256 = (c.type_inv.s 13).fits in
    let a = c.args in
    unbroken a.s.now a.cursor c.requires (type-byte) c.in-0.is (known_readings a.s.now a.cursor)

pub returns-in_default : goal.returns-in_default
returns-in_default c =
    let type-byte : get_or c.args.s.now 13 0 < 256 = (c.type_inv.s 13).fits in
    let a = c.args in
    let ds = known_readings a.s.now a.cursor in
    let no = c.in_default.in_default-own.rest in
    ap (λ (k : Result Command Refusal). break_by k ds)
    (sym (unread_is a.s.now a.cursor c.requires (type-byte)
    (λ e. no.1 (inl e)) (λ e. no.1 (inr (inl e))) no.0.0.1 no.0.1 (λ e. no.1 (inr (inr (inl e)))) (λ e. no.1 (inr (inr (inr e))))))
