-- `commands::command_end` meets its contract: it takes the two ways of the header's length, and the table by the type.
-- Assumes nothing.
use mathlib.Core.Path.{◌≡◌, refl, sym, ap, ◌∙◌}
use mathlib.Core.Bool.{Bool, cond}
use mathlib.Core.List.{List}
use Rattle.std.specs.Prelude.{Option, Some, None}
use Prim.Native.Nat.{ℕ, ◌+◌, ◌-◌, ◌*◌, ◌≤◌, ◌<◌}
use native.Mathlib.Omega.{arith}
use lib.ListN.{length, get_or}
use borrow.Author.Tests.{lt-ltb, le-ltb, eq-eqb, ne_eqb}
use Rattle.bits.specs.Bits.{bit}
use Rattle.bits.proofs.Within.{field_there}
use Rattle.grammar.specs.Syntax.{stop}
use Rattle.grammar.specs.Meaning.{value_of, run, breach, ends}
use Rattle.grammar.specs.Tables.{sized_command, private_command, bytes}
use Rattle.grammar.specs.Ended.{outcome}
use Rattle.grammar.proofs.Run.{Runs, becomes, yes_last, no_last, framed_all, framed_left, framed_off, frame_short, finished}
use Rattle.grammar.proofs.Places.{octet}
use Rattle.commands.specs.Command.{known, command_end}
use Rattle.commands.proofs.Types.{by_type}
use Rattle.commands.proofs.command_end.Goals as goal

-- a section's command ends where its run says
finish : (s : List ℕ) (r : Option ℕ) → 20 ≤ length s → Runs sized_command (known s) (bit s) (8 * (length s - 4)) (8 * 14) (outcome r) → outcome r ≡ command_end s
unfolding command_end
finish s r long h =
    sym
    (ap (λ (t : Bool). cond t (breach 0) (run sized_command (known s) (bit s) (8 * (length s - 4)) (8 * 14))) (le-ltb (length s) 20 long)
    ∙ h.runs)

-- the two values that the command's table looks at, as the code reads them
given_type : (s : List ℕ) → get_or s 13 0 < 256 → value_of (known s) "splice_command_type" ≡ get_or s 13 0
unfolding known
given_type s h = octet s 13 104 h refl

pub returns-then-s-lt20 : goal.returns-then-s-lt20
unfolding command_end known sized_command
returns-then-s-lt20 c =
    let s = c.args.s.now in
    sym (ap (λ (t : Bool). cond t (breach 0) (run sized_command (known s) (bit s) (8 * (length s - 4)) (8 * 14))) (lt-ltb (length s) 20 c.if-s-lt20.true))

pub returns-then-splice_command_length-eq4095 : goal.returns-then-splice_command_length-eq4095
unfolding command_end known sized_command
returns-then-splice_command_length-eq4095 c =
    let given-length : value_of (known c.args.s.now) "splice_command_length" ≡ c.twelve-splice_command_length.result = let s = c.args.s.now in
    sym (c.twelve-splice_command_length.ensures ∙ field_there s 92 12 (omega arith) (omega arith)) in
    let s = c.args.s.now in
    let long : 20 ≤ length s = omega arith in
    finish s c.command.result long
    (yes_last (eq-eqb _ 4095 (given-length ∙ c.if-splice_command_length-eq4095.true))
    (by_type stop stop (get_or s 13 0) (given_type s (c.type_inv.s 13).fits) (c.command.ensures (known s))))

pub returns-then-end-splice_command_length : goal.returns-then-end-splice_command_length
unfolding command_end known sized_command
returns-then-end-splice_command_length c =
    let given-length : value_of (known c.args.s.now) "splice_command_length" ≡ c.twelve-splice_command_length.result = let s = c.args.s.now in
    sym (c.twelve-splice_command_length.ensures ∙ field_there s 92 12 (omega arith) (omega arith)) in
    let s = c.args.s.now in
    let long : 20 ≤ length s = omega arith in
    finish s None long (no_last (ne_eqb _ 4095 (λ q. c.if-splice_command_length-eq4095.false (sym (given-length) ∙ q))) (frame_short (omega (arith, given-length))))

pub returns-in_err-next : goal.returns-in_err-next
unfolding command_end known sized_command
returns-in_err-next c =
    let given-length : value_of (known c.args.s.now) "splice_command_length" ≡ c.twelve-splice_command_length.result = let s = c.args.s.now in
    sym (c.twelve-splice_command_length.ensures ∙ field_there s 92 12 (omega arith) (omega arith)) in
    let part_end : 8 * 14 + 8 * value_of (known c.args.s.now) "splice_command_length" ≡ 8 * (14 + c.twelve-splice_command_length.result) = omega (arith, given-length) in
    let s = c.args.s.now in
    let long : 20 ≤ length s = omega arith in
    rw c.from_residual.ensures
    (finish s None long
    (no_last (ne_eqb _ 4095 (λ q. c.if-splice_command_length-eq4095.false (sym (given-length) ∙ q)))
    (framed_off (part_end) (omega arith)
    (by_type private_command (bytes "command_byte") (get_or s 13 0) (given_type s (c.type_inv.s 13).fits)
    (c.in_err-next.ensures (known s))))))

pub returns-then-next-part : goal.returns-then-next-part
unfolding command_end known sized_command
returns-then-next-part c =
    let given-length : value_of (known c.args.s.now) "splice_command_length" ≡ c.twelve-splice_command_length.result = let s = c.args.s.now in
    sym (c.twelve-splice_command_length.ensures ∙ field_there s 92 12 (omega arith) (omega arith)) in
    let part_end : 8 * 14 + 8 * value_of (known c.args.s.now) "splice_command_length" ≡ 8 * (14 + c.twelve-splice_command_length.result) = omega (arith, given-length) in
    let s = c.args.s.now in
    let long : 20 ≤ length s = omega arith in
    finish s (Some (14 + c.twelve-splice_command_length.result)) long
    (no_last (ne_eqb _ 4095 (λ q. c.if-splice_command_length-eq4095.false (sym (given-length) ∙ q)))
    (framed_all (part_end) (omega arith)
    (by_type private_command (bytes "command_byte") (get_or s 13 0) (given_type s (c.type_inv.s 13).fits)
    (becomes (c.in_ok-next.ensures (known s)) (ap (λ (n : ℕ). ends (8 * n)) c.if-next-part.true)))
    (finished refl)))

pub returns-else-next-part : goal.returns-else-next-part
unfolding command_end known sized_command
returns-else-next-part c =
    let given-length : value_of (known c.args.s.now) "splice_command_length" ≡ c.twelve-splice_command_length.result = let s = c.args.s.now in
    sym (c.twelve-splice_command_length.ensures ∙ field_there s 92 12 (omega arith) (omega arith)) in
    let part_end : 8 * 14 + 8 * value_of (known c.args.s.now) "splice_command_length" ≡ 8 * (14 + c.twelve-splice_command_length.result) = omega (arith, given-length) in
    let s = c.args.s.now in
    let long : 20 ≤ length s = omega arith in
    finish s None long
    (no_last (ne_eqb _ 4095 (λ q. c.if-splice_command_length-eq4095.false (sym (given-length) ∙ q)))
    (framed_left (part_end) (omega arith)
    (by_type private_command (bytes "command_byte") (get_or s 13 0) (given_type s (c.type_inv.s 13).fits)
    (c.in_ok-next.ensures (known s)))
    (λ q. c.if-next-part.false (omega (arith, q)))))
