-- `tally::one` meets its contract: what it has written is answer lines, whole ones, as many bytes as the turn says.
-- Assumes nothing of its own.
use Rattle.std.proofs.Common.{◌≡◌, ◌≤◌, List, ℕ, length, take, sym, ap, ◌∙◌, subst, arith, length-take-le, Ok}
use Rattle.lines.specs.Turns.{turn_answer}
use Rattle.lines.proofs.Moving.{moved_within}
use Rattle.tally.specs.Loop.{Answers}
use Rattle.tally.proofs.Saying.{turn_writes}
use Rattle.tally.proofs.one.Goals as goal

pub slice_bounds-say-end : goal.slice_bounds-say-end
slice_bounds-say-end g c =
    let a = c.args in
    let is : turn_answer a.held a.input.now a.carry.now a.out.now ≡ Ok c.in_ok-turn.turn = grind arith in
    omega (arith, (moved_within a.held a.input.now a.carry.now a.out.now _ is).1, c.turn.auto.out)

pub slice_bounds-say-end-2 : goal.slice_bounds-say-end-2
slice_bounds-say-end-2 g c =
    let a = c.args in
    let is : turn_answer a.held a.input.now a.carry.now a.out.now ≡ Ok c.in_ok-turn.turn = grind arith in
    let inside : c.in_ok-turn.turn.written ≤ length c.turn.new.out = omega (arith, (moved_within a.held a.input.now a.carry.now a.out.now _ is).1, c.turn.auto.out) in
    sym (length-take-le _ _ inside)

pub say-requires : goal.say-requires
say-requires g c =
    let a = c.args in
    let is : turn_answer a.held a.input.now a.carry.now a.out.now ≡ Ok c.in_ok-turn.turn = grind arith in
    subst (λ (out : List ℕ). Answers (take c.in_ok-turn.turn.written out)) (sym c.turn.ensures.2) (turn_writes a.held a.input.now a.carry.now a.out.now _ is)

pub returns : goal.returns
returns g c =
    let a = c.args in
    let turn = c.in_ok-turn.turn in
    let is : turn_answer a.held a.input.now a.carry.now a.out.now ≡ Ok turn = grind arith in
    let inside : turn.written ≤ length c.turn.new.out = omega (arith, (moved_within a.held a.input.now a.carry.now a.out.now _ is).1, c.turn.auto.out) in
    let all : c.in_ok-written.written ≡ length (take turn.written c.turn.new.out) = c.in_ok-written.ensures in
    (is ∙ ap (λ (n : ℕ). Ok (record { held = turn.held; taken = turn.taken; written = n })) (sym (all ∙ length-take-le _ _ inside)), c.turn.ensures.1)
