-- `tally::last` meets its contract: what it has written is an answer line or nothing, all that is to be said of the line that is held.
-- Assumes nothing of its own.
use Rattle.std.proofs.Common.{◌≡◌, ◌≤◌, List, ℕ, length, take, Ok, sym, subst, arith, length-take-le}
use Rattle.lines.specs.Turns.{last_answer}
use Rattle.lines.proofs.Moving.{last_within}
use Rattle.tally.specs.Loop.{Answers}
use Rattle.tally.proofs.Saying.{last_writes}
use Rattle.tally.proofs.last.Goals as goal

pub slice_bounds-say-end : goal.slice_bounds-say-end
slice_bounds-say-end g c =
    let a = c.args in
    let is : last_answer a.held a.carry.now a.out.now ≡ Ok c.in_ok-n.n = grind arith in
    omega (arith, last_within a.held a.carry.now a.out.now _ is, c.last_line.auto.out)

pub slice_bounds-say-end-2 : goal.slice_bounds-say-end-2
slice_bounds-say-end-2 g c =
    let a = c.args in
    let is : last_answer a.held a.carry.now a.out.now ≡ Ok c.in_ok-n.n = grind arith in
    let inside : c.in_ok-n.n ≤ length c.last_line.new.out = omega (arith, last_within a.held a.carry.now a.out.now _ is, c.last_line.auto.out) in
    sym (length-take-le _ _ inside)

pub say-requires : goal.say-requires
say-requires g c =
    let a = c.args in
    let is : last_answer a.held a.carry.now a.out.now ≡ Ok c.in_ok-n.n = grind arith in
    subst (λ (out : List ℕ). Answers (take c.in_ok-n.n out)) (sym c.last_line.ensures.1) (last_writes a.held a.carry.now a.out.now _ is).1

pub returns : goal.returns
returns g c =
    let a = c.args in
    let is : last_answer a.held a.carry.now a.out.now ≡ Ok c.in_ok-n.n = grind arith in
    let inside : c.in_ok-n.n ≤ length c.last_line.new.out = omega (arith, last_within a.held a.carry.now a.out.now _ is, c.last_line.auto.out) in
    (rw (← (last_writes a.held a.carry.now a.out.now _ is).0, ← length-take-le _ _ inside) c.say.ensures, c.last_line.ensures.1)
