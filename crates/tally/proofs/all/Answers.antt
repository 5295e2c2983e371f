-- `tally::all` meets its contract: each turn takes something of the input, until all of it is taken. The invariant: so much is taken, in
-- turns.
-- Assumes nothing of its own.
use Rattle.std.proofs.Common.{◌≡◌, ◌+◌, ◌-◌, ◌<◌, ◌≤◌, List, [], ◌++◌, ℕ, length, take, drop, refl, sym, ap, ◌∙◌, subst, arith, length-drop, Ok}
use Rattle.lines.specs.declared.answers.Held.{Held}
use Rattle.lines.specs.declared.answers.Turn.{Turn}
use Rattle.lines.specs.Turns.{turn_answer, turn_carry, turn_out}
use Rattle.lines.proofs.Turning.{tail_is}
use Rattle.lines.proofs.Moving.{moved_within}
use Rattle.tally.specs.Loop.{Taken}
use Rattle.tally.specs.Loop as says
use Rattle.tally.proofs.all.Goals as goal

module _ (held : Held) (input carry out : List ℕ) (at : ℕ) (next : Turn)
    (stepped : turn_answer held (take (length input - at) (drop at input)) carry out ≡ Ok next) where
  -- the turn over the rest of the input, what it answered
  turned : turn_answer held (drop at input) carry out ≡ Ok next
  turned = ap (λ (rest : List ℕ). turn_answer held rest carry out) (sym (tail_is at input)) ∙ stepped

  -- what it took lies inside the input, and is something
  went : at < length input → 23 ≤ length out → (at + next.taken ≤ length input) × (0 < next.taken)
  went left room =
      let moved = moved_within held (drop at input) carry out next turned in
      let rest = length-drop at input in
      (omega (arith, moved.0, rest, left), moved.2 room (omega (arith, rest, left)))

pub loop-at-init : goal.loop-at-init
loop-at-init g c = (omega arith, c.requires.0, c.requires.1, refl, refl, [], says.none)

pub overflow_add-at : goal.overflow_add-at
overflow_add-at g c =
    let l = c.loop-at in
    let gone = went l.held c.args.input.now l.carry l.out l.at c.in_ok-turn.turn c.in_ok-turn.ensures.0 c.loop-at-test.true l.invariant.2 in
    omega (arith, gone.0)

pub loop-at-smaller : goal.loop-at-smaller
loop-at-smaller g c =
    let l = c.loop-at in
    let gone = went l.held c.args.input.now l.carry l.out l.at c.in_ok-turn.turn c.in_ok-turn.ensures.0 c.loop-at-test.true l.invariant.2 in
    omega (arith, gone.0, gone.1)

pub loop-at-preserved : goal.loop-at-preserved
loop-at-preserved g c =
    let a = c.args in
    let l = c.loop-at in
    let one = c.one in
    let next = c.in_ok-turn.turn in
    let said = c.in_ok-turn.ensures in
    let input : List ℕ = a.input.now in
    let gone = went l.held input l.carry l.out l.at next said.0 c.loop-at-test.true l.invariant.2 in
    let answers : List ℕ = l.invariant.5 ++ take next.written (turn_out l.held (drop l.at input) l.carry l.out) in (
      gone.0,
      omega (arith, one.auto.carry, l.invariant.1),
      omega (arith, one.auto.out, l.invariant.2),
      one.auto.carry ∙ l.invariant.3,
      one.auto.out ∙ l.invariant.4,
      answers,
      subst (λ (x : List ℕ). Taken a.held a.carry.now input (l.at + next.taken) next.held x answers)
          (ap (λ (rest : List ℕ). turn_carry l.held rest l.carry l.out) (sym (tail_is l.at input)) ∙ sym said.1)
          (says.turn l.invariant.6 l.out next (turned l.held input l.carry l.out l.at next said.0)),
    )
