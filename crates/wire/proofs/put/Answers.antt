-- `wire::put` meets its contract, by the room that there is. The loop's invariant: the first i numbers are written.
-- Assumes nothing.
use mathlib.Core.Path.{◌≡◌, refl, sym, ap, ◌∙◌}
use mathlib.Core.List.{List, ◌++◌}
use Prim.Native.Nat.{ℕ, suc, ◌+◌, ◌≤◌}
use native.Mathlib.Omega.{arith}
use lib.ListN.{length, get_or, set, take, drop, length-set}
use lib.Seq.{paste, paste-zero, paste-suc, take-length, sets-eq}
use Rattle.wire.proofs.Placed.{left_out, put_there}
use Rattle.wire.proofs.put.Goals as goal

pub returns-then-list-numbers : goal.returns-then-list-numbers
returns-then-list-numbers c = left_out _ _ _ (omega arith)

pub returns-then-list-numbers-2 : goal.returns-then-list-numbers-2
returns-then-list-numbers-2 c = left_out _ _ _ (omega arith)

pub loop-i-init : goal.loop-i-init
loop-i-init c =
    let a = c.args in
    (omega arith, refl, paste-zero a.list.now a.at a.numbers.now)

pub loop-i-preserved : goal.loop-i-preserved
loop-i-preserved c =
    let loop = c.loop-i in
    let a = c.args in
    let one : suc loop.i ≡ loop.i + 1 = omega arith in
    let n : ℕ = get_or a.numbers.now loop.i 0 in (
      omega arith,
      length-set loop.list (a.at + loop.i) n ∙ loop.invariant.1,
      ap (λ (m : List ℕ). set m (a.at + loop.i) n) loop.invariant.2
          ∙ paste-suc a.list.now a.at a.numbers.now loop.i 0 (omega arith) (omega arith)
          ∙ ap (paste a.list.now a.at a.numbers.now) one,
    )

pub shape_of-list : goal.shape_of-list
shape_of-list c = c.loop-i.invariant.1

pub returns : goal.returns
returns c =
    let loop = c.loop-i in
    let a = c.args in
    let all : loop.i ≡ length a.numbers.now = omega arith in
    let room : a.at + length a.numbers.now ≤ length a.list.now = omega arith in
    let rest : List ℕ = drop (a.at + length a.numbers.now) a.list.now in
    let there = put_there a.list.now a.at a.numbers.now room in (
      there.0,
      loop.invariant.2
          ∙ ap (paste a.list.now a.at a.numbers.now) all
          ∙ ap (λ (ns : List ℕ). take a.at a.list.now ++ ns ++ rest) (take-length a.numbers.now)
          ∙ sym (sets-eq a.numbers.now a.list.now a.at room)
          ∙ there.1,
    )
