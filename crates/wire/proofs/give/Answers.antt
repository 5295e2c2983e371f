-- `wire::give` meets its contract, by ROOM.
-- Assumes nothing.
use mathlib.Core.Path.{◌≡◌, ap, ◌∙◌}
use mathlib.Core.List.{List, ◌++◌}
use Prim.Native.Nat.{ℕ, ◌+◌, ◌≤◌}
use native.Mathlib.Omega.{arith}
use lib.ListN.{length, drop}
use lib.Seq.{sets-eq}
use Rattle.std.specs.Prelude.{Ok}
use Rattle.wire.proofs.Placed.{stands}
use Rattle.wire.proofs.Given.{no_room, written}
use Rattle.wire.proofs.give.Goals as goal

pub returns-then-out-numbers : goal.returns-then-out-numbers
returns-then-out-numbers c = no_room _ _ (omega arith)

pub returns : goal.returns
returns c =
    let a = c.args in
    let put = c.put in
    let ns : List ℕ = a.numbers.now in
    let all : 0 + length ns ≡ length ns = omega arith in
    let room : length ns ≤ length a.out.now = omega arith in
    let there = stands (omega arith) put.ensures in
    let given = written ns a.out.now room in (
      ap Ok (there.place ∙ all) ∙ given.0,
      there.list ∙ sets-eq ns a.out.now 0 (omega arith) ∙ ap (λ (n : ℕ). ns ++ drop n a.out.now) all ∙ given.1,
    )
