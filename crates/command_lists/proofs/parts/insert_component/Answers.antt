-- `command_lists::parts::insert_component` meets its contract.
-- Assumes nothing.
use mathlib.Core.Path.{◌≡◌, ◌∙◌}
use mathlib.Core.Bool.{cond}
use Prim.Native.Nat.{◌+◌}
use native.Mathlib.Omega.{arith}
use Rattle.command_reading.specs.declared.answers.SpliceTime.{SpliceTime}
use Rattle.command_reading.specs.Places.{time_at}
use Rattle.command_reading.proofs.Times.{time_from}
use Rattle.command_lists.specs.Places.{insert_component_at}
use Rattle.command_lists.proofs.parts.insert_component.Goals as goal
use Rattle.command_lists.proofs.parts.insert_component.Goals.{then-immediate, else-immediate}

pub returns : goal.returns
unfolding insert_component_at
returns c =
    let a = c.args in
    let time : c.if-immediate.time ≡ cond a.immediate SpliceTime.Immediate (time_at a.s.now (a.at + 1)) =
    elim c.if-immediate.branch [
      | then-immediate w ↦ w.time-is ∙ rw w.if-immediate.true
      | else-immediate w ↦ w.time-is ∙ w.splice_time-time.ensures ∙ rw w.if-immediate.false (time_from a.s.now (a.at + 1) (omega arith))
    ] in
    λ i. record { component_tag = c.octet.ensures i; time = time i }
