use mathlib.Core.Path.{◌≡◌}
use Prim.Native.Nat.{◌-◌, ◌*◌, ◌≤◌}
use Rattle.bits.specs.Bits.{bit}
use Rattle.grammar.specs.Meaning.{Env, run}
use Rattle.grammar.specs.Tables.{splice_descriptor}
use Rattle.grammar.proofs.Run.{swept}
use Rattle.section.proofs.fills.Given as goal

abbrev pub invariant-loop-next : goal.invariant-loop-next
invariant-loop-next l =
    (l.cursor.end ≡ l.end)
    × (l.cursor.at ≤ l.end)
    × ((env : Env) → swept (run splice_descriptor env (bit l.s) (8 * l.end)) (8 * l.end) (8 * l.at) ≡ swept (run splice_descriptor env (bit l.s) (8 * l.end)) (8 * l.end) (8 * l.cursor.at))

abbrev pub decreases-loop-next : goal.decreases-loop-next
decreases-loop-next l = l.end - l.cursor.at
