use mathlib.Core.Path.{◌≡◌}
use Prim.Native.Nat.{ℕ, ◌-◌, ◌*◌, ◌≤◌}
use Rattle.std.specs.Prelude.{Option}
use Rattle.bits.specs.Bits.{bit}
use Rattle.grammar.specs.Syntax.{Prog}
use Rattle.grammar.specs.Meaning.{Env, run}
use Rattle.grammar.specs.declared.Part.{Part}
use Rattle.grammar.proofs.Ending.{Ends}
use Rattle.grammar.proofs.Run.{times}
use Rattle.commands.proofs.parts.Given as goal

abbrev pub invariant-loop : goal.invariant-loop
invariant-loop g l =
    (l.next ≤ l.end)
    × ((p : Prog) (env : Env) → ((one : Part) (o : Option ℕ) → goal.F-post g l.table one o → Ends p env one o)
    → times l.count (run p env (bit l.s) (8 * l.end)) (8 * l.at) ≡ times (l.count - l.counter) (run p env (bit l.s) (8 * l.end)) (8 * l.next))
