use mathlib.Core.Path.{◌≡◌}
use Prim.Native.Nat.{ℕ}
use Rattle.grammar.specs.Meaning.{Env, value_of}
use Rattle.grammar.specs.Tables.{insert_component}
use Rattle.fields.specs.Fields.{walk}
use Rattle.fields.specs.SoFar.{given, so_far, SameMemory}
use Rattle.fields.proofs.Counts.{Going}
use Rattle.layout_commands.proofs.insert_components.Given as goal

abbrev pub invariant-loop : goal.invariant-loop
invariant-loop l = record {
  going : (env : Env) (end : ℕ) → value_of env "splice_immediate_flag" ≡ l.splice_immediate_flag
      → Going l.component_count (walk insert_component env (given l.numbers) end) (so_far l.initial.fields) l.counter (so_far l.fields);
  memory : SameMemory l.initial.fields l.fields;
}
