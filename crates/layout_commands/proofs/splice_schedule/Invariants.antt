use Prim.Native.Nat.{ℕ}
use Rattle.grammar.specs.Meaning.{Env}
use Rattle.grammar.specs.Tables.{schedule_event}
use Rattle.fields.specs.Fields.{walk}
use Rattle.fields.specs.SoFar.{given, so_far, SameMemory}
use Rattle.fields.proofs.Counts.{Going}
use Rattle.layout_commands.proofs.splice_schedule.Given as goal

abbrev pub invariant-loop : goal.invariant-loop
invariant-loop l = record {
  going : (env : Env) (end : ℕ) → Going l.splice_count (walk schedule_event env (given l.numbers) end) (so_far l.initial.fields) l.counter (so_far l.fields);
  memory : SameMemory l.initial.fields l.fields;
}
