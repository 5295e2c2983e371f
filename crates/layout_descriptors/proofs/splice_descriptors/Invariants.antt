use mathlib.Core.Path.{◌≡◌}
use Prim.Native.Nat.{ℕ, ◌-◌}
use Rattle.grammar.specs.Meaning.{Env}
use Rattle.grammar.specs.Tables.{splice_descriptor}
use Rattle.fields.specs.declared.Fields.{Fields}
use Rattle.fields.specs.Fields.{Source, Plan, sweep_on, walk}
use Rattle.fields.specs.SoFar.{given, so_far, SameMemory}
use Rattle.layout_descriptors.proofs.splice_descriptors.Given as goal

-- the descriptors from the fields so far on
abbrev pub swept : Source → ℕ → Env → Fields → Plan
swept v end env f = sweep_on (end - f.at) (walk splice_descriptor env v end) end (so_far f)

abbrev pub invariant-loop-fields : goal.invariant-loop-fields
invariant-loop-fields l = record {
  all : (env : Env) → swept (given l.numbers) l.end env l.initial.fields ≡ swept (given l.numbers) l.end env l.fields;
  memory : SameMemory l.initial.fields l.fields;
}

abbrev pub decreases-loop-fields : goal.decreases-loop-fields
decreases-loop-fields l = l.end - l.fields.at
