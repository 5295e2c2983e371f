use Rattle.fields.specs.Fields.{laid}
use Rattle.fields.specs.SoFar.{so_far, SameMemory}
use Rattle.fields.proofs.Counts.{Going}
use Rattle.fields.proofs.Fields.groups.Given as goal

abbrev pub invariant-loop : goal.invariant-loop
invariant-loop l = record {
  plan : Going l.count (laid l.more) (so_far l.initial.self) l.counter (so_far l.self);
  memory : SameMemory l.initial.self l.self;
}
