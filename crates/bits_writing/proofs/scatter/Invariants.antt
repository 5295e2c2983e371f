use Rattle.bits_writing.proofs.Stored.{Stored}
use Rattle.bits_writing.proofs.scatter.Given as goal

abbrev pub invariant-loop-k : goal.invariant-loop-k
invariant-loop-k l = Stored l.initial.s l.i l.byte-items l.k l.s
