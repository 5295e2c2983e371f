use mathlib.Core.Path.{◌≡◌}
use Rattle.text.specs.Groups.{plain, worth}
use Rattle.text.proofs.decode.group.Given as goal

abbrev pub invariant-loop-c : goal.invariant-loop-c
invariant-loop-c l = l.v ≡ worth (plain l.text l.n) l.at l.c-index
