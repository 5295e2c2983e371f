use mathlib.Core.Path.{◌≡◌}
use mathlib.Core.List.{[], ◌∷◌}
use Rattle.crc.proofs.Ahead.{come}
use Rattle.crc.proofs.turn.Given as goal

abbrev pub invariant-loop-w : goal.invariant-loop-w
invariant-loop-w l = l.y ≡ come (l.a ∷ l.b ∷ []) l.w-index
