use mathlib.Core.Path.{◌≡◌}
use Prim.Native.Nat.{◌≤◌}
use lib.ListN.{length}
use Rattle.spelling.proofs.Digits.{Writing}
use Rattle.spelling.proofs.characters.decimal.Given as goal

abbrev pub invariant-loop-i : goal.invariant-loop-i
invariant-loop-i l =
    (l.count ≤ 20) × (length l.characters ≡ length l.initial.characters) × Writing l.initial.characters l.at l.count l.n l.characters l.i l.rest
