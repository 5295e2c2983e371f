-- Where a section has no command, there is its type alone, and nothing is counted.
-- Assumes nothing.
use mathlib.Core.Path.{◌≡◌, refl, ap}
use mathlib.Core.Bool.{Bool, true, false, ◌&&◌}
use mathlib.Core.List.{List, []}
use Prim.Native.Nat.{ℕ}
use native.Mathlib.Omega.{arith}
use lib.Dec.{ltb}
use borrow.Author.Tests.{le-ltb}
use Rattle.grammar.specs.Meaning.{Reading, broken, reached, breach, end_of}
use Rattle.grammar.specs.Traces.{trace_of}
use Rattle.command_reading.specs.Command.{command_reading, typed, command_trace}

pub none_of : (b : Bool) (n : ℕ) → (b && ltb n 0) ≡ false
none_of true n = le-ltb n 0 (omega arith)
none_of false n = refl

no_rows : (r : Reading) → end_of r ≡ breach 0 → trace_of r ≡ []
unfolding end_of trace_of
no_rows (broken n) e = refl
no_rows (reached k t) e = let z : ◌≡◌ {A = ℕ} 0 1 = cc in absurd (omega arith)

pub type_alone : (s : List ℕ) → end_of (command_reading s) ≡ breach 0 → command_trace s ≡ typed s []
unfolding command_trace
type_alone s e = ap (typed s) (no_rows (command_reading s) e)
