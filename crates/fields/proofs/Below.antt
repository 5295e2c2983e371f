-- The number of a field is below 2 to its width.
-- Assumes nothing.
use mathlib.Core.Path.{◌≡◌}
use mathlib.Core.List.{List}
use mathlib.Core.Logic.{⊎_elim}
use Prim.Native.Nat.{ℕ, ◌^◌, ◌<◌}
use lib.Dec.{eqb}
use lib.ListN.{length, get_or}
use lib.Pow.{pow_pos}
use borrow.Author.Tests.{lt-ltb, le-ltb}
use Rattle.bits.proofs.Cases.{le_or_lt, by_cases}
use Rattle.bits.proofs.Fields.{field_lt}
use Rattle.fields.specs.Fields.{held, source}

held_lt : (x w : ℕ) → held x w < 2 ^ w
unfolding held
held_lt x w = ⊎_elim (λ h. rw (le-ltb x (2 ^ w) h) (pow_pos w)) (λ h. rw (lt-ltb x (2 ^ w) h) h) (le_or_lt (2 ^ w) x)

source_lt : (s x : List ℕ) (k i w : ℕ) → source s x k i w < 2 ^ w
unfolding source
source_lt s x k i w =
    ⊎_elim (λ e. rw e (field_lt s k w)) (λ e. rw e (held_lt (get_or x i 0) w)) (by_cases (eqb (length x) 0))

pub below : (s x : List ℕ) (k i w : ℕ) {r : ℕ} → r ≡ source s x k i w → r < 2 ^ w
below s x k i w e = rw e (source_lt s x k i w)
