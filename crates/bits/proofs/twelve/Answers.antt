-- `bits::twelve` meets its contract: the last 12 of the 16 bits of two bytes, which lie within the bytes exactly when all 16 do.
-- Assumes nothing.
use mathlib.Core.Path.{◌≡◌, sym, ap, ◌∙◌}
use mathlib.Core.Logic.{⊎_elim}
use mathlib.Core.List.{List}
use Prim.Native.Nat.{ℕ, ◌+◌, ◌*◌, ◌%◌}
use native.Mathlib.Omega.{arith}
use lib.Dec.{lit≤}
use lib.ListN.{length}
use Rattle.bit_fields.specs.Bits.{bit, field_of}
use Rattle.bit_fields.proofs.Cases.{le_or_lt}
use Rattle.bit_fields.proofs.Num.{num_lt, num_split}
use Rattle.bit_fields.proofs.Bytes.{bit_lt}
use Rattle.bit_fields.proofs.Within.{past_end, field_out, field_there}
use Rattle.bits.proofs.twelve.Goals as goal

last_twelve : (s : List ℕ) (at : ℕ) → field_of s at 16 % 4096 ≡ field_of s (at + 4) 12
last_twelve s at =
    ⊎_elim
    (λ h.
    omega (
      arith,
      field_there s at 16 (lit≤ tt) h,
      field_there s (at + 4) 12 (lit≤ tt) (omega arith),
      num_split (bit s) at 4 12,
      num_lt (bit s) (bit_lt s) (at + 4) 12,
    ))
    (λ h.
    ap (λ (x : ℕ). x % 4096) (field_out s at 16 (past_end s at 16 (lit≤ tt) h))
    ∙ sym (field_out s (at + 4) 12 (past_end s (at + 4) 12 (lit≤ tt) (omega arith))))
    (le_or_lt (at + 16) (8 * length s))

pub returns : goal.returns
returns c = ap (λ (x : ℕ). x % 4096) c.pair.ensures ∙ last_twelve _ _
