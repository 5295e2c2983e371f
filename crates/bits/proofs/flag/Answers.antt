-- `bits::flag` meets its contract: a bit that is there stands in its byte, and outside the bytes the field is 0.
-- Assumes nothing.
use mathlib.Core.Path.{◌≡◌, sym, ap, ◌∙◌}
use mathlib.Core.Logic.{⊎_elim}
use mathlib.Core.List.{List}
use Prim.Native.Nat.{ℕ, ◌-◌, ◌/◌, ◌%◌, ◌^◌}
use native.Mathlib.Omega.{arith}
use lib.Dec.{eqb, lit≤}
use lib.ListN.{get_or}
use Rattle.std.proofs.Common.{rules}
use Rattle.bit_fields.specs.Bits.{bit, field_of}
use Rattle.bit_fields.proofs.Cases.{le_or_lt}
use Rattle.bit_fields.proofs.Num.{num_one}
use Rattle.bit_fields.proofs.Bytes.{bit_past}
use Rattle.bit_fields.proofs.Within.{past_end, field_out, field_there}
use Rattle.bits.proofs.flag.Goals as goal

-- past the end a bit and a field are 0
bit_or_none : (s : List ℕ) (at : ℕ) → get_or s (at / 8) 0 / 2 ^ (7 - at % 8) % 2 ≡ field_of s at 1
unfolding bit
bit_or_none s at =
    ⊎_elim (λ h. bit_past s at h ∙ sym (field_out s at 1 (past_end s at 1 (lit≤ tt) (omega arith))))
    (λ h. sym (field_there s at 1 (lit≤ tt) (omega arith) ∙ num_one (bit s) at))
    (le_or_lt _ _)

pub returns : goal.returns
returns c =
    let s = c.args.s.now in
    let at = c.args.at in
    let here : c.is_some_and.result ≡ eqb (get_or s (at / 8) 0 / 2 ^ (7 - at % 8) % 2) 1 = search rules in
    here ∙ ap (λ (x : ℕ). eqb x 1) (bit_or_none s at)
