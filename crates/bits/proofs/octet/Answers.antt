-- `bits::octet` meets its contract: a byte that is there makes 8 bits, and outside the bytes the field is 0.
-- Assumes nothing.
use mathlib.Core.Path.{◌≡◌, sym, ◌∙◌}
use mathlib.Core.Logic.{⊎_elim}
use mathlib.Core.List.{List}
use Prim.Native.Nat.{ℕ, ◌*◌}
use native.Mathlib.Omega.{arith}
use lib.Dec.{lit≤}
use lib.ListN.{get_or, get_or-eq_default}
use Rattle.std.proofs.Common.{rules}
use Rattle.bit_fields.specs.Bits.{field_of}
use Rattle.bit_fields.proofs.Cases.{le_or_lt}
use Rattle.bit_fields.proofs.Bytes.{AreBytes, byte_field}
use Rattle.bit_fields.proofs.Within.{past_end, field_out, field_there}
use Rattle.bits.proofs.octet.Goals as goal

byte_or_none : (s : List ℕ) → AreBytes s → (i : ℕ) → get_or s i 0 ≡ field_of s (8 * i) 8
byte_or_none s bytes i =
    ⊎_elim
    (λ h. get_or-eq_default s 0 h ∙ sym (field_out s (8 * i) 8 (past_end s (8 * i) 8 (lit≤ tt) (omega arith))))
    (λ h. sym (byte_field s i (bytes i)) ∙ sym (field_there s (8 * i) 8 (lit≤ tt) (omega arith)))
    (le_or_lt _ _)

pub returns : goal.returns
returns c =
    let s = c.args.s.now in
    let i = c.args.i in
    let byte : c.unwrap_or.result ≡ get_or s i 0 = search rules in
    byte ∙ byte_or_none s (λ k. (c.type_inv.s k).fits) i
