-- `bit_fields::gather` meets its contract: 64 bits split into two halves.
-- Assumes nothing.
use mathlib.Core.Path.{◌≡◌, sym, ap, ap₂, ◌∙◌}
use Prim.Native.Nat.{ℕ, ◌+◌, ◌*◌}
use native.Mathlib.Omega.{arith}
use Rattle.bit_fields.specs.Bits.{bit, num}
use Rattle.bit_fields.proofs.Num.{num_split}
use Rattle.bit_fields.proofs.gather.Goals as goal

pub returns-then-s-i-ge8 : goal.returns-then-s-i-ge8
returns-then-s-i-ge8 c =
    let a = c.args in
    let next : 8 * (a.i + 4) ≡ 8 * a.i + 32 = omega arith in
    ap₂ (λ (x y : ℕ). x * 4294967296 + y) c.half.ensures.0
    (c.half-then-s-i-ge8.ensures.0 ∙ ap (λ (k : ℕ). num (bit a.s.now) k 32) next)
    ∙ sym (num_split (bit a.s.now) (8 * a.i) 32 32)
