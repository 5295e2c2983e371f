-- `bit_fields::last` meets its contract. The loop's invariant: the word is the number of the bits passed.
-- Assumes nothing.
use mathlib.Core.Path.{◌≡◌, sym, ap, ap₂, ◌∙◌}
use Prim.Native.Nat.{ℕ, ◌*◌, ◌+◌}
use native.Mathlib.Omega.{arith}
use Rattle.bit_fields.specs.Bits.{bit, num}
use Rattle.bit_fields.proofs.Num.{num_zero}
use Rattle.bit_fields.proofs.Bytes.{num_byte, num_room}
use Rattle.bit_fields.proofs.last.Goals as goal

pub loop-k-init : goal.loop-k-init
loop-k-init c = (omega arith, sym (num_zero _ _))

pub overflow_mul-word : goal.overflow_mul-word
overflow_mul-word c =
    let a = c.args in
    omega (arith, num_room a.s.now (8 * a.i) c.loop-k.k (omega arith))

pub overflow_add-word : goal.overflow_add-word
overflow_add-word c =
    let a = c.args in
    omega (arith, num_room a.s.now (8 * a.i) c.loop-k.k (omega arith))

pub loop-k-preserved : goal.loop-k-preserved
loop-k-preserved c =
    let a = c.args in
    let l = c.loop-k in
    let more : 8 * l.k + 8 ≡ 8 * (l.k + 1) = omega arith in (
      omega arith,
      ap₂ (λ (x y : ℕ). x * 256 + y) l.invariant.1 c.byte.ensures.0
          ∙ sym (num_byte a.s.now a.i l.k (rw (← c.byte.ensures.0) c.byte.ensures.1))
          ∙ ap (num (bit a.s.now) (8 * a.i)) more,
    )

pub returns : goal.returns
returns c =
    let all : 8 * c.loop-k.k ≡ 64 = omega arith in
    c.loop-k.invariant.1 ∙ ap (num (bit c.args.s.now) (8 * c.args.i)) all
