-- `crc::few` meets its contract. The loop's invariant: x is the number of the eight bytes from i on.
-- Assumes nothing.
use mathlib.Core.Path.{◌≡◌, sym, ap, ◌∙◌}
use Prim.Native.Nat.{ℕ, ◌+◌, ◌-◌, ◌*◌, ◌<◌}
use native.Mathlib.Omega.{arith}
use Rattle.bits.specs.Bits.{bit, num}
use Rattle.crc.proofs.Gathered.{none, room, before}
use Rattle.crc.proofs.few.Goals as goal

pub loop-i-init : goal.loop-i-init
loop-i-init c = none _

pub overflow_add-x : goal.overflow_add-x
overflow_add-x c =
    let l = c.loop-i in
    let is_byte : c.from.result < 256 = omega (arith, (c.type_inv.s (l.i - 1)).fits) in
    record { fits = room _ l.i l.x _ l.invariant is_byte }

pub loop-i-preserved : goal.loop-i-preserved
loop-i-preserved c =
    let l = c.loop-i in
    let s = c.args.s.now in
    let back : l.i - 1 + 1 ≡ l.i = omega arith in
    let is_byte : c.from.result < 256 = omega (arith, (c.type_inv.s (l.i - 1)).fits) in
    before s (l.i - 1) l.x _ (l.invariant ∙ ap (λ (k : ℕ). num (bit s) (8 * k) 64) (sym back)) c.from.ensures is_byte

pub returns : goal.returns
returns c =
    let l = c.loop-i in
    let s = c.args.s.now in
    let all : l.i ≡ 0 = omega arith in
    l.invariant ∙ ap (λ (k : ℕ). num (bit s) (8 * k) 64) all
