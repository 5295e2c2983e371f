-- `crc::turns` meets its contract. The loop's invariant: what the two words come to, with what is left beside it, is the register
-- after the bytes passed, and whole turns are left. The measure is how many bytes are left. Assumes nothing.
use mathlib.Core.Path.{◌≡◌, sym, ap, ap₂, ◌∙◌}
use Prim.Native.Nat.{ℕ, ◌+◌, ◌-◌, ◌*◌, ◌/◌, ◌%◌, ◌^◌}
use native.Mathlib.Omega.{arith}
use lib.ListN.{length}
use lib.Bits.{bit_xor, xor_comm, xor_zero_r}
use Rattle.bits.specs.Bits.{bit, num}
use Rattle.bits.proofs.Bytes.{AreBytes, bit_lt, num_word}
use Rattle.crc_steps.specs.Steps.{zeros}
use Rattle.crc_steps.proofs.Xor.{xor_assoc}
use Rattle.crc.specs.Crc.{register, crc32}
use Rattle.crc.proofs.Begun.{both, start, begun, cut}
use Rattle.crc.proofs.Words.{second_word, eight_turn}
use Rattle.crc.proofs.turns.Goals as goal

pub loop-i-init : goal.loop-i-init
loop-i-init c =
    let s = c.args.s.now in
    let m = (length s - 1) % 8 in
    let words =
    ap (λ (y : ℕ). bit_xor (y / 2 ^ (56 - 8 * m)) (start (8 * (m + 1)) / 2 ^ 32)) c.requires.1
    ∙ ap (λ (y : ℕ). bit_xor y (start (8 * (m + 1)) / 2 ^ 32)) (cut (bit s) (bit_lt s) m (omega arith)) in (
      omega arith,
      omega arith,
      ap₂ bit_xor
          (ap₂ (λ (x y : ℕ). bit_xor (zeros 64 x) (zeros 32 y)) c.high-a.ensures c.low-b.ensures
          ∙ ap both (c.first-x.ensures ∙ words))
          c.spill-more.ensures
          ∙ begun (bit s) (bit_lt s) (8 * (m + 1)) (omega arith),
    )

pub returns-then-s-i : goal.returns-then-s-i
unfolding crc32
returns-then-s-i c =
    let s = c.args.s.now in
    let all : c.loop-i.i ≡ length s = omega arith in
    ap (λ (x : ℕ). bit_xor x c.loop-i.more) c.turn-r.ensures ∙ c.loop-i.invariant.2
    ∙ ap (λ (n : ℕ). register (bit s) (8 * n)) all

pub loop-i-preserved : goal.loop-i-preserved
loop-i-preserved c =
    let s = c.args.s.now in
    let i = c.loop-i.i in
    let more = c.loop-i.more in
    let r = c.turn-r.result in
    let w = c.word.result in
    let bytes : AreBytes s = λ k. (c.type_inv.s k).fits in
    let turned : bit_xor r (bit_xor w more) ≡ bit_xor (register (bit s) (8 * i)) (num (bit s) (8 * i) 32) =
    ap (bit_xor r) (xor_comm w more) ∙ sym (xor_assoc r more w)
    ∙ ap₂ bit_xor
    (ap (λ (x : ℕ). bit_xor x more) c.turn-r.ensures ∙ c.loop-i.invariant.2)
    (c.word.ensures ∙ sym (num_word s bytes i)) in (
      omega arith,
      omega arith,
      xor_zero_r _
          ∙ ap₂ (λ (x y : ℕ). bit_xor (zeros 64 x) (zeros 32 y)) turned (c.word-b.ensures ∙ sym (second_word s bytes i))
          ∙ sym (eight_turn s i),
    )
