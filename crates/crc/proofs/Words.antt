-- What a turn takes in: the register after four bytes more, and after eight.
-- Assumes nothing.
use mathlib.Core.Path.{◌≡◌, refl, sym, ap, ◌∙◌}
use mathlib.Core.List.{List}
use Prim.Native.Nat.{ℕ, ◌+◌, ◌*◌, ◌^◌, ◌<◌}
use native.Mathlib.Nat.{add_assoc, mul-one}
use native.Mathlib.Omega.{arith}
use lib.ListN.{get_or}
use lib.Bits.{bit_xor, xor_lt}
use Rattle.bits.specs.Bits.{bit, num}
use Rattle.bits.proofs.Num.{num_lt}
use Rattle.bits.proofs.Bytes.{AreBytes, bit_lt, word, num_word}
use Rattle.crc_steps.specs.Steps.{zeros}
use Rattle.crc_steps.proofs.Steps.{zeros_lt, zeros_linear}
use Rattle.crc.specs.Crc.{register}
use Rattle.crc.proofs.Register.{register_lt, register_more}
use Rattle.crc.proofs.Ahead.{zeros_add}

-- the second word of eight bytes
pub second_word : (s : List ℕ) → AreBytes s → (i : ℕ)
    → num (bit s) (8 * (i + 4)) 32 ≡ word (get_or s (i + 4) 0) (get_or s (i + 5) 0) (get_or s (i + 6) 0) (get_or s (i + 7) 0)
second_word s h i = rw (add_assoc i 4 1, add_assoc i 4 2, add_assoc i 4 3) at (num_word s h (i + 4))

pub four_turn : (s : List ℕ) (i : ℕ)
    → register (bit s) (8 * (i + 4)) ≡ zeros 32 (bit_xor (register (bit s) (8 * i)) (num (bit s) (8 * i) 32))
four_turn s i =
    let e : 8 * (i + 4) ≡ 8 * i + 32 = omega arith in
    ap (register (bit s)) e ∙ register_more (bit s) (bit_lt s) (8 * i) 32 0 refl
    ∙ ap (λ (x : ℕ). zeros 32 (bit_xor (register (bit s) (8 * i)) x)) (mul-one (num (bit s) (8 * i) 32))

pub eight_turn : (s : List ℕ) (i : ℕ)
    → register (bit s) (8 * (i + 8))
    ≡ bit_xor (zeros 64 (bit_xor (register (bit s) (8 * i)) (num (bit s) (8 * i) 32))) (zeros 32 (num (bit s) (8 * (i + 4)) 32))
eight_turn s i =
    let e : i + 8 ≡ i + 4 + 4 = omega arith in
    let r = register (bit s) (8 * i) in
    let a = num (bit s) (8 * i) 32 in
    let b = num (bit s) (8 * (i + 4)) 32 in
    let lt : (k : ℕ) → num (bit s) k 32 < 2 ^ 32 = λ k. num_lt (bit s) (bit_lt s) k 32 in
    let x_lt : bit_xor r a < 2 ^ 32 = xor_lt 32 r a (register_lt (bit s) (bit_lt s) (8 * i)) (lt (8 * i)) in
    ap (λ (n : ℕ). register (bit s) (8 * n)) e ∙ four_turn s (i + 4)
    ∙ ap (λ (x : ℕ). zeros 32 (bit_xor x b)) (four_turn s i)
    ∙ zeros_linear 32 (zeros 32 (bit_xor r a)) b (zeros_lt 32 (bit_xor r a) x_lt) (lt (8 * (i + 4)))
    ∙ ap (λ (x : ℕ). bit_xor x (zeros 32 b)) (sym (zeros_add 32 32 (bit_xor r a)))
