-- The register's step goes through xor, and so do steps one after another.
-- Assumes nothing.
use mathlib.Core.Path.{◌≡◌, refl, sym, ap, ap₂, ◌∙◌}
use mathlib.Core.Bool.{cond}
use Prim.Native.Nat.{ℕ, zero, suc, ◌*◌, ◌/◌, ◌%◌, ◌^◌, ◌<◌}
use native.Mathlib.Omega.{arith}
use lib.Dec.{eqb, lit<}
use lib.Bits.{bit_xor, xor_zero_r, xor_mod, xor_shr, xor_lt}
use Rattle.crc_steps.specs.Steps.{step, zeros}
use Rattle.crc_steps.proofs.Xor.{two_bits, xor_shl, xor_swap}

abbrev pub polynomial : ℕ
polynomial = 0x04C11DB7

-- ---- one step

choice : (x a b : ℕ) → a < 2 → b < 2 → cond (eqb a b) x (bit_xor x polynomial) ≡ bit_xor x (bit_xor a b * polynomial)
choice x =
    two_bits (λ (a b : ℕ). cond (eqb a b) x (bit_xor x polynomial) ≡ bit_xor x (bit_xor a b * polynomial))
    (sym (xor_zero_r x)) refl refl (sym (xor_zero_r x))

-- the step without a test
pub step_xor : (r b : ℕ) → r < 2 ^ 32 → b < 2
    → step r b ≡ bit_xor (r * 2 % 2 ^ 32) (bit_xor (r / 2 ^ 31) b * polynomial)
unfolding step
step_xor r b hr hb = choice (r * 2 % 2 ^ 32) (r / 2 ^ 31) b (omega arith) hb

-- what leaves at the top, and what moves up, of an xor
top_xor : (x y : ℕ) → bit_xor x y / 2 ^ 31 ≡ bit_xor (x / 2 ^ 31) (y / 2 ^ 31)
top_xor x y = xor_shr x y 31

up_xor : (x y : ℕ) → bit_xor x y * 2 % 2 ^ 32 ≡ bit_xor (x * 2 % 2 ^ 32) (y * 2 % 2 ^ 32)
up_xor x y = ap (λ (z : ℕ). z % 2 ^ 32) (sym (xor_shl 1 x y)) ∙ xor_mod (x * 2) (y * 2) 32

-- a factor of 0 or 1 goes into an xor
bits_xor : (a b : ℕ) → a < 2 → b < 2 → bit_xor a b * polynomial ≡ bit_xor (a * polynomial) (b * polynomial)
bits_xor =
    two_bits (λ (a b : ℕ). bit_xor a b * polynomial ≡ bit_xor (a * polynomial) (b * polynomial)) refl refl refl refl

pub step_lt : (r b : ℕ) → r < 2 ^ 32 → b < 2 → step r b < 2 ^ 32
step_lt r b hr hb =
    let a : bit_xor (r / 2 ^ 31) b < 2 = xor_lt 1 (r / 2 ^ 31) b (omega arith) hb in
    rw (step_xor r b hr hb) (xor_lt 32 (r * 2 % 2 ^ 32) (bit_xor (r / 2 ^ 31) b * polynomial) (omega arith) (omega arith))

pub step_zero : (x : ℕ) → x < 2 ^ 32 → step x 0 ≡ bit_xor (x * 2 % 2 ^ 32) (x / 2 ^ 31 * polynomial)
step_zero x h = rw (step_xor x 0 h (lit< tt), xor_zero_r (x / 2 ^ 31))

-- the bit that comes may be put into the register's top place beforehand
pub step_bit : (r b : ℕ) → r < 2 ^ 32 → b < 2 → step r b ≡ step (bit_xor r (b * 2 ^ 31)) 0
step_bit r b hr hb =
    step_xor r b hr hb
    ∙ ap₂ (λ (u t : ℕ). bit_xor u (t * polynomial))
    (sym (up_xor r (b * 2 ^ 31) ∙ ap (bit_xor (r * 2 % 2 ^ 32)) gone ∙ xor_zero_r (r * 2 % 2 ^ 32)))
    (ap (bit_xor (r / 2 ^ 31)) back ∙ sym (top_xor r (b * 2 ^ 31)))
    ∙ sym (step_zero (bit_xor r (b * 2 ^ 31)) (xor_lt 32 r (b * 2 ^ 31) hr (omega arith)))
  where
    gone : b * 2 ^ 31 * 2 % 2 ^ 32 ≡ 0
    gone = omega arith

    back : b ≡ b * 2 ^ 31 / 2 ^ 31
    back = omega arith

pub step_linear : (x y : ℕ) → x < 2 ^ 32 → y < 2 ^ 32 → step (bit_xor x y) 0 ≡ bit_xor (step x 0) (step y 0)
step_linear x y hx hy =
    step_zero (bit_xor x y) (xor_lt 32 x y hx hy)
    ∙ ap₂ bit_xor (up_xor x y)
    (ap (λ (t : ℕ). t * polynomial) (top_xor x y) ∙ bits_xor (x / 2 ^ 31) (y / 2 ^ 31) (omega arith) (omega arith))
    ∙ xor_swap (x * 2 % 2 ^ 32) (y * 2 % 2 ^ 32) (x / 2 ^ 31 * polynomial) (y / 2 ^ 31 * polynomial)
    ∙ sym (ap₂ bit_xor (step_zero x hx) (step_zero y hy))

-- a number that leaves the top place free only moves up
pub step_up : (x : ℕ) → x < 2 ^ 31 → step x 0 ≡ x * 2
step_up x h =
    let up : x * 2 % 2 ^ 32 ≡ x * 2 = omega arith in
    let top : x / 2 ^ 31 ≡ 0 = omega arith in
    step_zero x (omega arith) ∙ ap₂ (λ (u t : ℕ). bit_xor u (t * polynomial)) up top ∙ xor_zero_r (x * 2)

-- ---- bits of 0

pub zeros_lt : (n r : ℕ) → r < 2 ^ 32 → zeros n r < 2 ^ 32
unfolding zeros
zeros_lt zero r h = h
zeros_lt (suc n) r h = zeros_lt n (step r 0) (step_lt r 0 h (lit< tt))

pub zeros_linear : (n x y : ℕ) → x < 2 ^ 32 → y < 2 ^ 32 → zeros n (bit_xor x y) ≡ bit_xor (zeros n x) (zeros n y)
unfolding zeros
zeros_linear zero x y hx hy = refl
zeros_linear (suc n) x y hx hy =
    ap (zeros n) (step_linear x y hx hy)
    ∙ zeros_linear n (step x 0) (step y 0) (step_lt x 0 hx (lit< tt)) (step_lt y 0 hy (lit< tt))
