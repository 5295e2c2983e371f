-- The register ahead is the xor of its four bytes ahead.
-- Assumes nothing.
use mathlib.Core.Path.{◌≡◌, sym, ap, ap₂, ◌∙◌}
use Prim.Native.Nat.{ℕ, ◌+◌, ◌*◌, ◌/◌, ◌%◌, ◌^◌, ◌≤◌, ◌<◌}
use native.Mathlib.Nat.{mod-lt, mod-eq_of_lt, lt_of_lt_of_le}
use native.Mathlib.Omega.{arith}
use lib.Dec.{lit≤}
use lib.Pow.{pow_pos, pow_mono, mod-pow-add, shl_lt}
use lib.Bits.{bit_xor, xor_comm, xor_block, xor_shifted}
use Rattle.crc_steps.specs.Steps.{zeros, ahead}
use Rattle.crc_steps.proofs.Steps.{zeros_lt, zeros_linear}

ahead_linear : (x y : ℕ) → x < 2 ^ 32 → y < 2 ^ 32 → ahead (bit_xor x y) ≡ bit_xor (ahead x) (ahead y)
unfolding ahead
ahead_linear x y hx hy =
    ap₂ (λ (a b : ℕ). a * 2 ^ 32 + b) (zeros_linear 64 x y hx hy) (zeros_linear 32 x y hx hy)
    ∙ sym (xor_block 32 (zeros 64 x) (zeros 64 y) (zeros 32 x) (zeros 32 y) (zeros_lt 32 x hx) (zeros_lt 32 y hy))

infixl 60 ◌⊕◌
abbrev ◌⊕◌ : ℕ → ℕ → ℕ
◌⊕◌ = bit_xor

-- the byte of x from place k on, ahead
abbrev byte : ℕ → ℕ → ℕ
byte x k = ahead (x / 2 ^ k % 256 * 2 ^ k)

-- eight places more
byte_more : (x k : ℕ) → k ≤ 24
    → ahead (x % 2 ^ (8 + k)) ≡ ahead (x % 2 ^ k) ⊕ byte x k
byte_more x k h =
    let n = x / 2 ^ k % 256 in
    let l : x % 2 ^ k < 2 ^ k = mod-lt x (pow_pos k) in
    ap ahead (mod-pow-add x 8 k ∙ sym (xor_shifted n k (x % 2 ^ k) l) ∙ xor_comm (n * 2 ^ k) (x % 2 ^ k))
    ∙ ahead_linear (x % 2 ^ k) (n * 2 ^ k) (omega (arith, pow_mono h))
    (lt_of_lt_of_le (shl_lt 8 k (mod-lt (x / 2 ^ k) (pow_pos 8))) (pow_mono {j = 32} (omega arith)))

-- all four
pub four_bytes : (x : ℕ) → x < 2 ^ 32 → ahead x ≡ ahead (x % 256) ⊕ byte x 8 ⊕ byte x 16 ⊕ byte x 24
four_bytes x h =
    ap ahead (sym (mod-eq_of_lt h)) ∙ rw (byte_more x 24 (lit≤ tt), byte_more x 16 (lit≤ tt), byte_more x 8 (lit≤ tt))
