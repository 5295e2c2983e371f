-- The register of CRC-32 as ISO/IEC 13818-1 has it, after one bit and after bits that are all 0: polynomial 0x04C11DB7, most
-- significant bit first.
-- Assumes nothing.
use Rattle.std.specs.Prelude.{ℕ, zero, suc, ◌+◌, ◌*◌, ◌/◌, ◌%◌, ◌^◌, cond, eqb}
use Rattle.std.specs.Int.Bits.{bit_xor}

-- the register after one more bit b: it moves up by one place, and the polynomial goes in where the bit that leaves at the top is not b
unfoldable pub step : ℕ → ℕ → ℕ
step r b = cond (eqb (r / 2 ^ 31) b) (r * 2 % 2 ^ 32) (bit_xor (r * 2 % 2 ^ 32) 0x04C11DB7)

-- the register r after n more bits, each 0
unfoldable pub zeros : ℕ → ℕ → ℕ
zeros zero r = r
zeros (suc n) r = zeros n (step r 0)

-- the register r after 64 more bits of 0 in the upper half, and after 32 in the lower
unfoldable pub ahead : ℕ → ℕ
ahead r = zeros 64 r * 2 ^ 32 + zeros 32 r
