-- CRC-32 as ISO/IEC 13818-1 has it, one bit at a time: polynomial 0x04C11DB7, start 0xFFFFFFFF, most significant bit
-- first, no final inversion.
-- Assumes nothing.
unfoldable pub use Rattle.crc_steps.specs.Steps.{step}
use Rattle.std.specs.Prelude.{ℕ, zero, suc, ◌*◌, ◌/◌, ◌%◌, ◌^◌, List, [], ◌∷◌, length}
use Rattle.bits.specs.Bits.{bit}

-- the register after the first n of the bits f
unfoldable pub register : (ℕ → ℕ) → ℕ → ℕ
register f zero = 0xFFFFFFFF
register f (suc n) = step (register f n) (f n)

-- the CRC of the bytes s
unfoldable pub crc32 : List ℕ → ℕ
crc32 s = register (bit s) (8 * length s)

-- the four bytes of the number n, most significant first
unfoldable pub be32 : ℕ → List ℕ
be32 n = n / 2 ^ 24 % 256 ∷ n / 2 ^ 16 % 256 ∷ n / 2 ^ 8 % 256 ∷ n % 256 ∷ []
