-- The definition at inputs whose CRC is known: the check value that lists of CRCs give for "123456789", and no bytes.
-- Assumes nothing.
use mathlib.Core.Path.{◌≡◌, refl}
use mathlib.Core.List.{[], ◌∷◌}
use Rattle.bits.specs.Bits.{bit}
use Rattle.crc.specs.Crc.{step, register, crc32}

pub check_value : crc32 (49 ∷ 50 ∷ 51 ∷ 52 ∷ 53 ∷ 54 ∷ 55 ∷ 56 ∷ 57 ∷ []) ≡ 0x0376E6E7
unfolding crc32 register step bit
check_value = refl

pub no_bytes : crc32 [] ≡ 0xFFFFFFFF
unfolding crc32 register
no_bytes = refl
