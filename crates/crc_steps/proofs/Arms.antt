-- The arms of a match on a byte, counted from 256 on: the number of an arm is the one that the definition computes to at its
-- key.
-- Assumes nothing.
use mathlib.Core.Path.{◌≡◌, ap}
use Prim.Native.Nat.{ℕ, ◌+◌, ◌*◌, ◌^◌}
use native.Mathlib.Omega.{arith}
use Rattle.crc_steps.specs.Steps.{ahead}

-- the arm of the byte m, where the byte n is the lowest, and where it goes in at place k
pub lowest_arm : (m n : ℕ) → n + 256 ≡ m + 256 → ahead m ≡ ahead n
lowest_arm m n e =
    let same : m ≡ n = omega (arith, e) in
    ap ahead same

pub arm : (k m n : ℕ) → n + 256 ≡ m + 256 → ahead (m * 2 ^ k) ≡ ahead (n * 2 ^ k)
arm k m n e =
    let same : m ≡ n = omega (arith, e) in
    ap (λ (y : ℕ). ahead (y * 2 ^ k)) same
