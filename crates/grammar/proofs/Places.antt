-- Fields at byte places, as code reads them off whole bytes.
-- Assumes nothing.
use mathlib.Core.Path.{◌≡◌, refl, sym, ap, ◌∙◌}
use mathlib.Core.List.{List}
use Prim.Native.Nat.{ℕ, ◌+◌, ◌-◌, ◌*◌, ◌/◌, ◌%◌, ◌^◌, ◌<◌}
use native.Mathlib.Omega.{arith}
use lib.ListN.{get_or}
use lib.Dec.{eqb}
use lib.Pow.{high}
use Rattle.bits.specs.Bits.{bit, num}
use Rattle.std.specs.Prelude.{Option, Some, None}
use Rattle.grammar.specs.Ended.{outcome}
use Rattle.grammar.specs.Meaning.{Outcome, breach, ends}
use Rattle.bits.proofs.Num.{num_one, num_lt, num_split}
use Rattle.bits.proofs.Bytes.{bit_lt, bit_at, byte_field}

-- a flag is a bit of its byte
pub flag : (s : List ℕ) (at j k : ℕ) → j < 8 → k ≡ 8 * at + j → num (bit s) k 1 ≡ get_or s at 0 / 2 ^ (7 - j) % 2
flag s at j k h e = num_one (bit s) k ∙ ap (bit s) e ∙ bit_at s at j h

-- an 8-bit field at a byte's place is the byte
pub octet : (s : List ℕ) (at k : ℕ) → get_or s at 0 < 256 → k ≡ 8 * at → num (bit s) k 8 ≡ get_or s at 0
octet s at k h e = ap (λ (x : ℕ). num (bit s) x 8) e ∙ byte_field s at h

-- the upper w bits of a byte are what a shift by the others leaves
pub upper : (s : List ℕ) (at k w c : ℕ) → get_or s at 0 < 256 → k ≡ 8 * at → w + c ≡ 8 → num (bit s) k w ≡ get_or s at 0 / 2 ^ c
upper s at k w c h e whole =
    sym (high (num (bit s) k w) c (num_lt (bit s) (bit_lt s) (k + w) c))
    ∙ ap (λ (x : ℕ). x / 2 ^ c) (sym (num_split (bit s) k w c) ∙ ap (num (bit s) k) whole ∙ octet s at k h e)

-- a test of a flag is a test of its bit
pub flag_test : (s : List ℕ) (at j k v w : ℕ) → j < 8 → k ≡ 8 * at + j → get_or s at 0 / 2 ^ (7 - j) % 2 ≡ v → eqb (num (bit s) k 1) w ≡ eqb v w
flag_test s at j k v w h e q = ap (λ (x : ℕ). eqb x w) (flag s at j k h e ∙ q)

-- an outcome is that of one answer
pub outcome_only : (r q : Option ℕ) → outcome r ≡ outcome q → r ≡ q
outcome_only r q e = sym (back r) ∙ ap byte e ∙ back q
  where
    byte : Outcome → Option ℕ
    byte (breach n) = None
    byte (ends k) = Some (k / 8)

    back : (r : Option ℕ) → byte (outcome r) ≡ r
    back (Some n) =
        let same : 8 * n / 8 ≡ n = omega arith in
        ap Some same
    back None = refl
