-- How the characters of a text of whole groups, those before its padding and the bytes that they make go together.
-- Assumes nothing.
use mathlib.Core.Path.{◌≡◌}
use mathlib.Core.List.{List}
use Prim.Native.Nat.{ℕ, ◌+◌, ◌-◌, ◌*◌, ◌/◌, ◌%◌, ◌<◌, ◌≤◌}
use native.Mathlib.Omega.{arith}
use lib.ListN.{length}
use Rattle.base64_rules.specs.Base64.{padding, before, count}
use Rattle.base64_rules.proofs.Padding.{padding_le, padding_fits}

module _ (t : List ℕ) (whole : length t % 4 ≡ 0) where
  -- each character of padding takes a byte from the three of a group
  pub count_is : count t ≡ 3 * (length t / 4) - padding t
  unfolding before count
  count_is = omega (arith, padding_le t, padding_fits t whole)

  -- a character before the padding starts within the bytes
  pub inside : (i : ℕ) → i < before t → 6 * i < 8 * count t
  unfolding before
  inside i h = omega (arith, count_is, padding_le t, padding_fits t whole)

  -- the text of as many bytes is as long
  pub as_long : (count t + 2) / 3 * 4 ≡ length t
  as_long = omega (arith, count_is, padding_le t, padding_fits t whole)

-- the bits before the padding are those of the bytes and the spare ones
pub all_bits : (t : List ℕ) → 6 * before t ≡ 8 * count t + 6 * before t % 8
unfolding count
all_bits t = omega arith

pub before_le : (t : List ℕ) → before t ≤ length t
unfolding before
before_le t = omega arith
