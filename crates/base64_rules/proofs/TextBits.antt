-- The bits of a text, and of a byte list, as rows of digits: of six bits a character, and of eight bits a byte.
-- Assumes nothing.
use mathlib.Core.Path.{◌≡◌, sym, ap, ap₂, ◌∙◌}
use mathlib.Core.List.{List}
use Prim.Native.Nat.{ℕ, ◌+◌, ◌-◌, ◌*◌, ◌/◌, ◌%◌, ◌^◌, ◌<◌, ◌≤◌}
use native.Mathlib.Omega.{arith}
use lib.ListN.{length, get_or}
use borrow.Author.Tests.{lt-ltb, le-ltb}
use Rattle.bits.specs.Bits.{bit, num, byte_of}
use Rattle.bits.proofs.Num.{Bits, num_part_at}
use Rattle.bits.proofs.Digits.{digit_end, digit_whole, digit_more}
use Rattle.bits.proofs.Bytes.{bit_lt, byte_whole, byte_more}
use Rattle.base64_rules.specs.Base64.{character, sextet, text_bit, character_at}

module _ (t : List ℕ) where
  pub text_bit_bits : Bits (text_bit t)
  unfolding text_bit
  text_bit_bits k = omega arith

  text_bit_at : (n j : ℕ) → j < 6 → text_bit t (6 * n + j) ≡ sextet (get_or t n 0) / 2 ^ (6 - (j + 1)) % 2
  unfolding text_bit
  text_bit_at n j h =
      ap₂ (λ (x y : ℕ). sextet (get_or t x 0) / 2 ^ y % 2) {x = (6 * n + j) / 6} {y = n} (omega arith) (omega arith)

  -- the last b bits of character n
  pub sextet_end : (n a b : ℕ) → a + b ≡ 6 → num (text_bit t) (6 * n + a) b ≡ sextet (get_or t n 0) % 2 ^ b
  sextet_end = digit_end 6 (text_bit t) (λ (n : ℕ). sextet (get_or t n 0)) text_bit_at

  pub sextet_whole : (n : ℕ) → num (text_bit t) (6 * n) 6 ≡ sextet (get_or t n 0) % 64
  sextet_whole = digit_whole 6 (text_bit t) (λ (n : ℕ). sextet (get_or t n 0)) text_bit_at

  -- the bits of four characters
  pub text_group : (n : ℕ)
      → num (text_bit t) (6 * n) 24
      ≡ ((sextet (get_or t n 0) % 64 * 64 + sextet (get_or t (n + 1) 0) % 64) * 64 + sextet (get_or t (n + 2) 0) % 64) * 64
      + sextet (get_or t (n + 3) 0) % 64
  text_group n =
      let more = digit_more 6 (text_bit t) (λ (m : ℕ). sextet (get_or t m 0)) text_bit_at n in
      omega (arith, sextet_whole n, more 1, more 2, more 3)

  -- byte i, cut out of the bits of the four characters that it lies in, with a bits before it and c after it
  pub byte_cut : (q v i a c x : ℕ) → v ≡ num (text_bit t) (6 * (4 * q)) 24 → a + 8 + c ≡ 24 → 8 * i ≡ 6 * (4 * q) + a
      → x ≡ v / 2 ^ c → x % 256 ≡ byte_of (text_bit t) i
  unfolding byte_of
  byte_cut q v i a c x is w e p =
      rw (p, is, ← w) (num_part_at (text_bit t) text_bit_bits (6 * (4 * q)) a 8 c (8 * i) e)

module _ (s : List ℕ) where
  -- the bits of three bytes
  pub byte_group : (n : ℕ)
      → num (bit s) (8 * n) 24 ≡ (get_or s n 0 % 256 * 256 + get_or s (n + 1) 0 % 256) * 256 + get_or s (n + 2) 0 % 256
  byte_group n =
      omega (arith, byte_whole s n, byte_more s n 1, byte_more s n 2)

  pub character_at_in : (i : ℕ) → 6 * i < 8 * length s → character_at s i ≡ character (num (bit s) (6 * i) 6)
  unfolding character_at
  character_at_in i h = rw (lt-ltb (6 * i) (8 * length s) h)

  pub character_at_past : (i : ℕ) → 8 * length s ≤ 6 * i → character_at s i ≡ 61
  unfolding character_at
  character_at_past i h = rw (le-ltb (6 * i) (8 * length s) h)

  -- character i, cut out of the bits of the three bytes that it lies in, with a bits before it and c after it
  pub letter_cut : (q v i a c x : ℕ) → v ≡ num (bit s) (8 * (3 * q)) 24 → a + 6 + c ≡ 24 → 6 * i ≡ 8 * (3 * q) + a
      → 6 * i < 8 * length s → x ≡ v / 2 ^ c → character (x % 64) ≡ character_at s i
  letter_cut q v i a c x is w e h p =
      rw (p, is, ← w) (ap character (num_part_at (bit s) (bit_lt s) (8 * (3 * q)) a 6 c (6 * i) e))
      ∙ sym (character_at_in i h)
