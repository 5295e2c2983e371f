-- What is read off the tables: the two halves of a register ahead, and what two words come to by their bytes.
-- Assumes nothing.
use mathlib.Core.Path.{◌≡◌, refl, sym, ap, ap₂, ◌∙◌}
use mathlib.Core.List.{List, [], ◌∷◌}
use Prim.Native.Nat.{ℕ, zero, suc, ◌+◌, ◌*◌, ◌/◌, ◌%◌, ◌^◌, ◌<◌}
use native.Mathlib.Nat.{zero-add, suc-add, mod-eq_of_lt}
use native.Mathlib.Numerals.{add-one}
use lib.ListN.{get_or}
use lib.Pow.{high, low}
use lib.Bits.{bit_xor, xor_comm, xor_zero_r, xor_mod}
use Rattle.crc_steps.specs.Steps.{step, zeros, ahead}
use Rattle.crc_steps.proofs.Xor.{xor_assoc}
use Rattle.crc_steps.proofs.Steps.{zeros_lt}
use Rattle.crc_steps.proofs.Bytes.{four_bytes}

pub zeros_add : (m n r : ℕ) → zeros (m + n) r ≡ zeros n (zeros m r)
unfolding zeros
zeros_add zero n r = ap (λ (k : ℕ). zeros k r) (zero-add n)
zeros_add (suc m) n r = ap (λ (k : ℕ). zeros k r) (suc-add m n) ∙ zeros_add m n (step r 0)

-- the two halves
ahead_high : (v x : ℕ) → x < 2 ^ 32 → v ≡ ahead x → v / 2 ^ 32 ≡ zeros 64 x
unfolding ahead
ahead_high v x h e = ap (λ (y : ℕ). y / 2 ^ 32) e ∙ high (zeros 64 x) 32 (zeros_lt 32 x h)

ahead_low : (v x : ℕ) → x < 2 ^ 32 → v ≡ ahead x → v % 2 ^ 32 ≡ zeros 32 x
unfolding ahead
ahead_low v x h e = ap (λ (y : ℕ). y % 2 ^ 32) e ∙ low (zeros 64 x) 32 (zeros_lt 32 x h)

-- ---- a turn

-- what the first k words have come to: the one before goes on by 32 bits
pub come : List ℕ → ℕ → ℕ
come words zero = 0
come words (suc k) = bit_xor (come words k / 2 ^ 32) (ahead (get_or words k 0))

pub come_none : (words : List ℕ) → 0 ≡ come words 0
unfolding come
come_none words = refl

-- one word more, by its four bytes
pub come_more : (words : List ℕ) (k y p q r t : ℕ) → get_or words k 0 < 2 ^ 32 → y ≡ come words k
    → p ≡ ahead (get_or words k 0 % 256)
    → q ≡ ahead (get_or words k 0 / 2 ^ 8 % 256 * 2 ^ 8)
    → r ≡ ahead (get_or words k 0 / 2 ^ 16 % 256 * 2 ^ 16)
    → t ≡ ahead (get_or words k 0 / 2 ^ 24 % 256 * 2 ^ 24)
    → bit_xor (bit_xor (bit_xor (bit_xor (y / 2 ^ 32) p) q) r) t ≡ come words (k + 1)
unfolding come
come_more words k y p q r t l e ep eq er et =
    let z = y / 2 ^ 32 in
    ap (λ (v : ℕ). bit_xor v t)
    (ap (λ (v : ℕ). bit_xor v r) (xor_assoc z p q) ∙ xor_assoc z (bit_xor p q) r)
    ∙ xor_assoc z (bit_xor (bit_xor p q) r) t
    ∙ ap₂ (λ (v w : ℕ). bit_xor (v / 2 ^ 32) w) e
    (ap₂ bit_xor (ap₂ bit_xor (ap₂ bit_xor ep eq) er) et ∙ sym (four_bytes (get_or words k 0) l))
    ∙ ap (come words) (sym (add-one k))

-- both words
pub come_two : (a b : ℕ) → a < 2 ^ 32 → b < 2 ^ 32 → come (a ∷ b ∷ []) 2 % 2 ^ 32 ≡ bit_xor (zeros 64 a) (zeros 32 b)
unfolding come
come_two a b ha hb =
    xor_mod (bit_xor 0 (ahead a) / 2 ^ 32) (ahead b) 32
    ∙ ap₂ bit_xor
    (ap (λ (v : ℕ). v % 2 ^ 32) (ahead_high (bit_xor 0 (ahead a)) a ha (xor_comm 0 (ahead a) ∙ xor_zero_r (ahead a)))
    ∙ mod-eq_of_lt (zeros_lt 64 a ha))
    (ahead_low (ahead b) b hb refl)
