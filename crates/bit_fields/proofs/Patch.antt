-- Bits of which one field was given a value: that field reads as the value, and every other as before.
-- Assumes nothing.
use mathlib.Core.Path.{◌≡◌, ap, ap₂, ◌∙◌}
use mathlib.Core.Bool.{Bool, cond, ◌&&◌}
use mathlib.Core.Logic.{⊎_elim}
use Prim.Native.Nat.{ℕ, ◌+◌, ◌-◌, ◌/◌, ◌%◌, ◌^◌, ◌≤◌, ◌<◌}
use native.Mathlib.Nat.{mod-lt, mod-eq_of_lt}
use native.Mathlib.Omega.{arith}
use lib.Dec.{ltb}
use borrow.Author.Tests.{le-leb, lt-leb, lt-ltb, le-ltb}
use Rattle.bit_fields.specs.Bits.{num, patched}
use Rattle.bit_fields.proofs.Cases.{le_or_lt}
use Rattle.bit_fields.proofs.Num.{Bits, num_ext}
use Rattle.bit_fields.proofs.Digits.{num_digits}

module _ (f : ℕ → ℕ) (at w v : ℕ) where
  pub patched_here : (k : ℕ) → at ≤ k → k < at + w → patched f at w v k ≡ v / 2 ^ (at + w - (k + 1)) % 2
  unfolding patched
  patched_here k h l = ap₂ (λ (t u : Bool). cond (t && u) (v / 2 ^ (at + w - (k + 1)) % 2) (f k)) (le-leb at k h) (lt-ltb k (at + w) l)

  pub patched_before : (k : ℕ) → k < at → patched f at w v k ≡ f k
  unfolding patched
  patched_before k h = ap (λ (t : Bool). cond (t && ltb k (at + w)) (v / 2 ^ (at + w - (k + 1)) % 2) (f k)) (lt-leb at k h)

  pub patched_after : (k : ℕ) → at + w ≤ k → patched f at w v k ≡ f k
  unfolding patched
  patched_after k h =
      ap₂ (λ (t u : Bool). cond (t && u) (v / 2 ^ (at + w - (k + 1)) % 2) (f k)) (le-leb at k (omega arith)) (le-ltb k (at + w) h)

  pub patched_bits : Bits f → Bits (patched f at w v)
  patched_bits h k =
      ⊎_elim
      (λ l. ⊎_elim
      (λ m. rw (patched_after k m) (h k))
      (λ m. rw (patched_here k l m) (mod-lt (v / 2 ^ (at + w - (k + 1))) (omega arith)))
      (le_or_lt (at + w) k))
      (λ l. rw (patched_before k l) (h k))
      (le_or_lt at k)

  -- the field itself
  pub num_here : v < 2 ^ w → num (patched f at w v) at w ≡ v
  num_here h =
      num_digits (patched f at w v) at v w
      (λ i m.
      let e : at + w - (at + i + 1) ≡ w - (i + 1) = omega arith in
      patched_here (at + i) (omega arith) (omega arith) ∙ ap (λ (x : ℕ). v / 2 ^ x % 2) e)
      ∙ mod-eq_of_lt h

  -- a field that ends where it starts, or before
  pub num_before : (k l : ℕ) → k + l ≤ at → num (patched f at w v) k l ≡ num f k l
  num_before k l h = num_ext (patched f at w v) f k k l (λ i m. patched_before (k + i) (omega arith))

  -- a field that starts where it ends, or after
  pub num_after : (k l : ℕ) → at + w ≤ k → num (patched f at w v) k l ≡ num f k l
  num_after k l h = num_ext (patched f at w v) f k k l (λ i m. patched_after (k + i) (omega arith))
