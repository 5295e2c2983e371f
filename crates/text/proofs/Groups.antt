-- A group of four characters: its number is below 2 ^ 24 where each character is of the alphabet, and only there, and it is then
-- the number of their 24 bits; padding has bits of 0.
-- Assumes nothing.
use mathlib.Core.Path.{◌≡◌, refl, sym, ap, ◌∙◌, subst}
use mathlib.Core.Bool.{false}
use mathlib.Core.List.{List, [], ◌∷◌}
use Prim.Native.Nat.{ℕ, zero, suc, ◌+◌, ◌*◌, ◌%◌, ◌^◌, ◌-◌, ◌<◌, ◌≤◌}
use native.Mathlib.Decide.{dec_lt}
use native.Mathlib.Numerals.{add-one}
use native.Mathlib.Omega.{arith}
use lib.ListN.{length, get_or, take}
use borrow.Author.Tests.{lt-ltb, le-ltb}
use Rattle.bits.specs.Bits.{num}
use Rattle.bits.proofs.Cases.{is_false}
use Rattle.base64_rules.specs.Base64.{sextet, six}
use Rattle.base64_rules.proofs.AllOf.{all_at}
use Rattle.base64_rules.proofs.Counts.{before_le}
use Rattle.base64_rules.proofs.Padding.{padding_at}
use Rattle.base64_rules.proofs.TextBits.{text_group}
use Rattle.text.specs.Groups.{plain, worth}
use Rattle.text.specs.Text.{before, text_bit, all_of}

-- ---- one character

module _ (c : ℕ) where
  pub six_in : sextet c < 64 → six c ≡ sextet c
  unfolding six
  six_in h = rw (lt-ltb (sextet c) 64 h)

  six_out : 64 ≤ sextet c → six c ≡ 2 ^ 24
  unfolding six
  six_out h = rw (le-ltb (sextet c) 64 h)

  six_le : six c ≤ 2 ^ 24
  six_le =
      elim (dec_lt (sextet c) 64) [
        | yes l ↦ omega (arith, six_in l)
        | no l ↦ omega (arith, six_out (omega arith))
      ]

  six_good : six c < 2 ^ 24 → sextet c < 64
  six_good h =
      elim (dec_lt (sextet c) 64) [
        | yes l ↦ l
        | no l ↦ absurd (omega (arith, six_out (omega arith)))
      ]

-- ---- characters one after another

-- what holds at each of four places
of_four : (P : ℕ → Type 0) → P 0 → P 1 → P 2 → P 3 → (k : ℕ) → k < 4 → P k
of_four P a b c d zero l = a
of_four P a b c d (suc zero) l = b
of_four P a b c d (suc (suc zero)) l = c
of_four P a b c d (suc (suc (suc zero))) l = d
of_four P a b c d (suc (suc (suc (suc k)))) l = absurd (omega arith)

module _ (f : ℕ → ℕ) (at : ℕ) where
  pub worth_none : 0 ≡ worth f at 0
  unfolding worth
  worth_none = refl

  pub worth_more : (k v x : ℕ) → v ≡ worth f at k → x ≡ six (f (at + k)) → v * 64 + x ≡ worth f at (k + 1)
  unfolding worth
  worth_more k v x e d = rw (add-one, e, d)

  -- what up to three characters make, which with one more has room in 64 bits
  worth_le : (k : ℕ) → k < 4 → worth f at k ≤ 4161 * 2 ^ 24
  unfolding worth
  worth_le =
      let a = six_le (f (at + 0)) in
      let b = six_le (f (at + 1)) in
      let c = six_le (f (at + 2)) in
      of_four (λ (k : ℕ). worth f at k ≤ 4161 * 2 ^ 24) (omega arith) (omega (arith, a)) (omega (arith, a, b)) (omega (arith, a, b, c))

  pub room : (k v x c : ℕ) → k < 4 → v ≡ worth f at k → x ≡ six c → v * 64 + x < 2 ^ 64
  room k v x c l e d = omega (arith, worth_le k l, six_le c)

  -- four characters that were laid side by side
  pub laid : (a b c d : ℕ) → a ≡ f at → b ≡ f (at + 1) → c ≡ f (at + 2) → d ≡ f (at + 3)
      → (k : ℕ) → k < 4 → get_or (a ∷ b ∷ c ∷ d ∷ []) k 0 ≡ f (at + k)
  laid a b c d e = of_four (λ (k : ℕ). get_or (a ∷ b ∷ c ∷ d ∷ []) k 0 ≡ f (at + k)) (e ∙ ap f (omega arith))

  four : worth f at 4
      ≡ ((six (f (at + 0)) * 64 + six (f (at + 1))) * 64 + six (f (at + 2))) * 64 + six (f (at + 3))
  unfolding worth
  four = omega arith

  pub good : worth f at 4 < 2 ^ 24 → (k : ℕ) → k < 4 → sextet (f (at + k)) < 64
  good h =
      of_four (λ (k : ℕ). sextet (f (at + k)) < 64) (six_good _ (omega (arith, four))) (six_good _ (omega (arith, four)))
      (six_good _ (omega (arith, four))) (six_good _ (omega (arith, four)))

  pub all_good : ((k : ℕ) → k < 4 → sextet (f (at + k)) < 64) → worth f at 4 < 2 ^ 24
  all_good h =
      let a = h 0 (omega arith) in
      let b = h 1 (omega arith) in
      let c = h 2 (omega arith) in
      let d = h 3 (omega arith) in
      omega (arith, four, a, b, c, d, six_in (f (at + 0)) a, six_in (f (at + 1)) b, six_in (f (at + 2)) c, six_in (f (at + 3)) d)

-- ---- the groups of a text

module _ (t : List ℕ) (n : ℕ) where
  pub plain_in : (i : ℕ) → i < n → plain t n i ≡ get_or t i 0
  unfolding plain
  plain_in i h = rw (lt-ltb i n h)

  plain_past : (i : ℕ) → n ≤ i → plain t n i ≡ 65
  unfolding plain
  plain_past i h = rw (le-ltb i n h)

  -- padding counts as a character of the alphabet
  pub padding_good : (i : ℕ) → n ≤ i → sextet (plain t n i) < 64
  unfolding sextet
  padding_good i h = rw (plain_past i h) (omega arith)

  module _ (is : n ≡ before t) where
    -- its bits are those of the text there
    empty : (i : ℕ) → i < length t → n ≤ i → six (plain t n i) ≡ sextet (get_or t i 0) % 64
    unfolding six sextet
    empty i l past = rw (plain_past i past, padding_at t i (omega (arith, is)) l)

    digit : (i : ℕ) → i < length t → sextet (plain t n i) < 64 → six (plain t n i) ≡ sextet (get_or t i 0) % 64
    digit i l h =
        elim (dec_lt i n) [
          | yes before ↦ omega (arith, six_in (plain t n i) h, ap sextet (plain_in i before))
          | no past ↦ empty i l (omega arith)
        ]

    pub bits : (at : ℕ) → at + 4 ≤ length t → worth (plain t n) at 4 < 2 ^ 24
        → worth (plain t n) at 4 ≡ num (text_bit t) (6 * at) 24
    bits at l h =
        let each = good (plain t n) at h in
        let first : at + 0 ≡ at = omega arith in
        let head = subst (λ (i : ℕ). sextet (plain t n i) < 64) first (each 0 (omega arith)) in
        omega
        (arith, four (plain t n) at, ap (λ (i : ℕ). six (plain t n i)) first, text_group t at, digit at (omega arith) head, digit (at + 1) (omega arith) (each 1 (omega arith)), digit (at + 2) (omega arith) (each 2 (omega arith)), digit (at + 3) (omega arith) (each 3 (omega arith)))

    -- ---- the groups passed: each character of them is of the alphabet

    pub passed : (q : ℕ) → ((i : ℕ) → i < 4 * q → i < n → sextet (get_or t i 0) < 64) → worth (plain t n) (4 * q) 4 < 2 ^ 24
        → (i : ℕ) → i < 4 * (q + 1) → i < n → sextet (get_or t i 0) < 64
    passed q all h i l in-text =
        elim (dec_lt i (4 * q)) [
          | yes early ↦ all i early in-text
          | no late ↦
              let here = good (plain t n) (4 * q) h (i - 4 * q) (omega arith) in
              let place : 4 * q + (i - 4 * q) ≡ i = omega arith in
              subst (λ (x : ℕ). sextet x < 64) (ap (plain t n) place ∙ plain_in i in-text) here
        ]

    -- a group with a character outside the alphabet, so the text has one
    pub refused : (q : ℕ) → 4 * q + 4 ≤ length t → 2 ^ 24 ≤ worth (plain t n) (4 * q) 4 → all_of (take (before t) t) ≡ false
    refused q l h =
        is_false (all_of (take (before t) t))
        (λ e.
        let each : (k : ℕ) → k < 4 → sextet (plain t n (4 * q + k)) < 64 =
        λ k s.
        elim (dec_lt (4 * q + k) n) [
          | yes in-text ↦
              subst (λ (x : ℕ). sextet x < 64) (sym (plain_in (4 * q + k) in-text))
              (all_at t (before t) (4 * q + k) (omega (arith, is)) (before_le t) e)
          | no past ↦ padding_good (4 * q + k) (omega arith)
        ] in
        absurd (omega (arith, h, all_good (plain t n) (4 * q) each)))
