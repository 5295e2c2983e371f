-- The spare bits of a text are the last bits of its last character before the padding; where the characters make whole bytes there are none.
-- Assumes nothing.
use mathlib.Core.Path.{◌≡◌, refl, sym, ap, ap₂, ◌∙◌}
use mathlib.Core.List.{List}
use Prim.Native.Nat.{ℕ, ◌+◌, ◌-◌, ◌*◌, ◌/◌, ◌%◌, ◌^◌, ◌<◌, ◌≤◌}
use native.Mathlib.Nat.{mul-add-mod_self_right, mod-eq_of_lt}
use native.Mathlib.Omega.{arith}
use lib.ListN.{length, get_or, get_or-eq_default}
use Rattle.bits.specs.Bits.{num, byte_of, bytes_of}
use Rattle.bits.proofs.Bytes.{length_bytes_of, get_d_run}
use Rattle.bits.proofs.Num.{num_zero}
use Rattle.base64_rules.specs.Base64.{sextet, padding, before, text_bit, count, spare}
use Rattle.base64_rules.proofs.Counts.{count_is}
use Rattle.base64_rules.proofs.Padding.{padding_cases, padding_fits}
use Rattle.base64_rules.proofs.TextBits.{sextet_end, text_group, byte_cut}

-- four characters make three bytes, so only the rest by four tells how many bits are over
pub over : (n : ℕ) → 6 * n % 8 ≡ 6 * (n % 4) % 8
over n =
    ap (λ (x : ℕ). x % 8) {x = 6 * n} {y = 3 * (n / 4) * 8 + 6 * (n % 4)} (omega arith)
    ∙ mul-add-mod_self_right (3 * (n / 4)) 8 (6 * (n % 4))

module _ (t : List ℕ) (n : ℕ) (is : n ≡ before t) where
  pub spare_end : (r : ℕ) → n % 4 ≡ r → 6 * r % 8 ≤ 6 → 0 < n → spare t ≡ sextet (get_or t (n - 1) 0) % 2 ^ (6 * r % 8)
  unfolding spare count
  spare_end r e h p =
      let b = 6 * r % 8 in
      let bits : 6 * n % 8 ≡ b = over n ∙ ap (λ (x : ℕ). 6 * x % 8) e in
      rw (← is) (ap₂ (num (text_bit t)) {x = 8 * (6 * n / 8)} {y = 6 * (n - 1) + (6 - b)} (omega arith) bits)
      ∙ sextet_end t (n - 1) (6 - b) b (omega arith)

  pub spare_none : n % 4 ≡ 0 → spare t ≡ 0
  unfolding spare count
  spare_none e =
      rw (← is, over n, e) (num_zero (text_bit t) (8 * (6 * n / 8)))

-- the second byte of a group whose last two characters have bits of 0
second_byte : (a b v : ℕ) → v ≡ ((a * 64 + b) * 64 + 0) * 64 + 0 → v / 2 ^ 8 % 256 ≡ b % 16 * 16
second_byte a b v e =
    let cut : v / 2 ^ 8 ≡ (a * 4 + b / 16) * 256 + b % 16 * 16 = omega arith in
    ap (λ (x : ℕ). x % 256) cut ∙ mul-add-mod_self_right (a * 4 + b / 16) 256 (b % 16 * 16) ∙ mod-eq_of_lt (omega arith)

-- after the whole bytes of the groups stand the spare bits, with the padding's bits of 0 after them, or nothing
module _ (t : List ℕ) (whole : length t % 4 ≡ 0) where
  one : padding t ≡ 1 → get_or t (length t - 1) 0 ≡ 61 → byte_of (text_bit t) (count t) ≡ spare t * 64
  unfolding before sextet
  one p e =
      let q = length t / 4 - 1 in
      let long : 4 ≤ length t = omega (arith, padding_fits t whole) in
      let last = ap sextet (ap (λ (i : ℕ). get_or t i 0) {x = 4 * q + 3} {y = length t - 1} (omega arith) ∙ e) in
      let spared = spare_end t (before t) refl 3 (omega arith) (omega arith) (omega arith) in
      let third = ap (λ (i : ℕ). sextet (get_or t i 0)) {x = before t - 1} {y = 4 * q + 2} (omega arith) in
      ap (byte_of (text_bit t)) (omega (arith, count_is t whole))
      ∙ sym (byte_cut t q (num (text_bit t) (6 * (4 * q)) 24) (3 * q + 2) 16 0 _ refl refl (omega arith) refl)
      ∙ omega (arith, text_group t (4 * q), last, spared, third)

  two : padding t ≡ 2 → get_or t (length t - 1) 0 ≡ 61 → get_or t (length t - 2) 0 ≡ 61 → byte_of (text_bit t) (count t) ≡ spare t * 16
  unfolding before sextet
  two p e d =
      let q = length t / 4 - 1 in
      let long : 4 ≤ length t = omega (arith, padding_fits t whole) in
      let last = ap sextet (ap (λ (i : ℕ). get_or t i 0) {x = 4 * q + 3} {y = length t - 1} (omega arith) ∙ e) in
      let third = ap sextet (ap (λ (i : ℕ). get_or t i 0) {x = 4 * q + 2} {y = length t - 2} (omega arith) ∙ d) in
      let spared = spare_end t (before t) refl 2 (omega arith) (omega arith) (omega arith) in
      let second = ap (λ (i : ℕ). sextet (get_or t i 0)) {x = before t - 1} {y = 4 * q + 1} (omega arith) in
      ap (byte_of (text_bit t)) (omega (arith, count_is t whole))
      ∙ sym (byte_cut t q (num (text_bit t) (6 * (4 * q)) 24) (3 * q + 1) 8 8 _ refl refl (omega arith) refl)
      ∙ second_byte (sextet (get_or t (4 * q) 0) % 64) (sextet (get_or t (4 * q + 1) 0) % 64) _ (omega (arith, text_group t (4 * q), last, third))
      ∙ omega (arith, spared, second)

  -- the byte of the groups after the whole ones, 0 where there is none
  after : ℕ
  after = get_or (bytes_of (text_bit t) (3 * (length t / 4))) (count t) 0

  there : count t < 3 * (length t / 4) → after ≡ byte_of (text_bit t) (count t)
  unfolding after bytes_of
  there l = get_d_run (byte_of (text_bit t)) 0 (3 * (length t / 4)) (count t) l ∙ ap (byte_of (text_bit t)) (omega arith)

  nothing : 3 * (length t / 4) ≤ count t → after ≡ 0
  unfolding after
  nothing l = get_or-eq_default (bytes_of (text_bit t) (3 * (length t / 4))) 0 (omega (arith, length_bytes_of (text_bit t) (3 * (length t / 4))))

  pub spare_after : (get_or (bytes_of (text_bit t) (3 * (length t / 4))) (count t) 0 ≡ 0 → spare t ≡ 0)
      × (spare t ≡ 0 → get_or (bytes_of (text_bit t) (3 * (length t / 4))) (count t) 0 ≡ 0)
  unfolding before after
  spare_after =
      let is = count_is t whole in
      let fits = padding_fits t whole in
      padding_cases t
      (λ p.
      let clean = spare_none t (before t) refl (omega arith) in
      let none = nothing (omega arith) in
      ((λ e. clean), λ e. none))
      (λ p e.
      let here = there (omega arith) ∙ one p e in
      ((λ z. omega (arith, here, z)), λ z. omega (arith, here, z)))
      (λ p e d.
      let here = there (omega arith) ∙ two p e d in
      ((λ z. omega (arith, here, z)), λ z. omega (arith, here, z)))
