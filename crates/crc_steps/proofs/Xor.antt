-- Laws of xor on numbers, beside those of lib.Bits: digit by digit, associative, and zero only of equals.
-- Assumes nothing.
use mathlib.Core.Path.{◌≡◌, refl, sym, ap, ap₂, ◌∙◌}
use Prim.Native.Nat.{ℕ, zero, suc, ◌+◌, ◌*◌, ◌/◌, ◌%◌, ◌^◌, ◌<◌}
use native.Mathlib.Nat.{mod-lt, zero-lt-suc, add_comm, add-zero}
use native.Mathlib.Omega.{arith}
use lib.Arith.{bin_ind}
use lib.Pow.{pow_pos}
use lib.Bits.{bit_xor, differ, xor_step, xor_comm, xor_self, xor_zero_r, xor_block}

-- what holds of 0 and 1 in both places holds of any two bits
pub two_bits : (P : ℕ → ℕ → Type 0) → P 0 0 → P 0 1 → P 1 0 → P 1 1 → (a b : ℕ) → a < 2 → b < 2 → P a b
two_bits P p q r s zero zero ha hb = p
two_bits P p q r s zero (suc zero) ha hb = q
two_bits P p q r s (suc zero) zero ha hb = r
two_bits P p q r s (suc zero) (suc zero) ha hb = s
two_bits P p q r s zero (suc (suc b)) ha hb = absurd (omega arith)
two_bits P p q r s (suc zero) (suc (suc b)) ha hb = absurd (omega arith)
two_bits P p q r s (suc (suc a)) b ha hb = absurd (omega arith)

differ_sum : (x y : ℕ) → x < 2 → y < 2 → differ x y ≡ (x + y) % 2
differ_sum = two_bits (λ (x y : ℕ). differ x y ≡ (x + y) % 2) refl refl refl refl

-- the lowest digit is that of the sum
xor_digit : (a b : ℕ) → bit_xor a b ≡ bit_xor (a / 2) (b / 2) * 2 + (a + b) % 2
xor_digit a b =
    xor_step a b
    ∙ ap (λ (d : ℕ). bit_xor (a / 2) (b / 2) * 2 + d)
    (differ_sum (a % 2) (b % 2) (mod-lt a (zero-lt-suc 1)) (mod-lt b (zero-lt-suc 1)) ∙ omega arith)

xor_half : (a b : ℕ) → bit_xor a b / 2 ≡ bit_xor (a / 2) (b / 2)
xor_half a b = omega (arith, xor_digit a b)

xor_odd : (a b : ℕ) → bit_xor a b % 2 ≡ (a + b) % 2
xor_odd a b = omega (arith, xor_digit a b)

-- only the lowest digit counts for the lowest digit of a sum
same_odd : (x y c : ℕ) → x % 2 ≡ y % 2 → (x + c) % 2 ≡ (y + c) % 2
same_odd x y c h = omega arith

pub xor_assoc : (a b c : ℕ) → bit_xor (bit_xor a b) c ≡ bit_xor a (bit_xor b c)
xor_assoc a b c =
    bin_ind (λ (n : ℕ). (b c : ℕ) → bit_xor (bit_xor n b) c ≡ bit_xor n (bit_xor b c)) (λ b c. refl)
    (λ n ih b c.
    xor_digit (bit_xor n b) c
    ∙ ap₂ (λ (x y : ℕ). x * 2 + y)
    (ap (λ (x : ℕ). bit_xor x (c / 2)) (xor_half n b) ∙ ih (b / 2) (c / 2) ∙ ap (bit_xor (n / 2)) (sym (xor_half b c)))
    (same_odd (bit_xor n b) (n + b) c (xor_odd n b) ∙ ap (λ (x : ℕ). x % 2) (omega arith)
    ∙ same_odd (b + c) (bit_xor b c) n (sym (xor_odd b c)) ∙ ap (λ (x : ℕ). x % 2) (add_comm (bit_xor b c) n))
    ∙ sym (xor_digit n (bit_xor b c)))
    a b c

-- four numbers in another order
pub xor_swap : (a b c d : ℕ) → bit_xor (bit_xor a b) (bit_xor c d) ≡ bit_xor (bit_xor a c) (bit_xor b d)
xor_swap a b c d =
    xor_assoc a b (bit_xor c d)
    ∙ ap (bit_xor a) (sym (xor_assoc b c d) ∙ ap (λ (x : ℕ). bit_xor x d) (xor_comm b c) ∙ xor_assoc c b d)
    ∙ sym (xor_assoc a c (bit_xor b d))

-- only of equal numbers is the xor 0
pub xor_zero : (a b : ℕ) → bit_xor a b ≡ 0 → a ≡ b
xor_zero a b h =
    sym (xor_zero_r a) ∙ ap (bit_xor a) (sym (xor_self b)) ∙ sym (xor_assoc a b b) ∙ ap (λ (x : ℕ). bit_xor x b) h

-- xor of two numbers that are moved up alike
pub xor_shl : (k a b : ℕ) → bit_xor (a * 2 ^ k) (b * 2 ^ k) ≡ bit_xor a b * 2 ^ k
xor_shl k a b = simp add-zero at (xor_block k a b 0 0 (pow_pos k) (pow_pos k))
