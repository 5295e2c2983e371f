-- Bits to come may be put into the register beforehand: n more bits lead where n bits of 0 lead from the register with those
-- bits in its n top places.
-- Assumes nothing.
use mathlib.Core.Path.{◌≡◌, refl, sym, ap, ap₂, ◌∙◌}
use Prim.Native.Nat.{ℕ, zero, suc, ◌+◌, ◌*◌, ◌/◌, ◌%◌, ◌^◌, ◌<◌}
use native.Mathlib.Nat.{add-suc, suc-add, add-zero, zero-mul, pow-suc}
use native.Mathlib.Omega.{arith}
use lib.Dec.{lit<}
use lib.Pow.{pow-add, shl_lt}
use lib.Bits.{bit_xor, xor_zero_r, xor_lt, xor_shifted}
use Rattle.bits.specs.Bits.{num}
use Rattle.bits.proofs.Num.{Bits, num_first, num_zero, num_lt}
use Rattle.crc_steps.specs.Steps.{step, zeros}
use Rattle.crc_steps.proofs.Xor.{xor_assoc, xor_zero}
use Rattle.crc_steps.proofs.Steps.{polynomial, step_zero, step_bit, step_lt, step_linear, step_up}
use Rattle.crc.specs.Crc.{register}

-- the register comes to 0 from 0 alone
pub zeros_zero : (n : ℕ) → zeros n 0 ≡ 0
unfolding zeros step
zeros_zero zero = refl
zeros_zero (suc n) = zeros_zero n

-- the polynomial is odd
odd : (u t : ℕ) → t < 2 → u % 2 ≡ 0 → u ≡ t * polynomial → t ≡ 0
odd u zero h e p = refl
odd u (suc zero) h e p = absurd (omega arith)
odd u (suc (suc t)) h e p = absurd (omega arith)

step_back : (r : ℕ) → r < 2 ^ 32 → step r 0 ≡ 0 → r ≡ 0
step_back r h e =
    let p : r * 2 % 2 ^ 32 ≡ r / 2 ^ 31 * polynomial = xor_zero _ _ (sym (step_zero r h) ∙ e) in
    let top : r / 2 ^ 31 ≡ 0 = odd (r * 2 % 2 ^ 32) (r / 2 ^ 31) (omega arith) (omega arith) p in
    omega (arith, sym (step_up r (omega arith)) ∙ e)

pub zeros_back : (n r : ℕ) → r < 2 ^ 32 → zeros n r ≡ 0 → r ≡ 0
unfolding zeros
zeros_back zero r h e = e
zeros_back (suc n) r h e = step_back r h (zeros_back n (step r 0) (step_lt r 0 h (lit< tt)) e)

-- ---- bits that come

pub register_ext : (f g : ℕ → ℕ) (n : ℕ) → ((k : ℕ) → k < n → f k ≡ g k) → register f n ≡ register g n
unfolding register
register_ext f g zero h = refl
register_ext f g (suc n) h = ap₂ step (register_ext f g n (λ k m. h k (omega arith))) (h n (omega arith))

pub register_lt : (f : ℕ → ℕ) → Bits f → (n : ℕ) → register f n < 2 ^ 32
unfolding register
register_lt f h zero = lit< tt
register_lt f h (suc n) = step_lt (register f n) (f n) (register_lt f h n) (h n)

-- a field in the top places: its first bit, and the rest below it
top_first : (f : ℕ → ℕ) (k n m : ℕ) → n + m ≡ 31 → num f k (suc n) * 2 ^ m ≡ f k * 2 ^ 31 + num f (suc k) n * 2 ^ m
top_first f k n m e =
    let p : 2 ^ 31 ≡ 2 ^ n * 2 ^ m = ap (λ (x : ℕ). 2 ^ x) (sym e) ∙ pow-add 2 n m in
    rw (p, num_first) (omega arith)

-- n more bits, put into the n top places, go on as n bits of 0
pub register_more : (f : ℕ → ℕ) → Bits f → (k n m : ℕ) → n + m ≡ 32
    → register f (k + n) ≡ zeros n (bit_xor (register f k) (num f k n * 2 ^ m))
unfolding zeros register
register_more f h k zero m e = rw (add-zero, num_zero, zero-mul) (sym (xor_zero_r (register f k)))
register_more f h k (suc n) m e =
    ap (register f) (add-suc k n ∙ sym (suc-add k n)) ∙ register_more f h (suc k) n (suc m) (omega arith)
    ∙ ap (zeros n)
    (ap₂ bit_xor
    (step_bit (register f k) (f k) (register_lt f h k) (h k))
    (rw pow-suc (omega arith) ∙ sym (step_up v v_lt))
    ∙ sym (step_linear (bit_xor (register f k) (f k * 2 ^ 31)) v (xor_lt 32 (register f k) (f k * 2 ^ 31) (register_lt f h k) (omega (arith, h k))) (omega (arith, v_lt)))
    ∙ ap (λ (x : ℕ). step x 0)
    (xor_assoc (register f k) (f k * 2 ^ 31) v
    ∙ ap (bit_xor (register f k)) (xor_shifted (f k) 31 v v_lt ∙ sym (top_first f k n m (omega arith)))))
  where
    v : ℕ
    v = num f (suc k) n * 2 ^ m

    v_lt : v < 2 ^ 31
    v_lt =
        let e31 : n + m ≡ 31 = omega arith in
        rw e31 at (shl_lt n m (num_lt f h (suc k) n))
