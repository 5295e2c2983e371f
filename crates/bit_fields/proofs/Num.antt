-- The number that bits make: it is below 2 to the width, splits into neighbours, and depends on its own bits alone.
-- Assumes nothing.
use mathlib.Core.Path.{◌≡◌, refl, sym, ap, ap₂, ◌∙◌}
use Prim.Native.Nat.{ℕ, zero, suc, ◌+◌, ◌-◌, ◌*◌, ◌/◌, ◌%◌, ◌^◌, ◌≤◌, ◌<◌}
use native.Mathlib.Nat.{pow-suc, add-suc, add-zero, add_assoc, mul-lt-mul_of_pos_right}
use native.Mathlib.Numerals.{add-one, one-add}
use native.Mathlib.Omega.{arith}
use lib.Pow.{pow_pos, pow-add, high, low, shr-shr, shl-shr}
use Rattle.bit_fields.specs.Bits.{num}

-- each value of f is 0 or 1
abbrev pub Bits : (ℕ → ℕ) → Type 0
Bits f = (k : ℕ) → f k < 2

pub num_zero : (f : ℕ → ℕ) (k : ℕ) → num f k 0 ≡ 0
unfolding num
num_zero f k = refl

pub num_suc : (f : ℕ → ℕ) (k w : ℕ) → num f k (suc w) ≡ num f k w * 2 + f (k + w)
unfolding num
num_suc f k w = refl

pub num_lt : (f : ℕ → ℕ) → Bits f → (k w : ℕ) → num f k w < 2 ^ w
num_lt f h k zero = rw num_zero (omega arith)
num_lt f h k (suc w) = rw (num_suc, pow-suc) (omega (arith, num_lt f h k w, h (k + w)))

-- a field of one bit is that bit
pub num_one : (f : ℕ → ℕ) (k : ℕ) → num f k 1 ≡ f k
num_one f k = num_suc f k 0 ∙ ap₂ (λ (x y : ℕ). x * 2 + y) (num_zero f k) (ap f (add-zero k)) ∙ omega arith

-- a field splits into two neighbours
pub num_split : (f : ℕ → ℕ) (k a b : ℕ) → num f k (a + b) ≡ num f k a * 2 ^ b + num f (k + a) b
num_split f k a zero = rw (add-zero, num_zero) (omega arith)
num_split f k a (suc b) =
    rw (add-suc, num_suc f k (a + b), num_suc f (k + a) b, num_split f k a b, pow-suc, add_assoc k a b)
    (omega (arith))

-- the first bit, and the rest below it
pub num_first : (f : ℕ → ℕ) (k w : ℕ) → num f k (suc w) ≡ f k * 2 ^ w + num f (suc k) w
num_first f k w = simp (one-add, add-one, num_one) at (num_split f k 1 w)

-- equal bits give equal fields
pub num_ext : (f g : ℕ → ℕ) (k l w : ℕ) → ((i : ℕ) → i < w → f (k + i) ≡ g (l + i)) → num f k w ≡ num g l w
num_ext f g k l zero h = num_zero f k ∙ sym (num_zero g l)
num_ext f g k l (suc w) h =
    num_suc f k w
    ∙ ap₂ (λ (x y : ℕ). x * 2 + y) (num_ext f g k l w (λ i m. h i (omega arith))) (h w (omega arith))
    ∙ sym (num_suc g l w)

-- a part of a field, cut out by a quotient and a remainder
pub num_part : (f : ℕ → ℕ) → Bits f → (k a b c : ℕ) → num f k (a + b + c) / 2 ^ c % 2 ^ b ≡ num f (k + a) b
num_part f h k a b c =
    ap (λ (x : ℕ). x / 2 ^ c % 2 ^ b) (num_split f k (a + b) c)
    ∙ ap (λ (x : ℕ). x % 2 ^ b) (high (num f k (a + b)) c (num_lt f h (k + (a + b)) c))
    ∙ ap (λ (x : ℕ). x % 2 ^ b) (num_split f k a b)
    ∙ low (num f k a) b (num_lt f h (k + a) b)

-- the same for a part that lies at place p
pub num_part_at : (f : ℕ → ℕ) → Bits f → (k a b c p : ℕ) → p ≡ k + a → num f k (a + b + c) / 2 ^ c % 2 ^ b ≡ num f p b
num_part_at f h k a b c p e = num_part f h k a b c ∙ ap (λ (q : ℕ). num f q b) (sym e)

-- a field splits into three
pub num_three : (f : ℕ → ℕ) (k a b c : ℕ) → num f k (a + (b + c)) ≡ num f k a * 2 ^ (b + c) + (num f (k + a) b * 2 ^ c + num f (k + a + b) c)
num_three f k a b c = num_split f k a (b + c) ∙ ap (λ (x : ℕ). num f k a * 2 ^ (b + c) + x) (num_split f (k + a) b c)

-- a part of a field, cut out by a shift up and a shift down
pub num_cut : (f : ℕ → ℕ) → Bits f → (k a b c : ℕ) → num f k (a + (b + c)) * 2 ^ a % 2 ^ (a + (b + c)) / 2 ^ (a + c) ≡ num f (k + a) b
num_cut f h k a b c =
    let low_part : ℕ = num f (k + a) (b + c) in
    let up : num f k (a + (b + c)) * 2 ^ a ≡ num f k a * 2 ^ (a + (b + c)) + low_part * 2 ^ a =
    rw (num_split f k a (b + c), pow-add 2 a (b + c)) (omega arith) in
    let fits : low_part * 2 ^ a < 2 ^ (a + (b + c)) =
    rw (pow-add 2 a (b + c)) (omega (arith, mul-lt-mul_of_pos_right (num_lt f h (k + a) (b + c)) (pow_pos a))) in
    ap (λ (x : ℕ). x % 2 ^ (a + (b + c)) / 2 ^ (a + c)) up
    ∙ ap (λ (x : ℕ). x / 2 ^ (a + c)) (low (num f k a) (a + (b + c)) fits)
    ∙ sym (shr-shr (low_part * 2 ^ a) a c)
    ∙ ap (λ (x : ℕ). x / 2 ^ c) (shl-shr low_part a)
    ∙ ap (λ (x : ℕ). x / 2 ^ c) (num_split f (k + a) b c)
    ∙ high (num f (k + a) b) c (num_lt f h (k + a + b) c)

-- a field of at most 56 bits, cut out of the 64 bits from the start of its first byte on
pub num_in_word : (f : ℕ → ℕ) → Bits f → (at w : ℕ) → w ≤ 56
    → num f (8 * (at / 8)) 64 * 2 ^ (at % 8) % 2 ^ 64 / 2 ^ (64 - w) ≡ num f at w
num_in_word f h at w l =
    let a : ℕ = at % 8 in
    let c : ℕ = 64 - a - w in
    let whole : at % 8 + (w + (64 - at % 8 - w)) ≡ 64 = omega arith in
    let down : at % 8 + (64 - at % 8 - w) ≡ 64 - w = omega arith in
    let here : 8 * (at / 8) + at % 8 ≡ at = omega arith in
    rw (whole, down, here) at (num_cut f h (8 * (at / 8)) a w c)
