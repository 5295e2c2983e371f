-- The bits of a number make that number, and the bits of a row of digits, each of u bits, make its digits;
-- each bit comes back out of the number that a field makes, and zeros alone make 0.
-- Assumes nothing.
use mathlib.Core.Path.{◌≡◌, sym, ap, ap₂, ◌∙◌}
use mathlib.Core.Logic.{⊎_elim}
use Prim.Native.Nat.{ℕ, zero, suc, ◌+◌, ◌-◌, ◌*◌, ◌/◌, ◌%◌, ◌^◌, ◌<◌}
use native.Mathlib.Nat.{le_of_suc-le-suc, eq-or-lt_of_le}
use native.Mathlib.Numerals.{add-one}
use native.Mathlib.Omega.{arith}
use lib.Pow.{mod-pow-add, shr-shr}
use Rattle.bit_fields.specs.Bits.{num}
use Rattle.bit_fields.proofs.Num.{Bits, num_zero, num_one, num_suc, num_split, num_part}

-- the digits of a number, most significant first, make it again
pub num_digits : (f : ℕ → ℕ) (k v w : ℕ) → ((i : ℕ) → i < w → f (k + i) ≡ v / 2 ^ (w - (i + 1)) % 2) → num f k w ≡ v % 2 ^ w
num_digits f k v zero h = rw num_zero (omega arith)
num_digits f k v (suc w) h =
    let none : suc w - (w + 1) ≡ 0 = omega arith in
    let low : f (k + w) ≡ v % 2 = h w (omega arith) ∙ ap (λ (e : ℕ). v / 2 ^ e % 2) none ∙ omega arith in
    num_suc f k w
    ∙ ap₂ (λ (x y : ℕ). x * 2 + y) (num_digits f k (v / 2) w (λ i m. h i (omega arith) ∙ halved i m)) low
    ∙ sym (mod-pow-add v w 1)
    ∙ ap (λ (e : ℕ). v % 2 ^ e) (add-one w)
  where
    halved : (i : ℕ) → i < w → v / 2 ^ (suc w - (i + 1)) % 2 ≡ v / 2 / 2 ^ (w - (i + 1)) % 2
    halved i m =
        let one_more : suc w - (i + 1) ≡ 1 + (w - (i + 1)) = omega arith in
        ap (λ (e : ℕ). v / 2 ^ e % 2) one_more ∙ ap (λ (x : ℕ). x % 2) (sym (shr-shr v 1 (w - (i + 1))))

module _ (u : ℕ) (f d : ℕ → ℕ) (each : (n j : ℕ) → j < u → f (u * n + j) ≡ d n / 2 ^ (u - (j + 1)) % 2) where
  -- the last b bits of digit n
  pub digit_end : (n a b : ℕ) → a + b ≡ u → num f (u * n + a) b ≡ d n % 2 ^ b
  digit_end n a b e =
      num_digits f (u * n + a) (d n) b
      (λ j h.
      ap f (omega arith) ∙ each n (a + j) (omega arith) ∙ ap (λ (x : ℕ). d n / 2 ^ x % 2) (omega arith))

  pub digit_whole : (n : ℕ) → num f (u * n) u ≡ d n % 2 ^ u
  digit_whole n = ap (λ (k : ℕ). num f k u) (omega arith) ∙ digit_end n 0 u (omega arith)

  -- the digits n up to n + m, and one more
  pub digit_more : (n m : ℕ) → num f (u * n) (u * m + u) ≡ num f (u * n) (u * m) * 2 ^ u + d (n + m) % 2 ^ u
  digit_more n m =
      num_split f (u * n) (u * m) u
      ∙ ap (λ (x : ℕ). num f (u * n) (u * m) * 2 ^ u + x)
      (ap (λ (k : ℕ). num f k u) (omega arith) ∙ digit_whole (n + m))

-- one bit of the number that a field makes
pub bit_of : (f : ℕ → ℕ) → Bits f → (k w j : ℕ) → j < w → num f k w / 2 ^ (w - (j + 1)) % 2 ≡ f (k + j)
bit_of f h k w j l =
    let c = w - (j + 1) in
    ap (λ (x : ℕ). num f k x / 2 ^ c % 2) (omega arith) ∙ num_part f h k j 1 c ∙ num_one f (k + j)

-- bits that are all 0 make 0, and only they do
pub zeros : (f : ℕ → ℕ) (k w : ℕ) → ((j : ℕ) → j < w → f (k + j) ≡ 0) → num f k w ≡ 0
zeros f k zero h = num_zero f k
zeros f k (suc w) h = rw (num_suc, zeros f k w (λ j l. h j (omega arith)), h w (omega arith))

pub zero_each : (f : ℕ → ℕ) (k w : ℕ) → num f k w ≡ 0 → (j : ℕ) → j < w → f (k + j) ≡ 0
zero_each f k (suc w) e j l =
    let sum : num f k w * 2 + f (k + w) ≡ 0 = sym (num_suc f k w) ∙ e in
    ⊎_elim (λ q. ap (λ (x : ℕ). f (k + x)) q ∙ omega arith) (λ m. zero_each f k w (omega arith) j m)
    (eq-or-lt_of_le (le_of_suc-le-suc l))
zero_each f k zero e j l = absurd (omega arith)
