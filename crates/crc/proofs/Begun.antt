-- The first bits, up to 64, go in as one number with zeros before them: the register at the start is put in beside them, and
-- what of it is left is put in after.
-- Assumes nothing.
use mathlib.Core.Path.{◌≡◌, refl, sym, ap, ap₂, ◌∙◌}
use Prim.Native.Nat.{ℕ, zero, suc, ◌+◌, ◌-◌, ◌*◌, ◌/◌, ◌%◌, ◌^◌, ◌≤◌, ◌<◌}
use native.Mathlib.Nat.{zero-add, pow-suc, lt_of_lt_of_le, mul-add-mod_self_right}
use native.Mathlib.Omega.{arith}
use lib.Pow.{pow_mono, high}
use lib.Bits.{bit_xor, xor_comm, xor_lt, xor_shifted, xor_block}
use Rattle.bits.specs.Bits.{num}
use Rattle.bits.proofs.Num.{Bits, num_lt, num_zero, num_suc, num_split}
use Rattle.crc_steps.specs.Steps.{step, zeros}
use Rattle.crc_steps.proofs.Xor.{xor_assoc}
use Rattle.crc_steps.proofs.Steps.{polynomial, step_xor, step_zero, step_bit, step_linear, step_up, zeros_lt, zeros_linear}
use Rattle.crc.specs.Crc.{register}
use Rattle.crc.proofs.Ahead.{zeros_add}

-- the 64 bits of x into a register of 0
abbrev pub both : ℕ → ℕ
both x = bit_xor (zeros 64 (x / 2 ^ 32)) (zeros 32 (x % 2 ^ 32))

zeros_step : (n r : ℕ) → zeros n (step r 0) ≡ step (zeros n r) 0
unfolding zeros
zeros_step zero r = refl
zeros_step (suc n) r = zeros_step n (step r 0)

last_bit : (t : ℕ) → t < 2 → zeros 32 t ≡ t * polynomial
unfolding zeros step
last_bit zero h = refl
last_bit (suc zero) h = refl
last_bit (suc (suc t)) h = absurd (omega arith)

both_lt : (x : ℕ) → x < 2 ^ 64 → both x < 2 ^ 32
both_lt x h =
    xor_lt 32 (zeros 64 (x / 2 ^ 32)) (zeros 32 (x % 2 ^ 32)) (zeros_lt 64 (x / 2 ^ 32) (omega arith))
    (zeros_lt 32 (x % 2 ^ 32) (omega arith))

-- one bit more
both_more : (x t : ℕ) → x < 2 ^ 63 → t < 2 → both (x * 2 + t) ≡ bit_xor (step (both x) 0) (t * polynomial)
both_more x t hx ht =
    let h = x / 2 ^ 32 in
    let l = x % 2 ^ 32 in
    let u = l / 2 ^ 31 in
    let v = l % 2 ^ 31 in
    let upper : (x * 2 + t) / 2 ^ 32 ≡ h * 2 ^ 1 + u = omega arith in
    let lower : (x * 2 + t) % 2 ^ 32 ≡ v * 2 ^ 1 + t = omega arith in
    let up : l * 2 % 2 ^ 32 ≡ v * 2 ^ 1 = omega arith in
    let hh : h < 2 ^ 31 = omega arith in
    let hl : l < 2 ^ 32 = omega arith in
    let hu : u < 2 = omega arith in
    let p = zeros 32 (u * polynomial) in
    let w = zeros 32 (v * 2 ^ 1) in
    let a = step (zeros 64 h) 0 in
    let q = t * polynomial in
    let first : zeros 64 ((x * 2 + t) / 2 ^ 32) ≡ bit_xor a p =
    ap (zeros 64) (upper ∙ sym (xor_shifted h 1 u hu)) ∙ zeros_linear 64 (h * 2 ^ 1) u (omega arith) (omega arith)
    ∙ ap₂ bit_xor (ap (zeros 64) (sym (step_up h hh)) ∙ zeros_step 64 h) (zeros_add 32 32 u ∙ ap (zeros 32) (last_bit u hu)) in
    let second : zeros 32 ((x * 2 + t) % 2 ^ 32) ≡ bit_xor w q =
    ap (zeros 32) (lower ∙ sym (xor_shifted v 1 t ht)) ∙ zeros_linear 32 (v * 2 ^ 1) t (omega arith) (omega arith)
    ∙ ap (bit_xor w) (last_bit t ht) in
    let stepped : step (zeros 32 l) 0 ≡ bit_xor w p =
    sym (zeros_step 32 l)
    ∙ ap (zeros 32) (step_zero l hl ∙ ap (λ (y : ℕ). bit_xor y (u * polynomial)) up)
    ∙ zeros_linear 32 (v * 2 ^ 1) (u * polynomial) (omega arith) (omega arith) in
    ap₂ bit_xor first second
    ∙ xor_assoc a p (bit_xor w q)
    ∙ ap (bit_xor a) (sym (xor_assoc p w q) ∙ ap (λ (y : ℕ). bit_xor y q) (xor_comm p w ∙ sym stepped))
    ∙ sym (xor_assoc a (step (zeros 32 l) 0) q)
    ∙ ap (λ (y : ℕ). bit_xor y q)
    (sym (step_linear (zeros 64 h) (zeros 32 l) (zeros_lt 64 h (omega arith)) (zeros_lt 32 l hl)))

-- the register at the start, moved up by n places: what goes in beside the bits, and what is left
abbrev pub start : ℕ → ℕ
start n = 0xFFFFFFFF * 2 ^ n

mod_twice : (m : ℕ) → m * 2 % 2 ^ 32 ≡ m % 2 ^ 32 * 2 % 2 ^ 32
mod_twice m =
    ap (λ (x : ℕ). x % 2 ^ 32) {x = m * 2} {y = m / 2 ^ 32 * 2 * 2 ^ 32 + m % 2 ^ 32 * 2} (omega arith)
    ∙ mul-add-mod_self_right (m / 2 ^ 32 * 2) (2 ^ 32) (m % 2 ^ 32 * 2)

none : bit_xor (both (bit_xor 0 (start 0 / 2 ^ 32))) (start 0 % 2 ^ 32) ≡ 0xFFFFFFFF
unfolding zeros step
none = refl

pub begun : (f : ℕ → ℕ) → Bits f → (n : ℕ) → n ≤ 64
    → bit_xor (both (bit_xor (num f 0 n) (start n / 2 ^ 32))) (start n % 2 ^ 32) ≡ register f n
unfolding register
begun f bits zero h =
    ap (λ (y : ℕ). bit_xor (both (bit_xor y (start 0 / 2 ^ 32))) (start 0 % 2 ^ 32)) (num_zero f 0) ∙ none
begun f bits (suc n) h =
    let m = start n in
    let x = bit_xor (num f 0 n) (m / 2 ^ 32) in
    let s = m % 2 ^ 32 in
    let t = s / 2 ^ 31 in
    let b = f n in
    let hb : b < 2 = bits n in
    let ht : t < 2 = omega arith in
    let small : 2 ^ n ≤ 2 ^ 63 = pow_mono {i = n} {j = 63} (omega arith) in
    let hx : x < 2 ^ 63 =
    xor_lt 63 (num f 0 n) (m / 2 ^ 32) (lt_of_lt_of_le (num_lt f bits 0 n) small) (omega (arith, small)) in
    let twice : start (suc n) ≡ m * 2 = rw pow-suc (omega arith) in
    let word : bit_xor (num f 0 (suc n)) (start (suc n) / 2 ^ 32) ≡ x * 2 + bit_xor b t =
    ap₂ bit_xor {y = num f 0 n * 2 ^ 1 + b} {v = m / 2 ^ 32 * 2 ^ 1 + t} (num_suc f 0 n ∙ ap (λ (k : ℕ). num f 0 n * 2 + f k) (zero-add n)) (omega (arith, twice))
    ∙ xor_block 1 (num f 0 n) (m / 2 ^ 32) b t hb ht in
    let left : start (suc n) % 2 ^ 32 ≡ s * 2 % 2 ^ 32 = ap (λ (k : ℕ). k % 2 ^ 32) twice ∙ mod_twice m in
    let z = both x in
    let hz : z < 2 ^ 32 = both_lt x (omega (arith, hx)) in
    let hs : s < 2 ^ 32 = omega arith in
    let e = s * 2 % 2 ^ 32 in
    let p = bit_xor b t * polynomial in
    let bit = xor_lt 1 b t hb ht in
    ap₂ (λ (y k : ℕ). bit_xor (both y) k) word left
    ∙ ap (λ (y : ℕ). bit_xor y e) (both_more x (bit_xor b t) (omega (arith, hx)) bit)
    ∙ xor_assoc (step z 0) p e
    ∙ ap (bit_xor (step z 0))
    (xor_comm p e ∙ ap (λ (y : ℕ). bit_xor e (y * polynomial)) (xor_comm b t) ∙ sym (step_xor s b hs hb) ∙ step_bit s b hs hb)
    ∙ sym (step_linear z (bit_xor s (b * 2 ^ 31)) hz (xor_lt 32 s (b * 2 ^ 31) hs (omega (arith, hb))))
    ∙ ap (λ (y : ℕ). step y 0) (sym (xor_assoc z s (b * 2 ^ 31)))
    ∙ sym (step_bit (bit_xor z s) b (xor_lt 32 z s hz hs) hb)
    ∙ ap (λ (y : ℕ). step y b) (begun f bits n (omega arith))

-- what holds of 0 to 7
below_8 : (P : ℕ → Type 0) → P 0 → P 1 → P 2 → P 3 → P 4 → P 5 → P 6 → P 7 → (m : ℕ) → m < 8 → P m
below_8 P p0 p1 p2 p3 p4 p5 p6 p7 zero h = p0
below_8 P p0 p1 p2 p3 p4 p5 p6 p7 (suc zero) h = p1
below_8 P p0 p1 p2 p3 p4 p5 p6 p7 (suc (suc zero)) h = p2
below_8 P p0 p1 p2 p3 p4 p5 p6 p7 (suc (suc (suc zero))) h = p3
below_8 P p0 p1 p2 p3 p4 p5 p6 p7 (suc (suc (suc (suc zero)))) h = p4
below_8 P p0 p1 p2 p3 p4 p5 p6 p7 (suc (suc (suc (suc (suc zero))))) h = p5
below_8 P p0 p1 p2 p3 p4 p5 p6 p7 (suc (suc (suc (suc (suc (suc zero)))))) h = p6
below_8 P p0 p1 p2 p3 p4 p5 p6 p7 (suc (suc (suc (suc (suc (suc (suc zero))))))) h = p7
below_8 P p0 p1 p2 p3 p4 p5 p6 p7 (suc (suc (suc (suc (suc (suc (suc (suc m)))))))) h = absurd (omega arith)

-- what goes in beside the first m + 1 of eight bytes, and those bytes
pub beside : (m : ℕ) → m < 8 → 0xFFFFFFFF00000000 / 2 ^ (56 - 8 * m) ≡ start (8 * (m + 1)) / 2 ^ 32
beside =
    below_8 (λ (m : ℕ). 0xFFFFFFFF00000000 / 2 ^ (56 - 8 * m) ≡ start (8 * (m + 1)) / 2 ^ 32)
    refl refl refl refl refl refl refl refl

pub cut : (f : ℕ → ℕ) → Bits f → (m : ℕ) → m < 8 → num f 0 64 / 2 ^ (56 - 8 * m) ≡ num f 0 (8 * (m + 1))
cut f bits m h =
    let n = 8 * (m + 1) in
    let k = 56 - 8 * m in
    let whole : 64 ≡ n + k = omega arith in
    ap (λ (w : ℕ). num f 0 w / 2 ^ k) whole ∙ ap (λ (y : ℕ). y / 2 ^ k) (num_split f 0 n k)
    ∙ high (num f 0 n) k (num_lt f bits (0 + n) k)

-- what is left, moved up in two goes
pub left : (m : ℕ) → m < 8 → 0xFFFFFFFF * 2 ^ (8 * m) % 2 ^ 64 * 2 ^ 8 % 2 ^ 64 % 2 ^ 32 ≡ start (8 * (m + 1)) % 2 ^ 32
left =
    below_8 (λ (m : ℕ). 0xFFFFFFFF * 2 ^ (8 * m) % 2 ^ 64 * 2 ^ 8 % 2 ^ 64 % 2 ^ 32 ≡ start (8 * (m + 1)) % 2 ^ 32)
    refl refl refl refl refl refl refl refl
