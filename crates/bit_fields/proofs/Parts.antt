-- The bits of bytes put together, and of a part of them.
-- Assumes nothing.
use mathlib.Core.Path.{◌≡◌, ap, ap₂, ◌∙◌}
use mathlib.Core.List.{List, ◌++◌}
use Prim.Native.Nat.{ℕ, ◌+◌, ◌-◌, ◌*◌, ◌/◌, ◌%◌, ◌^◌, ◌≤◌, ◌<◌}
use native.Mathlib.Omega.{arith}
use lib.ListN.{length, get_or, take, drop, length-drop, get_or-append}
use lib.Seq.{length-take-le, get_or-take, get_or-drop, get_or-append-add}
use Rattle.bit_fields.specs.Bits.{bit, num, field_of}
use Rattle.bit_fields.proofs.Num.{num_ext}
use Rattle.bit_fields.proofs.Within.{field_there}

-- ---- put together

pub bit_left : (xs ys : List ℕ) (k : ℕ) → k < 8 * length xs → bit (xs ++ ys) k ≡ bit xs k
unfolding bit
bit_left xs ys k h = ap (λ (b : ℕ). b / 2 ^ (7 - k % 8) % 2) (get_or-append xs ys 0 (k / 8) (omega arith))

pub bit_right : (xs ys : List ℕ) (k : ℕ) → bit (xs ++ ys) (8 * length xs + k) ≡ bit ys k
unfolding bit
bit_right xs ys k =
    let q : (8 * length xs + k) / 8 ≡ length xs + k / 8 = omega arith in
    let p : (8 * length xs + k) % 8 ≡ k % 8 = omega arith in
    rw (q, p, get_or-append-add xs ys (k / 8) 0)

-- ---- a part

-- a field of a part of the bytes is a field of the bytes
pub num_in_part : (s : List ℕ) (n m k w : ℕ) → k + w ≤ 8 * m → num (bit (take m (drop n s))) k w ≡ num (bit s) (8 * n + k) w
unfolding bit
num_in_part s n m k w fits =
    num_ext (bit (take m (drop n s))) (bit s) k (8 * n + k) w
    (λ i h.
    let byte : n + (k + i) / 8 ≡ (8 * n + k + i) / 8 = omega arith in
    let place : (k + i) % 8 ≡ (8 * n + k + i) % 8 = omega arith in
    ap₂ (λ (x y : ℕ). x / 2 ^ (7 - y) % 2)
    (get_or-take m (drop n s) ((k + i) / 8) 0 (omega arith) ∙ get_or-drop n s ((k + i) / 8) 0 ∙ ap (λ (x : ℕ). get_or s x 0) byte)
    place)

-- so it is read there
pub field_in_part : (s : List ℕ) (n m k w : ℕ) → w ≤ 48 → k + w ≤ 8 * m → n + m ≤ length s
    → field_of (take m (drop n s)) k w ≡ num (bit s) (8 * n + k) w
field_in_part s n m k w narrow-enough fits there =
    let size : length (take m (drop n s)) ≡ m = length-take-le m (drop n s) (omega (arith, length-drop n s)) in
    field_there (take m (drop n s)) k w narrow-enough (omega arith)
    ∙ num_in_part s n m k w fits
