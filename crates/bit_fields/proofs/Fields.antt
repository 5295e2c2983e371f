-- What writing a field does to reading: the field itself reads as the value, every other as before, and a list of
-- fields written one after another reads back as that list.
-- Assumes nothing.
use mathlib.Core.Path.{◌≡◌, refl, sym, ap, ap₂, ◌∙◌}
use mathlib.Core.Bool.{Bool, true, false, ◌&&◌}
use mathlib.Core.List.{List, [], ◌∷◌, map}
use mathlib.Core.Logic.{◌⊎◌, inl, ⊎_elim}
use Prim.Native.Nat.{ℕ, ◌+◌, ◌*◌, ◌^◌, ◌≤◌, ◌<◌}
use native.Mathlib.Omega.{arith}
use lib.ListN.{length}
use lib.Dec.{leb, ltb}
use lib.Pow.{pow_pos}
use Rattle.bit_fields.specs.Bits.{bit, within, field_of, patched, writable, written_of, write_all, all_writable, read_all}
use Rattle.bit_fields.proofs.Cases.{by_cases, and_left, and_right}
use Rattle.bit_fields.proofs.Num.{num_lt, num_ext}
use Rattle.bit_fields.proofs.Bytes.{AreBytes, bit_lt, bit_bytes_of, length_bytes_of, are_bytes_of}
use Rattle.bit_fields.proofs.Within.{within_end, field_in, field_out, writable_within, writable_small, written_in, written_out}
use Rattle.bit_fields.proofs.Patch.{patched_bits, patched_before, patched_after, num_here}

-- a field is below 2 to its width
pub field_lt : (s : List ℕ) (at w : ℕ) → field_of s at w < 2 ^ w
field_lt s at w =
    ⊎_elim (λ h. rw (field_in s at w h) (num_lt (bit s) (bit_lt s) at w))
    (λ h. rw (field_out s at w h) (pow_pos w))
    (by_cases (within s at w))

-- whether a field can be read or written goes by the length of the bytes alone
pub within_length : (s t : List ℕ) (at w : ℕ) → length s ≡ length t → within s at w ≡ within t at w
unfolding within
within_length s t at w e = ap (λ (n : ℕ). leb w 48 && leb (at + w) (8 * n)) e

pub writable_length : (s t : List ℕ) (at w v : ℕ) → length s ≡ length t → writable s at w v ≡ writable t at w v
unfolding writable
writable_length s t at w v e = ap (λ (b : Bool). b && ltb v (2 ^ w)) (within_length s t at w e)

-- writing keeps the length
pub length_written : (s : List ℕ) (at w v : ℕ) → length (written_of s at w v) ≡ length s
length_written s at w v =
    ⊎_elim (λ h. ap length (written_in s at w v h) ∙ length_bytes_of (patched (bit s) at w v) (length s))
    (λ h. ap length (written_out s at w v h))
    (by_cases (writable s at w v))

-- writing leaves bytes
pub written_bytes : (s : List ℕ) (at w v : ℕ) → AreBytes s → AreBytes (written_of s at w v)
written_bytes s at w v hs =
    ⊎_elim (λ h. rw (written_in s at w v h) (are_bytes_of (patched (bit s) at w v) (patched_bits (bit s) at w v (bit_lt s)) (length s)))
    (λ h. rw (written_out s at w v h) hs)
    (by_cases (writable s at w v))

-- the bits after writing
bit_written : (s : List ℕ) (at w v : ℕ) → writable s at w v ≡ true → (k : ℕ) → k < 8 * length s
    → bit (written_of s at w v) k ≡ patched (bit s) at w v k
bit_written s at w v h k l =
    ap (λ (t : List ℕ). bit t k) (written_in s at w v h) ∙ bit_bytes_of (patched (bit s) at w v) (patched_bits (bit s) at w v (bit_lt s)) (length s) k l

-- write, then read
pub write_read : (s : List ℕ) (at w v : ℕ) → writable s at w v ≡ true → field_of (written_of s at w v) at w ≡ v
write_read s at w v h =
    let inside : within s at w ≡ true = writable_within s at w v h in
    field_in (written_of s at w v) at w (within_length (written_of s at w v) s at w (length_written s at w v) ∙ inside)
    ∙ num_ext (bit (written_of s at w v)) (patched (bit s) at w v) at at w
    (λ i m. bit_written s at w v h (at + i) (omega (arith, within_end s at w inside)))
    ∙ num_here (bit s) at w v (writable_small s at w v h)

-- reading elsewhere is unchanged
pub elsewhere : (s : List ℕ) (at w v k l : ℕ) → (k + l ≤ at) ⊎ (at + w ≤ k) → field_of (written_of s at w v) k l ≡ field_of s k l
elsewhere s at w v k l apart =
    ⊎_elim (λ h. ⊎_elim (λ m. same h m) (λ m. neither m) (by_cases (within s k l)))
    (λ h. ap (λ (t : List ℕ). field_of t k l) (written_out s at w v h))
    (by_cases (writable s at w v))
  where
    within_too : within (written_of s at w v) k l ≡ within s k l
    within_too = within_length (written_of s at w v) s k l (length_written s at w v)

    neither : within s k l ≡ false → field_of (written_of s at w v) k l ≡ field_of s k l
    neither m = field_out (written_of s at w v) k l (within_too ∙ m) ∙ sym (field_out s k l m)

    same : writable s at w v ≡ true → within s k l ≡ true → field_of (written_of s at w v) k l ≡ field_of s k l
    same h m =
        field_in (written_of s at w v) k l (within_too ∙ m)
        ∙ num_ext (bit (written_of s at w v)) (bit s) k k l
        (λ i n.
        bit_written s at w v h (k + i) (omega (arith, within_end s k l m))
        ∙ ⊎_elim (λ b. patched_before (bit s) at w v (k + i) (omega arith)) (λ a. patched_after (bit s) at w v (k + i) (omega arith)) apart)
        ∙ sym (field_in s k l m)

-- ---- fields one after another

pub all_length : (s t : List ℕ) (at : ℕ) (xs : List (ℕ × ℕ)) → length s ≡ length t → all_writable s at xs ≡ all_writable t at xs
unfolding all_writable
all_length s t at [] e = refl
all_length s t at (x ∷ xs) e = ap₂ ◌&&◌ (writable_length s t at x.0 x.1 e) (all_length s t (at + x.0) xs e)

-- fields written further on leave a field as it is
pub all_elsewhere : (s : List ℕ) (at : ℕ) (xs : List (ℕ × ℕ)) (k l : ℕ) → k + l ≤ at → field_of (write_all s at xs) k l ≡ field_of s k l
unfolding write_all
all_elsewhere s at [] k l h = refl
all_elsewhere s at (x ∷ xs) k l h =
    all_elsewhere (written_of s at x.0 x.1) (at + x.0) xs k l (omega arith) ∙ elsewhere s at x.0 x.1 k l (inl h)

pub length_all : (s : List ℕ) (at : ℕ) (xs : List (ℕ × ℕ)) → length (write_all s at xs) ≡ length s
unfolding write_all
length_all s at [] = refl
length_all s at (x ∷ xs) = length_all (written_of s at x.0 x.1) (at + x.0) xs ∙ length_written s at x.0 x.1

-- a list of fields written one after another reads back as that list
pub read_back : (s : List ℕ) (at : ℕ) (xs : List (ℕ × ℕ)) → all_writable s at xs ≡ true
    → read_all (write_all s at xs) at (map (λ x. x.0) xs) ≡ map (λ x. x.1) xs
unfolding all_writable write_all read_all
read_back s at [] h = refl
read_back s at (x ∷ xs) h =
    let here : writable s at x.0 x.1 ≡ true = and_left (writable s at x.0 x.1) (all_writable s (at + x.0) xs) h in
    let rest : all_writable s (at + x.0) xs ≡ true = and_right (writable s at x.0 x.1) (all_writable s (at + x.0) xs) h in
    let s' : List ℕ = written_of s at x.0 x.1 in
    ap₂ ◌∷◌
    (all_elsewhere s' (at + x.0) xs at x.0 (omega arith) ∙ write_read s at x.0 x.1 here)
    (read_back s' (at + x.0) xs (all_length s' s (at + x.0) xs (length_written s at x.0 x.1) ∙ rest))
