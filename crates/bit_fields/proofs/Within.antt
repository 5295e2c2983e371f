-- When a field lies within the bytes, as the code tests it and as the definition says it.
-- Assumes nothing.
use mathlib.Core.Path.{◌≡◌, refl, sym, ap, ◌∙◌}
use mathlib.Core.Bool.{Bool, true, false, cond, ◌&&◌, false≢true}
use mathlib.Core.List.{List}
use mathlib.Core.Logic.{⊎_elim}
use Prim.Native.Nat.{ℕ, ◌+◌, ◌*◌, ◌^◌, ◌≤◌, ◌<◌}
use lib.ListN.{length}
use lib.Dec.{leb, ltb}
use borrow.Author.Tests.{le-leb, lt-leb, leb-true, lt-ltb, le-ltb}
use Rattle.bit_fields.specs.Bits.{bit, num, within, field_of, patched, bytes_of, writable, written_of}
use Rattle.bit_fields.proofs.Cases.{le_or_lt}

pub too_wide : (s : List ℕ) (at w : ℕ) → 48 < w → within s at w ≡ false
unfolding within
too_wide s at w h = ap (λ (t : Bool). t && leb (at + w) (8 * length s)) (lt-leb w 48 h)

pub narrow : (s : List ℕ) (at w : ℕ) → w ≤ 48 → within s at w ≡ leb (at + w) (8 * length s)
unfolding within
narrow s at w h = ap (λ (t : Bool). t && leb (at + w) (8 * length s)) (le-leb w 48 h)

pub past_end : (s : List ℕ) (at w : ℕ) → w ≤ 48 → 8 * length s < at + w → within s at w ≡ false
past_end s at w h l = narrow s at w h ∙ lt-leb (at + w) (8 * length s) l

-- a field that is within has at most 48 bits and ends within the bytes
pub within_width : (s : List ℕ) (at w : ℕ) → within s at w ≡ true → w ≤ 48
within_width s at w h = ⊎_elim (λ l. l) (λ l. absurd (false≢true (sym (too_wide s at w l) ∙ h))) (le_or_lt w 48)

pub within_end : (s : List ℕ) (at w : ℕ) → within s at w ≡ true → at + w ≤ 8 * length s
within_end s at w h = leb-true (at + w) (8 * length s) (sym (narrow s at w (within_width s at w h)) ∙ h)

-- ---- what the definitions say by cases

pub field_in : (s : List ℕ) (at w : ℕ) → within s at w ≡ true → field_of s at w ≡ num (bit s) at w
unfolding field_of
field_in s at w h = ap (λ (t : Bool). cond t (num (bit s) at w) 0) h

-- a field that this library reads and that is all there
pub field_there : (s : List ℕ) (at w : ℕ) → w ≤ 48 → at + w ≤ 8 * length s → field_of s at w ≡ num (bit s) at w
field_there s at w h l = field_in s at w (narrow s at w h ∙ le-leb (at + w) (8 * length s) l)

-- bits that are all there, at a place written another way, are the field
pub there : (s : List ℕ) (k at w : ℕ) → k ≡ at → w ≤ 48 → at + w ≤ 8 * length s → num (bit s) k w ≡ field_of s at w
there s k at w e h l = ap (λ (x : ℕ). num (bit s) x w) e ∙ sym (field_there s at w h l)

pub field_out : (s : List ℕ) (at w : ℕ) → within s at w ≡ false → field_of s at w ≡ 0
unfolding field_of
field_out s at w h = ap (λ (t : Bool). cond t (num (bit s) at w) 0) h

-- a field of no bits is 0
pub field_none : (s : List ℕ) (at : ℕ) → field_of s at 0 ≡ 0
unfolding field_of num
field_none s at = go (within s at 0)
  where
    go : (t : Bool) → ◌≡◌ {A = ℕ} (cond t 0 0) 0
    go true = refl
    go false = refl

pub not_within : (s : List ℕ) (at w v : ℕ) → within s at w ≡ false → writable s at w v ≡ false
unfolding writable
not_within s at w v h = ap (λ (t : Bool). t && ltb v (2 ^ w)) h

pub too_large : (s : List ℕ) (at w v : ℕ) → within s at w ≡ true → 2 ^ w ≤ v → writable s at w v ≡ false
unfolding writable
too_large s at w v h l = ap (λ (t : Bool). t && ltb v (2 ^ w)) h ∙ le-ltb v (2 ^ w) l

pub can_write : (s : List ℕ) (at w v : ℕ) → within s at w ≡ true → v < 2 ^ w → writable s at w v ≡ true
unfolding writable
can_write s at w v h l = ap (λ (t : Bool). t && ltb v (2 ^ w)) h ∙ lt-ltb v (2 ^ w) l

-- a field that can be written is within the bytes, and its bits hold the value
pub writable_within : (s : List ℕ) (at w v : ℕ) → writable s at w v ≡ true → within s at w ≡ true
writable_within s at w v h = go (within s at w) refl
  where
    go : (t : Bool) → within s at w ≡ t → within s at w ≡ true
    go true e = e
    go false e = absurd (false≢true (sym (not_within s at w v e) ∙ h))

pub writable_small : (s : List ℕ) (at w v : ℕ) → writable s at w v ≡ true → v < 2 ^ w
writable_small s at w v h =
    ⊎_elim (λ l. absurd (false≢true (sym (too_large s at w v (writable_within s at w v h) l) ∙ h))) (λ l. l) (le_or_lt (2 ^ w) v)

pub written_out : (s : List ℕ) (at w v : ℕ) → writable s at w v ≡ false → written_of s at w v ≡ s
unfolding written_of
written_out s at w v h = ap (λ (t : Bool). cond t (bytes_of (patched (bit s) at w v) (length s)) s) h

pub written_in : (s : List ℕ) (at w v : ℕ) → writable s at w v ≡ true → written_of s at w v ≡ bytes_of (patched (bit s) at w v) (length s)
unfolding written_of
written_in s at w v h = ap (λ (t : Bool). cond t (bytes_of (patched (bit s) at w v) (length s)) s) h
