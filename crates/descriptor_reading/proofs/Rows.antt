-- Rows that are passed over, rows that are counted, and bytes as fields of eight bits.
-- Assumes nothing.
use mathlib.Core.Path.{◌≡◌, refl, sym, ap, ap₂, ◌∙◌}
use mathlib.Core.Bool.{Bool, true, false, cond, not, ◌&&◌, false≢true}
use mathlib.Core.List.{List, [], ◌∷◌, ◌++◌, append-nil}
use Prim.Native.Nat.{ℕ, zero, suc, ◌+◌, ◌*◌, ◌≤◌, ◌<◌}
use native.Mathlib.Nat.{suc-mul}
use native.Mathlib.Omega.{arith}
use lib.ListN.{length, get_or, take, drop, length-drop}
use lib.Seq.{length-take-le, get_or-take, get_or-drop, ext_get_or}
use Rattle.bits.specs.Bits.{bit, num}
use Rattle.bits.proofs.Cases.{and_left, and_right}
use Rattle.bits.proofs.Bytes.{AreBytes, byte_field}
use Rattle.grammar.specs.Syntax.{Item}
use Rattle.grammar.specs.Meaning.{width, values}
use Rattle.grammar.specs.Traces.{Trace, rows_of, size}
use Rattle.grammar.specs.Names.{Name, is_named}
use Rattle.grammar.proofs.Each.{all, Each}
use Rattle.grammar.proofs.Traces.{size_values, size_append}
use Rattle.grammar.proofs.Telling.{many}
use Rattle.grammar.proofs.Names.{other, fields_from, fields_length, fields_at}
use Rattle.descriptor_reading.specs.Descriptor.{through}

-- both of two lists of rows pass
pub both : (q : Item → Bool) (a b : List Item) → all q (a ++ b) ≡ true → (all q a ≡ true) × (all q b ≡ true)
both q [] b h = (refl, h)
both q (i ∷ a) b h =
    let rest = both q a b (and_right (q i) (all q (a ++ b)) h) in
    (ap₂ ◌&&◌ (and_left (q i) (all q (a ++ b)) h) rest.0, rest.1)

pub each_rows : (q : Item → Bool) (t : Trace) → all q (rows_of t) ≡ true → Each q t
unfolding rows_of
each_rows q [] h = tt
each_rows q (x ∷ t) h = (and_left (q x.0) (all q (rows_of t)) h, each_rows q t (and_right (q x.0) (all q (rows_of t)) h))

pub each_cond : (q : Item → Bool) (b : Bool) (t u : Trace) → Each q t → Each q u → Each q (cond b t u)
each_cond q true t u h l = h
each_cond q false t u h l = l

pub through_past : (n : Name) (u v : Trace) → Each (other n) u → through n (u ++ v) ≡ u ++ through n v
unfolding through
through_past n [] v h = refl
through_past n (x ∷ u) v h = go (is_named n x.0) h.0 (through_past n u v h.1)
  where
    go : (b : Bool) → not b ≡ true → through n (u ++ v) ≡ u ++ through n v → cond b (x ∷ []) (x ∷ through n (u ++ v)) ≡ x ∷ (u ++ through n v)
    go true e l = absurd (false≢true e)
    go false e l = ap (λ (t : Trace). x ∷ t) l

pub size_many : (c : ℕ) (is : List Item) (f : ℕ → ℕ) (k : ℕ) → size (many c is f k) ≡ c * width is
unfolding many rows_of
size_many zero is f k = omega arith
size_many (suc c) is f k =
    size_append (values is f k) (many c is f (k + width is))
    ∙ ap₂ ◌+◌ (size_values is f k) (size_many c is f (k + width is))
    ∙ omega (arith, suc-mul c (width is))

-- so many bytes from byte k on are as many fields of eight bits
pub bytes_are : (s : List ℕ) → AreBytes s → (n k : ℕ) → k + n ≤ length s → take n (drop k s) ≡ fields_from (bit s) 8 n (8 * k)
bytes_are s h n k l =
    let long : length (take n (drop k s)) ≡ n = length-take-le n (drop k s) (omega (arith, length-drop k s)) in
    ext_get_or 0 (take n (drop k s)) (fields_from (bit s) 8 n (8 * k)) (long ∙ sym (fields_length (bit s) 8 n (8 * k)))
    (λ i m.
    let m' : i < n = omega (arith, long) in
    let byte : 8 * (k + i) ≡ 8 * k + i * 8 = omega arith in
    get_or-take n (drop k s) i 0 m'
    ∙ get_or-drop k s i 0
    ∙ sym (byte_field s (k + i) (h (k + i)))
    ∙ ap (λ (x : ℕ). num (bit s) x 8) byte
    ∙ sym (fields_at (bit s) 8 n (8 * k) i [] m')
    ∙ ap (λ (x : List ℕ). get_or x i 0) (append-nil (fields_from (bit s) 8 n (8 * k))))
