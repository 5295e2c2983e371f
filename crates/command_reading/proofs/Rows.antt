-- The bytes of a section from one on, a row of one bit, and rows that pass a weaker test.
-- Assumes nothing.
use mathlib.Core.Path.{◌≡◌, ap, ap₂, ◌∙◌}
use mathlib.Core.Bool.{Bool, true, cond, ◌&&◌}
use mathlib.Core.List.{List, [], ◌∷◌}
use mathlib.Core.Logic.{◌⊎◌, inl, inr}
use Prim.Native.Nat.{ℕ, zero, suc, ◌+◌, ◌-◌, ◌*◌, ◌/◌, ◌%◌, ◌^◌, ◌<◌, ◌≤◌}
use native.Mathlib.Omega.{arith}
use lib.ListN.{length, get_or, take, drop, length-drop}
use lib.Seq.{get_or-drop}
use lib.Dec.{leb}
use borrow.Author.Rules.{part_to_end}
use Rattle.bits.specs.Bits.{bit, num, within, field_of}
use Rattle.bits.proofs.Cases.{same_leb}
use Rattle.bits.proofs.Num.{num_ext, num_lt}
use Rattle.bits.proofs.Bytes.{bit_lt}
use Rattle.grammar.specs.Syntax.{Item}
use Rattle.grammar.specs.Traces.{Trace}
use Rattle.grammar.proofs.Each.{Each}

-- the bytes from byte n on
abbrev pub from : List ℕ → ℕ → List ℕ
from s n = take (length s - n) (drop n s)

-- a field of theirs is a field of the bytes
pub field_from : (s : List ℕ) (n k p w : ℕ) → n ≤ length s → 8 * n + k ≡ p → field_of (from s n) k w ≡ field_of s p w
unfolding field_of within bit
field_from s n k p w h e =
    let size = length-drop n s in
    let fits : leb (k + w) (8 * length (drop n s)) ≡ leb (p + w) (8 * length s) =
    same_leb (k + w) (8 * length (drop n s)) (p + w) (8 * length s) (λ l. omega arith) (λ l. omega arith) in
    ap (λ (b : List ℕ). field_of b k w) (part_to_end s n)
    ∙ ap₂ (λ (b : Bool) (v : ℕ). cond (leb w 48 && b) v 0) fits
    (num_ext (bit (drop n s)) (bit s) k p w
    (λ i l.
    let byte : n + (k + i) / 8 ≡ (p + i) / 8 = omega arith in
    let place : (k + i) % 8 ≡ (p + i) % 8 = omega arith in
    ap₂ (λ (x y : ℕ). x / 2 ^ (7 - y) % 2) (get_or-drop n s ((k + i) / 8) 0 ∙ ap (λ (x : ℕ). get_or s x 0) byte) place))

-- a row of one bit is 0 or 1
pub zero_or_one : (s : List ℕ) (k : ℕ) → (num (bit s) k 1 ≡ 0) ⊎ (num (bit s) k 1 ≡ 1)
zero_or_one s k = of (num (bit s) k 1) (num_lt (bit s) (bit_lt s) k 1)
  where
    of : (v : ℕ) → v < 2 → (v ≡ 0) ⊎ (v ≡ 1)
    of zero h = inl (omega arith)
    of (suc v) h = inr (omega arith)

-- rows that pass a test pass a weaker one
pub each_weaker : (p q : Item → Bool) → ((i : Item) → p i ≡ true → q i ≡ true) → (t : Trace) → Each p t → Each q t
each_weaker p q h [] e = tt
each_weaker p q h (x ∷ t) e = (h x.0 e.0, each_weaker p q h t e.1)
