-- The row that applies to a text, from the facts that settle it; and what a text that no row refuses is known to be.
-- Assumes nothing.
use mathlib.Core.Path.{◌≡◌, sym, ap, ◌∙◌}
use mathlib.Core.Bool.{true, false, not, ◌||◌, or-true}
use mathlib.Core.List.{List}
use Prim.Native.Nat.{ℕ, ◌+◌, ◌%◌, ◌<◌, ◌≤◌}
use native.Mathlib.Omega.{arith}
use lib.Dec.{eqb, ltb}
use lib.ListN.{length, take}
use borrow.Author.Tests.{lt-ltb, le-ltb, eq-eqb, ne_eqb, ltb-false, leb-true, leb-false, eqb-true, not-false}
use Rattle.bits.proofs.Cases.{neither}
use Rattle.units.specs.declared.refusals.Refusal.TheVariants.{Room}
use Rattle.std.specs.Prelude.{Ok, Err}
use Rattle.units.specs.Answers.{answer, memory}
use Rattle.units.specs.Put.{fits, put_into}
use Rattle.units.proofs.Put.{at_front, unchanged}
use Rattle.units.proofs.Rows.{passed}
use Rattle.base64_rules.proofs.Decoded.{length_decoded}
use Rattle.text.specs.Text.{before, count, decoded, all_of, spare, read_row, read, read_into}

-- the row that applies settles the answer and the lent memory
pub reads_as : (t out : List ℕ) (row : ℕ) → read_row t (length out) ≡ row
    → (answer row (count t) ≡ read t out) × (memory row (decoded t) out ≡ read_into t out)
unfolding read read_into
reads_as t out row e = (ap (λ (r : ℕ). answer r (count t)) (sym e), ap (λ (r : ℕ). memory r (decoded t) out) (sym e))

-- a text that rows 12, 13 and 14 let pass
pub record Accepted (t : List ℕ) : Type 0 where
  pub whole : length t % 4 ≡ 0
  pub short : length t ≤ 5464
  pub letters : all_of (take (before t) t) ≡ true
  pub clean : spare t ≡ 0

module _ (t : List ℕ) (room : ℕ) where
  pub row_uneven : (length t % 4 ≡ 0 → ⊥) → read_row t room ≡ 12
  unfolding read_row
  row_uneven h = rw (ne_eqb (length t % 4) 0 h)

  pub row_long : 5464 < length t → read_row t room ≡ 12
  unfolding read_row
  row_long h = rw (lt-ltb 5464 (length t) h, or-true)

  pub row_letter : length t % 4 ≡ 0 → length t ≤ 5464 → all_of (take (before t) t) ≡ false → read_row t room ≡ 13
  unfolding read_row
  row_letter w s l = rw (eq-eqb (length t % 4) 0 w, le-ltb 5464 (length t) s, l)

  pub row_spare : length t % 4 ≡ 0 → length t ≤ 5464 → all_of (take (before t) t) ≡ true → (spare t ≡ 0 → ⊥)
      → read_row t room ≡ 14
  unfolding read_row
  row_spare w s l b = rw (eq-eqb (length t % 4) 0 w, le-ltb 5464 (length t) s, l, ne_eqb (spare t) 0 b)

  pub row_room : Accepted t → room < count t → read_row t room ≡ 11
  unfolding read_row
  row_room a h =
      rw (eq-eqb (length t % 4) 0 a.whole, le-ltb 5464 (length t) a.short, a.letters, eq-eqb (spare t) 0 a.clean, lt-ltb room (count t) h)

  pub row_none : Accepted t → count t ≤ room → read_row t room ≡ 0
  unfolding read_row
  row_none a h =
      rw (eq-eqb (length t % 4) 0 a.whole, le-ltb 5464 (length t) a.short, a.letters, eq-eqb (spare t) 0 a.clean, le-ltb room (count t) h)

-- the bytes of a text that rows 12, 13 and 14 let pass are put into the lent memory, or find no room there
module _ (t out : List ℕ) (a : Accepted t) (p : List ℕ) (bytes : p ≡ decoded t) where
  long : length p ≡ count t
  long = ap length bytes ∙ length_decoded t

  pub put_there : fits out 0 p ≡ true → (Ok (count t) ≡ read t out) × (put_into out 0 p ≡ read_into t out)
  put_there h =
      let is = reads_as t out 0 (row_none t (length out) a (omega (arith, long, leb-true (0 + length p) (length out) h))) in
      (is.0, at_front out p h ∙ ap (λ (l : List ℕ). memory 0 l out) bytes ∙ is.1)

  pub put_nowhere : fits out 0 p ≡ false → (Err Room ≡ read t out) × (put_into out 0 p ≡ read_into t out)
  put_nowhere h =
      let is = reads_as t out 11 (row_room t (length out) a (omega (arith, long, leb-false (0 + length p) (length out) h))) in
      (is.0, unchanged out 0 p h ∙ is.1)

-- a text that is not refused is accepted
pub accepted : (t : List ℕ) (room : ℕ) → read_row t room ≡ 0 → Accepted t
unfolding read_row
accepted t room e =
    let length-row = passed (not (eqb (length t % 4) 0) || ltb 5464 (length t)) 11 _ e in
    let letter-row = passed (not (all_of (take (before t) t))) 12 _ length-row.1 in
    let spare-row = passed (not (eqb (spare t) 0)) 13 _ letter-row.1 in
    let lengths = neither (not (eqb (length t % 4) 0)) (ltb 5464 (length t)) length-row.0 in
    record {
      whole = eqb-true _ _ (not-false _ lengths.0);
      short = ltb-false _ _ lengths.1;
      letters = not-false _ letter-row.0;
      clean = eqb-true _ _ (not-false _ spare-row.0);
    }
