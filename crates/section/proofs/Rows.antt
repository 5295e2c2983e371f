-- The rows of acceptance, as the code tests them: what each asks of the header's bytes.
-- Assumes nothing.
use mathlib.Core.Path.{◌≡◌, refl, sym, ap, ap₂, ◌∙◌}
use mathlib.Core.Bool.{Bool, true, false, not, ◌||◌}
use mathlib.Core.List.{List, [], ◌∷◌}
use mathlib.Core.Logic.{⊎_elim}
use Prim.Native.Nat.{ℕ, zero, suc, ◌+◌, ◌-◌, ◌*◌, ◌≤◌, ◌<◌}
use native.Mathlib.Omega.{arith}
use lib.ListN.{length, get_or}
use lib.Dec.{ltb, eqb}
use borrow.Author.Tests.{lt-ltb, le-ltb, eq-eqb, ne_eqb}
use Rattle.bits.specs.Bits.{bit}
use Rattle.bits.proofs.Bytes.{AreBytes}
use Rattle.bits.proofs.Cases.{or_left, or_right, le_or_lt}
use Rattle.grammar.proofs.Places.{flag_test, octet}
use Rattle.grammar.specs.Meaning.{bind, run, Outcome, breach, ends}
use Rattle.grammar.specs.Tables.{header, payload, splice_info_section}
use Rattle.grammar.proofs.Run.{Runs, pass, yes_last, no_last, filled_last, swept_bytes}
use Rattle.std.specs.Prelude.{Result, Ok, Err}
use Rattle.units.specs.declared.refusals.Refusal.{Refusal}
use Rattle.units.specs.Refusals.{number_of, named}
use Rattle.units.proofs.Numbers.{named_back}
use Rattle.units.proofs.Rows.{Row, none, miss, hit}
use Rattle.section.specs.Accept.{the, grammar_of, breaks, complete, judged, IsGrammatical, verdict}

pub size : (s : List ℕ) → the s "section_length" ≤ 4093 → the s "section_length" + 3 ≡ length s
    → (ltb 4093 (the s "section_length") || not (eqb (the s "section_length" + 3) (length s))) ≡ false
size s h e = ap₂ (λ (t u : Bool). t || not u) (le-ltb 4093 (the s "section_length") h) (eq-eqb (the s "section_length" + 3) (length s) e)

module _ (s : List ℕ) (hs : AreBytes s) where
  table_id : (b : Bool) → eqb (get_or s 0 0) 0xFC ≡ b → not (eqb (the s "table_id") 0xFC) ≡ not b
  unfolding the
  table_id b e = ap (λ (x : ℕ). not (eqb x 0xFC)) (octet s 0 0 (hs 0) refl) ∙ ap not e

  pub table : get_or s 0 0 ≡ 0xFC → not (eqb (the s "table_id") 0xFC) ≡ false
  table e = table_id true (eq-eqb (get_or s 0 0) 0xFC e)

  pub no_table : (get_or s 0 0 ≡ 0xFC → ⊥) → not (eqb (the s "table_id") 0xFC) ≡ true
  no_table h = table_id false (ne_eqb (get_or s 0 0) 0xFC h)

  pub syntax_clear : get_or s 1 0 < 64 → (eqb (the s "section_syntax_indicator") 1 || eqb (the s "private_indicator") 1) ≡ false
  unfolding the
  syntax_clear h =
      ap₂ (λ (t u : Bool). t || u) (flag_test s 1 0 8 0 1 (omega arith) refl (omega arith)) (flag_test s 1 1 9 0 1 (omega arith) refl (omega arith))

  pub syntax_set : 64 ≤ get_or s 1 0 → (eqb (the s "section_syntax_indicator") 1 || eqb (the s "private_indicator") 1) ≡ true
  unfolding the
  syntax_set h =
      ⊎_elim
      (λ l. or_left _ _ (flag_test s 1 0 8 1 1 (omega arith) refl (omega (arith, hs 1))))
      (λ l. or_right _ _ (flag_test s 1 0 8 0 1 (omega arith) refl (omega arith)) (flag_test s 1 1 9 1 1 (omega arith) refl (omega arith)))
      (le_or_lt 128 (get_or s 1 0))

  pub too_long : 4093 < the s "section_length" → (ltb 4093 (the s "section_length") || not (eqb (the s "section_length" + 3) (length s))) ≡ true
  too_long h = or_left _ _ (lt-ltb 4093 (the s "section_length") h)

  pub other_length : the s "section_length" ≤ 4093 → (the s "section_length" + 3 ≡ length s → ⊥)
      → (ltb 4093 (the s "section_length") || not (eqb (the s "section_length" + 3) (length s))) ≡ true
  other_length h e = ap₂ (λ (t u : Bool). t || not u) (le-ltb 4093 (the s "section_length") h) (ne_eqb (the s "section_length" + 3) (length s) e)

  version : (b : Bool) → eqb (get_or s 3 0) 0 ≡ b → not (eqb (the s "protocol_version") 0) ≡ not b
  unfolding the
  version b e = ap (λ (x : ℕ). not (eqb x 0)) (octet s 3 24 (hs 3) refl) ∙ ap not e

  pub version_0 : get_or s 3 0 ≡ 0 → not (eqb (the s "protocol_version") 0) ≡ false
  version_0 e = version true (eq-eqb (get_or s 3 0) 0 e)

  pub other_version : (get_or s 3 0 ≡ 0 → ⊥) → not (eqb (the s "protocol_version") 0) ≡ true
  other_version h = version false (ne_eqb (get_or s 3 0) 0 h)

  pub clear : get_or s 4 0 < 128 → eqb (the s "encrypted_packet") 1 ≡ false
  unfolding the
  clear h = flag_test s 4 0 32 0 1 (omega arith) refl (omega arith)

  pub sealed : 128 ≤ get_or s 4 0 → eqb (the s "encrypted_packet") 1 ≡ true
  unfolding the
  sealed h = flag_test s 4 0 32 1 1 (omega arith) refl (omega (arith, hs 4))

-- ---- the grammar's own rows

-- what the whole section comes to, where the rest after the header comes to a verdict
pub whole : (s : List ℕ) (o : Outcome) → 20 ≤ length s → eqb (the s "encrypted_packet") 1 ≡ false
    → Runs payload (bind header (bit s) 0 []) (bit s) (8 * (length s - 4)) 104 o → grammar_of s ≡ o
unfolding grammar_of splice_info_section the
whole s o long clear-bit r = of (pass (omega arith) (no_last clear-bit r))
  where
    of : Runs splice_info_section [] (bit s) (8 * (length s - 4)) 0 o → run splice_info_section [] (bit s) (8 * (length s - 4)) 0 ≡ o
    of q = q.runs

-- and where it is sealed: it is kept as bytes to the end
pub sealed_whole : (s : List ℕ) → 20 ≤ length s → eqb (the s "encrypted_packet") 1 ≡ true → grammar_of s ≡ ends (8 * (length s - 4))
unfolding grammar_of splice_info_section the
sealed_whole s long closed =
    let all : 104 + 8 * (length s - 17) ≡ 8 * (length s - 4) = omega arith in
    of (pass (omega arith) (yes_last closed (filled_last (swept_bytes "sealed_byte" _ (bit s) (8 * (length s - 4)) (length s - 17) 104 all))))
  where
    of : Runs splice_info_section [] (bit s) (8 * (length s - 4)) 0 (ends (8 * (length s - 4)))
        → run splice_info_section [] (bit s) (8 * (length s - 4)) 0 ≡ ends (8 * (length s - 4))
    of q = q.runs

-- the last three rows, by what the grammar says
abbrev pub last_rows : Outcome → List (Bool × ℕ)
last_rows o = (breaks o 8, 8) ∷ (breaks o 9, 9) ∷ (not (complete o), 10) ∷ []

-- the row that a breach comes to is its number
pub own_row : (n : ℕ) → 8 ≤ n → n ≤ 10 → Row (last_rows (breach n)) n
unfolding breaks complete
own_row n l h =
    ⊎_elim
    (λ a. ⊎_elim
    (λ b. is 10 (omega arith) (miss (ne_eqb n 8 (λ q. omega arith)) (miss (ne_eqb n 9 (λ q. omega arith)) (hit refl))))
    (λ b. is 9 (omega arith) (miss (ne_eqb n 8 (λ q. omega arith)) (hit (eq-eqb n 9 (omega arith)))))
    (le_or_lt 10 n))
    (λ a. is 8 (omega arith) (hit (eq-eqb n 8 (omega arith))))
    (le_or_lt 9 n)
  where
    is : (m : ℕ) → m ≡ n → Row (last_rows (breach n)) m → Row (last_rows (breach n)) n
    is m e r = record { row = r.row ∙ e }

-- the verdict of a row is its refusal
row_verdict : (n : ℕ) → 0 < n → verdict n ≡ Err (named n)
unfolding verdict
row_verdict zero h = absurd (omega arith)
row_verdict (suc n) h = refl

-- the row and the verdict that a verdict of the grammar's comes to
pub last_row : (r : Result (Unit {0}) Refusal) (end : ℕ) → IsGrammatical r → (n : ℕ) × Row (last_rows (judged end r)) n × (r ≡ verdict n)
unfolding breaks complete verdict
last_row (Ok u) end h = (0, miss refl (miss refl (miss refl none)), refl)
last_row (Err x) end h =
    (number_of x, own_row (number_of x) h.0 h.1, ap Err (sym (named_back x)) ∙ sym (row_verdict (number_of x) (omega (arith, h.0))))
