-- The judgement of a section by its parts: rows 1 to 7, the command and the loop after it; and a judgement's verdict.
-- Assumes nothing.
use mathlib.Core.Path.{◌≡◌, refl, sym, ap, ◌∙◌}
use mathlib.Core.Bool.{Bool, true, false, not, cond}
use mathlib.Core.List.{List, [], ◌∷◌}
use Prim.Native.Nat.{ℕ, zero, suc, ◌+◌, ◌-◌, ◌*◌, ◌/◌, ◌≤◌}
use native.Mathlib.Omega.{arith}
use lib.Dec.{ltb, eqb}
use lib.ListN.{length, take}
use borrow.Author.Tests.{ltb-false, le-ltb, eqb-true, not-false}
use Rattle.bits.specs.Bits.{bit, num}
use Rattle.bits.proofs.Cases.{neither}
use Rattle.units.specs.declared.refusals.Refusal.{Refusal}
use Rattle.units.specs.Refusals.{first}
use Rattle.units.proofs.Rows.{Row, miss}
use Rattle.grammar.specs.Syntax.{under}
use Rattle.grammar.specs.Meaning.{Env, bind, run, Outcome, breach, ends}
use Rattle.grammar.specs.Tables.{header, sized_command, payload, descriptor_loop, bytes}
use Rattle.grammar.proofs.Run.{Runs, pass, ruled}
use Rattle.grammar.proofs.Within.{byte_within}
use Rattle.commands.specs.Command.{known, command_end}
use Rattle.descriptors.specs.declared.Cursor.{Cursor}
use Rattle.std.specs.Prelude.{Option, Result, Ok, Err}
use Rattle.section.specs.Accept.{the, accept_rows, accept_row, verdict, accept_of, grammar_of}
use Rattle.section.specs.Judge.{loop_at, loop_from, judgement, judge_of, header_row, header_of}
use Rattle.section.proofs.Rows.{last_rows}
use Rattle.section.proofs.Accepted.{missed, row_0}

-- ---- rows 1 to 7

-- the first of some rows that applies is the first of all
front : (k : ℕ) (rows : List (Bool × ℕ)) (n : ℕ) → first (take k rows) ≡ suc n → first rows ≡ suc n
front zero rows n e = absurd (omega arith)
front (suc k) [] n e = absurd (omega arith)
front (suc k) (row ∷ rows) n e = by row.0 refl (front k rows n)
  where
    by : (b : Bool) → row.0 ≡ b → (first (take k rows) ≡ suc n → first rows ≡ suc n) → cond row.0 row.1 (first rows) ≡ suc n
    by true q rest = ap (λ (t : Bool). cond t row.1 (first rows)) q ∙ sym (ap (λ (t : Bool). cond t row.1 (first (take k rows))) q) ∙ e
    by false q rest =
        ap (λ (t : Bool). cond t row.1 (first rows)) q ∙ rest (sym (ap (λ (t : Bool). cond t row.1 (first (take k rows))) q) ∙ e)

module _ (s : List ℕ) where
  pub refused_header : (r : Refusal) → header_of s ≡ Err r → accept_of s ≡ Err r
  unfolding header_of header_row accept_of accept_row verdict
  refused_header r e = go (header_row s) refl e
    where
      go : (n : ℕ) → header_row s ≡ n → verdict n ≡ Err r → accept_of s ≡ Err r
      go zero q h = let z : ◌≡◌ {A = ℕ} 0 1 = cc in absurd (omega arith)
      go (suc n) q h = ap verdict (front 7 (accept_rows s) n q) ∙ h

  -- where none of them applies, the grammar's own rows are left
  pub record Headed : Type 0 where
    pub long : 20 ≤ length s
    pub fits : length s ≤ 4096
    pub left : {n : ℕ} → Row (last_rows (grammar_of s)) n → Row (accept_rows s) n

  pub headed : header_of s ≡ Ok tt → Headed
  unfolding header_of header_row
  headed e =
      let none-hit : Row (take 7 (accept_rows s)) 0 = record { row = row_0 (header_row s) e } in
      let r1 = missed _ none-hit (omega arith) in
      let r2 = missed _ r1.1 (omega arith) in
      let r3 = missed _ r2.1 (omega arith) in
      let r4 = missed _ r3.1 (omega arith) in
      let r5 = missed _ r4.1 (omega arith) in
      let r6 = missed _ r5.1 (omega arith) in
      let r7 = missed _ r6.1 (omega arith) in
      let size : (ltb 4093 (the s "section_length") ≡ false) × (not (eqb (the s "section_length" + 3) (length s)) ≡ false) = neither _ _ r4.0 in
      let same : the s "section_length" + 3 ≡ length s = eqb-true _ _ (not-false _ size.1) in
      record {
        long = ltb-false (length s) 20 r1.0;
        fits = omega (arith, ltb-false 4093 (the s "section_length") size.0);
        left = λ row. miss r1.0 (miss r2.0 (miss r3.0 (miss r4.0 (miss r5.0 (miss r6.0 (miss r7.0 row))))));
      }

-- ---- from splice_command_type on

-- the loop of a command that ends at byte n
pub loop_after : (s : List ℕ) {o : Outcome} (n : ℕ) → o ≡ ends (8 * n) → loop_from s o ≡ loop_at s n
unfolding loop_from
loop_after s n e =
    let byte : 8 * n / 8 ≡ n = omega arith in
    ap (loop_from s) e ∙ ap (λ (i : ℕ). record { at = i + 2; end = i + 2 + num (bit s) (8 * i) 16 }) byte

module _ (s : List ℕ) (long : 20 ≤ length s) where
  -- where the command ends, by the grammar
  pub command_run : command_end s ≡ run sized_command (known s) (bit s) (8 * (length s - 4)) (8 * 14)
  unfolding command_end
  command_run = ap (λ (b : Bool). cond b (breach 0) (run sized_command (known s) (bit s) (8 * (length s - 4)) (8 * 14))) (le-ltb (length s) 20 long)

  -- before the CRC
  pub command_inside : (n : ℕ) → command_end s ≡ ends (8 * n) → n + 4 ≤ length s
  command_inside n e = omega (arith, byte_within sized_command (known s) (bit s) (length s - 4) 14 n (sym command_run ∙ e) (omega arith))

  -- the rest of the section comes to what its command comes to, or the loop after it
  abbrev Rest : Outcome → Type 0
  Rest o = Runs payload (bind header (bit s) 0 []) (bit s) (8 * (length s - 4)) 104 o

  pub broken_command : command_end s ≡ breach 0 → Rest (breach 8)
  unfolding payload known
  broken_command e = pass (omega arith) (ruled (record { runs = sym command_run ∙ e }) refl)

  pub whole_command : {o : Outcome} (n : ℕ) → command_end s ≡ ends (8 * n)
      → ((env : Env) → Runs (under 9 descriptor_loop (bytes "alignment_stuffing")) env (bit s) (8 * (length s - 4)) (8 * n) o) → Rest o
  unfolding payload known
  whole_command n e rest = pass (omega arith) (ruled (record { runs = sym command_run ∙ e }) (rest _).runs)

-- ---- the verdict in a judgement

abbrev pub verdict_in : Result (Option Cursor) Refusal → Result (Unit {0}) Refusal
verdict_in (Ok found) = Ok tt
verdict_in (Err r) = Err r

stays : (v : Result (Unit {0}) Refusal) (sealed : Bool) (c : Cursor) → verdict_in (judgement v sealed c) ≡ v
stays (Ok u) sealed c = refl
stays (Err r) sealed c = refl

-- is that of acceptance
pub same_verdict : (s : List ℕ) → verdict_in (judge_of s) ≡ accept_of s
unfolding judge_of
same_verdict s = stays (accept_of s) (eqb (the s "encrypted_packet") 1) (loop_from s (command_end s))

-- the same, to rewrite by
pub accepted_by : (s : List ℕ) → accept_of s ≡ verdict_in (judge_of s)
accepted_by s = sym (same_verdict s)
