-- When a section is accepted: exactly when the test of each row is false, so when it has its size, its sum is right and the grammar
-- reads it to an end. And where the grammar does not, it says which row: no breach goes out without a number.
-- Assumes nothing.
use mathlib.Core.Path.{◌≡◌, refl, sym, ap, ap₂, subst}
use mathlib.Core.Bool.{Bool, true, false, not, ◌&&◌, ◌||◌}
use mathlib.Core.List.{List, [], ◌∷◌}
use mathlib.Core.Logic.{◌⊎◌, inl, inr}
use Prim.Native.Nat.{ℕ, zero, suc, ◌+◌, ◌-◌, ◌*◌, ◌≤◌, ◌<◌}
use native.Mathlib.Omega.{arith}
use lib.ListN.{length}
use lib.Dec.{ltb, eqb}
use borrow.Author.Tests.{ltb-false, le-ltb, eqb-true}
use Rattle.bits.specs.Bits.{bit}
use Rattle.bits.proofs.Cases.{neither}
use Rattle.crc.specs.Crc.{crc32}
use Rattle.units.specs.Refusals.{first}
use Rattle.units.proofs.Rows.{Row, none, miss}
use Rattle.grammar.specs.Meaning.{bind, Reading, broken, reached, read, end_of, Outcome, breach, ends, run}
use Rattle.grammar.specs.Tables.{header, payload, splice_info_section}
use Rattle.grammar.specs.Traces.{Trace}
use Rattle.grammar.proofs.Numbered.{Numbered, payload_numbered}
use Rattle.std.specs.Prelude.{Ok}
use Rattle.section.specs.Accept.{accept_rows, the, grammar_of, breaks, complete, accept_row, verdict, accept_of}
use Rattle.section.proofs.Rows.{whole, sealed_whole, size, last_rows, own_row}

-- where no row of a table applies, its first does not, and none of the others does
pub missed : (b : Bool) {m : ℕ} {rows : List (Bool × ℕ)} → Row ((b, m) ∷ rows) 0 → 0 < m → (b ≡ false) × Row rows 0
missed true r h = absurd (omega (arith, r.row))
missed false r h = (refl, record { row = r.row })

unset : (b : Bool) → not b ≡ false → b ≡ true
unset true e = refl
unset false e = let z : ◌≡◌ {A = ℕ} 0 1 = cc in absurd (omega arith)

-- a complete outcome is an end
ended : (o : Outcome) → complete o ≡ true → (k : ℕ) × (o ≡ ends k)
unfolding complete
ended (breach n) e = let z : ◌≡◌ {A = ℕ} 0 1 = cc in absurd (omega arith)
ended (ends k) e = (k, refl)

-- what the ten rows say of an accepted section, and what they ask of one
pub record Allowed (s : List ℕ) : Type 0 where
  pub long : 20 ≤ length s
  pub table : the s "table_id" ≡ 0xFC
  pub syntax : (eqb (the s "section_syntax_indicator") 1 ≡ false) × (eqb (the s "private_indicator") 1 ≡ false)
  pub fits : length s ≤ 4096
  pub sized : the s "section_length" + 3 ≡ length s
  pub sum : crc32 s ≡ 0
  pub version : the s "protocol_version" ≡ 0
  pub crypt : (eqb (the s "encrypted_packet") 1 && ltb (length s) 24) ≡ false
  pub stop : ℕ
  pub reads : grammar_of s ≡ ends stop

pub no_row : (s : List ℕ) → accept_row s ≡ 0 → Allowed s
unfolding accept_row
no_row s e =
    let all-miss : Row (accept_rows s) 0 = record { row = e } in
    let r1 = missed _ all-miss (omega arith) in
    let r2 = missed _ r1.1 (omega arith) in
    let r3 = missed _ r2.1 (omega arith) in
    let r4 = missed _ r3.1 (omega arith) in
    let r5 = missed _ r4.1 (omega arith) in
    let r6 = missed _ r5.1 (omega arith) in
    let r7 = missed _ r6.1 (omega arith) in
    let r8 = missed _ r7.1 (omega arith) in
    let r9 = missed _ r8.1 (omega arith) in
    let r10 = missed _ r9.1 (omega arith) in
    let size : (ltb 4093 (the s "section_length") ≡ false) × (not (eqb (the s "section_length" + 3) (length s)) ≡ false) = neither _ _ r4.0 in
    let same : the s "section_length" + 3 ≡ length s = eqb-true _ _ (unset _ size.1) in
    let all = ended (grammar_of s) (unset _ r10.0) in
    record {
      long = ltb-false (length s) 20 r1.0;
      table = eqb-true _ _ (unset _ r2.0);
      syntax = neither _ _ r3.0;
      fits = omega (arith, ltb-false 4093 (the s "section_length") size.0);
      sized = same;
      sum = eqb-true _ _ (unset _ r5.0);
      version = eqb-true _ _ (unset _ r6.0);
      crypt = r7.0;
      stop = all.0;
      reads = all.1;
    }

-- only row 0, none, is the verdict that accepts
pub row_0 : (n : ℕ) → verdict n ≡ Ok tt → n ≡ 0
unfolding verdict
row_0 zero e = refl
row_0 (suc n) e = let z : ◌≡◌ {A = ℕ} 0 1 = cc in absurd (omega arith)

pub accepted_row : (s : List ℕ) → accept_of s ≡ Ok tt → accept_row s ≡ 0
unfolding accept_of
accepted_row s e = row_0 (accept_row s) e

pub accepted : (s : List ℕ) → accept_of s ≡ Ok tt → Allowed s
accepted s e = no_row s (accepted_row s e)

-- and the other way round: a section that the rows allow is accepted
pub allowed : (s : List ℕ) → Allowed s → accept_of s ≡ Ok tt
unfolding accept_of accept_row verdict breaks complete
allowed s a =
    let rows : Row (accept_rows s) 0 =
    miss (le-ltb (length s) 20 a.long)
    (miss (ap (λ (x : ℕ). not (eqb x 0xFC)) a.table)
    (miss (ap₂ (λ (t u : Bool). t || u) a.syntax.0 a.syntax.1)
    (miss (size s (omega (arith, a.fits, a.sized)) a.sized)
    (miss (ap (λ (x : ℕ). not (eqb x 0)) a.sum)
    (miss (ap (λ (x : ℕ). not (eqb x 0)) a.version)
    (miss a.crypt
    (miss (ap (λ (o : Outcome). breaks o 8) a.reads)
    (miss (ap (λ (o : Outcome). breaks o 9) a.reads)
    (miss (ap (λ (o : Outcome). not (complete o)) a.reads)
    none))))))))) in
    ap verdict rows.row

-- ---- the grammar's own rows

-- a breach of a section that is long enough has one of their numbers
pub numbered : (s : List ℕ) → 20 ≤ length s → Numbered (grammar_of s)
numbered s long = go (eqb (the s "encrypted_packet") 1) refl
  where
    go : (b : Bool) → eqb (the s "encrypted_packet") 1 ≡ b → Numbered (grammar_of s)
    go true closed = subst Numbered (sym (sealed_whole s long closed)) tt
    go false clear =
        subst Numbered (sym (whole s (run payload (bind header (bit s) 0 []) (bit s) (8 * (length s - 4)) 104) long clear (record { runs = refl })))
        (payload_numbered (bit s) (8 * (length s - 4)) (omega arith) (bind header (bit s) 0 []) 104 (omega arith) (omega arith))

-- the first row that applies is one of those before them, or n
record Told (n : ℕ) (rows : List (Bool × ℕ)) : Type 0 where
  told : ((1 ≤ first rows) × (first rows ≤ 7)) ⊎ (first rows ≡ n)

-- a row more in front
before : {n m : ℕ} {rows : List (Bool × ℕ)} (b : Bool) → 1 ≤ m → m ≤ 7 → Told n rows → Told n ((b, m) ∷ rows)
before true l h r = record { told = inl (l, h) }
before false l h r = record { told = r.told }

-- so each is told by its own row, if by none of the first seven: the last, which takes every breach that is left, takes 10 alone
pub breach_told : (s : List ℕ) (n : ℕ) → 20 ≤ length s → grammar_of s ≡ breach n
    → (8 ≤ n) × (n ≤ 10) × (((1 ≤ accept_row s) × (accept_row s ≤ 7)) ⊎ (accept_row s ≡ n))
unfolding accept_row
breach_told s n long e =
    let is : Numbered (breach n) = subst Numbered e (numbered s long) in
    let own : Row (last_rows (grammar_of s)) n = subst (λ (o : Outcome). Row (last_rows o) n) (sym e) (own_row n is.0 is.1) in
    let rows : Told n (accept_rows s) =
    before _ (omega arith) (omega arith)
    (before _ (omega arith) (omega arith)
    (before _ (omega arith) (omega arith)
    (before _ (omega arith) (omega arith)
    (before _ (omega arith) (omega arith)
    (before _ (omega arith) (omega arith)
    (before _ (omega arith) (omega arith)
    (record { told = inr own.row }))))))) in
    (is.0, is.1, rows.told)

-- the grammar reads a trace of an accepted section
pub has_trace : (s : List ℕ) → accept_of s ≡ Ok tt → (j : ℕ) × (t : Trace) × (read splice_info_section [] (bit s) (8 * (length s - 4)) 0 ≡ reached j t)
unfolding grammar_of run end_of
has_trace s e = of (read splice_info_section [] (bit s) (8 * (length s - 4)) 0) (accepted s e).reads
  where
    of : (r : Reading) → end_of r ≡ ends (accepted s e).stop → (j : ℕ) × (t : Trace) × (r ≡ reached j t)
    of (broken n) q = let z : ◌≡◌ {A = ℕ} 0 1 = cc in absurd (omega arith)
    of (reached j t) q = (j, t, refl)
