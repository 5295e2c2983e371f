-- The table of a command type: by its number in code, and by the tests of Table 7 in the grammar.
-- Assumes nothing.
use mathlib.Core.Path.{◌≡◌, sym, ap, subst}
use Prim.Native.Nat.{ℕ}
use lib.Dec.{eqb}
use borrow.Author.Tests.{ne_eqb}
use Rattle.grammar.specs.Syntax.{Prog}
use Rattle.grammar.specs.Meaning.{Env, value_of, Outcome}
use Rattle.grammar.specs.Tables.{command}
use Rattle.grammar.proofs.Run.{Runs, chosen}
use Rattle.commands.specs.Command.{table_of}

module _ (p o : Prog) {env : Env} {f : ℕ → ℕ} {end k : ℕ} {out : Outcome} (t : ℕ) where
  -- a number for another that it equals
  pub of_type : (n : ℕ) → t ≡ n → Runs (table_of n p o) env f end k out → Runs (table_of t p o) env f end k out
  of_type n e r = subst (λ (x : ℕ). Runs (table_of x p o) env f end k out) (sym e) r

  -- a type that is none of those of Table 7
  pub otherwise : (t ≡ 0x00 → ⊥) → (t ≡ 0x04 → ⊥) → (t ≡ 0x05 → ⊥) → (t ≡ 0x06 → ⊥) → (t ≡ 0x07 → ⊥) → (t ≡ 0xFF → ⊥)
      → Runs o env f end k out → Runs (table_of t p o) env f end k out
  unfolding table_of
  otherwise h0 h4 h5 h6 h7 hF r =
      rw (ne_eqb t 0x00 h0, ne_eqb t 0x04 h4, ne_eqb t 0x05 h5, ne_eqb t 0x06 h6, ne_eqb t 0x07 h7, ne_eqb t 0xFF hF) r

-- the grammar's tests find the table of the type
pub by_type : (p o : Prog) {env : Env} {f : ℕ → ℕ} {end k : ℕ} {out : Outcome} (t : ℕ) → value_of env "splice_command_type" ≡ t
    → Runs (table_of t p o) env f end k out → Runs (command p o) env f end k out
unfolding table_of command
by_type p o {env} t e =
    let is-it : (v : ℕ) → eqb (value_of env "splice_command_type") v ≡ eqb t v = λ v. ap (λ (x : ℕ). eqb x v) e in
    let table : Prog → Prog = λ a. a in
    chosen table (eqb t 0x00) _ _ (is-it 0x00) (λ r. r)
    (chosen table (eqb t 0x04) _ _ (is-it 0x04) (λ r. r)
    (chosen table (eqb t 0x05) _ _ (is-it 0x05) (λ r. r)
    (chosen table (eqb t 0x06) _ _ (is-it 0x06) (λ r. r)
    (chosen table (eqb t 0x07) _ _ (is-it 0x07) (λ r. r)
    (chosen table (eqb t 0xFF) _ _ (is-it 0xFF) (λ r. r) (λ r. r))))))
