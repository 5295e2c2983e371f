-- The table of a command type: by its number in code, and by the tests of Table 7 in the grammar.
-- Assumes nothing.
use mathlib.Core.Path.{◌≡◌, sym, ap, subst}
use mathlib.Core.Bool.{Bool, cond}
use mathlib.Core.Logic.{◌⊎◌, inl, inr}
use Prim.Native.Nat.{ℕ}
use lib.Dec.{eqb}
use borrow.Author.Tests.{ne_eqb}
use Rattle.grammar.specs.Syntax.{Prog, stop}
use Rattle.grammar.specs.Meaning.{Env, value_of}
use Rattle.grammar.specs.Tables.{bytes, private_command, command}
use Rattle.commands.specs.Command.{table_of}
use Rattle.fields.specs.Fields.{Source, Plan, Lays}
use Rattle.fields.proofs.Lays.{chosen}

-- the table of a type, where the header gives the command's length or not
abbrev pub typed : Bool → ℕ → Prog
typed sized t = table_of t (cond sized private_command stop) (cond sized (bytes "command_byte") stop)

module _ (sized : Bool) {env : Env} {v : Source} {end : ℕ} {π ρ : Plan} {t : ℕ} where
  -- a number for another that it equals
  pub of_type : {n : ℕ} → t ≡ n → Lays (typed sized n) env v end π ρ → Lays (typed sized t) env v end π ρ
  of_type e r = subst (λ (x : ℕ). Lays (typed sized x) env v end π ρ) (sym e) r

  -- a type that is none of those of Table 7
  pub otherwise : ((t ≡ 0x00) ⊎ (t ≡ 0x07) → ⊥) → (t ≡ 0x04 → ⊥) → (t ≡ 0x05 → ⊥) → (t ≡ 0x06 → ⊥) → (t ≡ 0xFF → ⊥)
      → Lays (cond sized (bytes "command_byte") stop) env v end π ρ → Lays (typed sized t) env v end π ρ
  unfolding table_of
  otherwise none h4 h5 h6 hF r =
      let h0 = ne_eqb t 0x00 (λ e. none (inl e)) in
      let h7 = ne_eqb t 0x07 (λ e. none (inr e)) in
      rw (h0, ne_eqb t 0x04 h4, ne_eqb t 0x05 h5, ne_eqb t 0x06 h6, h7, ne_eqb t 0xFF hF) r

-- an end for another that it equals
pub ending : {p : Prog} {env : Env} {v : Source} {end e : ℕ} {π ρ : Plan} → e ≡ end → Lays p env v end π ρ → Lays p env v e π ρ
ending {p} {env} {v} {π = π} {ρ = ρ} q r = subst (λ (x : ℕ). Lays p env v x π ρ) (sym q) r

-- the grammar's tests find the table of the type
pub by_type : (p o : Prog) {env : Env} {v : Source} {end : ℕ} {π ρ : Plan} {t : ℕ} → value_of env "splice_command_type" ≡ t
    → Lays (table_of t p o) env v end π ρ → Lays (command p o) env v end π ρ
unfolding table_of command
by_type p o {env} {t = t} e =
    let is-it : (x : ℕ) → eqb (value_of env "splice_command_type") x ≡ eqb t x = λ x. ap (λ (y : ℕ). eqb y x) e in
    let table : Prog → Prog = λ a. a in
    chosen table (eqb t 0x00) _ _ (is-it 0x00) (λ r. r)
    (chosen table (eqb t 0x04) _ _ (is-it 0x04) (λ r. r)
    (chosen table (eqb t 0x05) _ _ (is-it 0x05) (λ r. r)
    (chosen table (eqb t 0x06) _ _ (is-it 0x06) (λ r. r)
    (chosen table (eqb t 0x07) _ _ (is-it 0x07) (λ r. r)
    (chosen table (eqb t 0xFF) _ _ (is-it 0xFF) (λ r. r) (λ r. r))))))
