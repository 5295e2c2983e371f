-- The first cursor by cases.
-- Assumes nothing.
use mathlib.Core.Path.{◌≡◌, ap, ◌∙◌}
use mathlib.Core.Bool.{Bool, true, false, cond}
use mathlib.Core.List.{List}
use Prim.Native.Nat.{ℕ, ◌*◌}
use lib.Dec.{eqb}
use Rattle.grammar.specs.Meaning.{ends}
use Rattle.commands.specs.Command.{command_end}
use Rattle.units.specs.declared.refusals.Refusal.{Refusal}
use Rattle.std.specs.Prelude.{Result, Ok, Err}
use Rattle.section.specs.Accept.{the, accept_of}
use Rattle.section.specs.Judge.{nowhere, loop_at, loop_from}
use Rattle.section.proofs.Judged.{loop_after}
use Rattle.opening.specs.First.{if_accepted, first_cursor}

module _ (s : List ℕ) where
  pub no_section : (r : Refusal) → accept_of s ≡ Err r → first_cursor s ≡ nowhere
  unfolding first_cursor if_accepted
  no_section r e = ap (λ (v : Result (Unit {0}) Refusal). if_accepted v (cond (eqb (the s "encrypted_packet") 1) nowhere (loop_from s (command_end s)))) e

  module _ (e : accept_of s ≡ Ok tt) where
    sealed_as : (b : Bool) → eqb (the s "encrypted_packet") 1 ≡ b → first_cursor s ≡ cond b nowhere (loop_from s (command_end s))
    unfolding first_cursor if_accepted
    sealed_as b h =
        ap (λ (v : Result (Unit {0}) Refusal). if_accepted v (cond (eqb (the s "encrypted_packet") 1) nowhere (loop_from s (command_end s)))) e
        ∙ ap (λ (t : Bool). cond t nowhere (loop_from s (command_end s))) h

    pub when_sealed : eqb (the s "encrypted_packet") 1 ≡ true → first_cursor s ≡ nowhere
    when_sealed h = sealed_as true h

    module _ (h : eqb (the s "encrypted_packet") 1 ≡ false) where
      pub when_clear : first_cursor s ≡ loop_from s (command_end s)
      when_clear = sealed_as false h

      pub after_command : (n : ℕ) → command_end s ≡ ends (8 * n) → first_cursor s ≡ loop_at s n
      after_command n q = when_clear ∙ loop_after s n q
