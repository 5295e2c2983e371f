-- What a function that writes an answer's numbers into lent memory answers, and what the memory then holds: by ROOM, and for a refusal.
-- Assumes nothing.
use mathlib.Core.Path.{◌≡◌, refl, sym, ap, ◌∙◌}
use mathlib.Core.Bool.{Bool, true, false, cond}
use mathlib.Core.List.{List, ◌++◌}
use Prim.Native.Nat.{ℕ, zero, suc, ◌≤◌, ◌<◌}
use native.Mathlib.Omega.{arith}
use lib.ListN.{length, drop}
use lib.Dec.{ltb}
use borrow.Author.Tests.{lt-ltb, le-ltb}
use Rattle.std.specs.Prelude.{Result, Ok, Err}
use Rattle.units.specs.declared.refusals.Refusal.{Refusal}
use Rattle.units.specs.declared.refusals.Refusal.TheVariants.{Room}
use Rattle.units.specs.Refusals.{number_of, named}
use Rattle.units.specs.Answers.{answer, memory}
use Rattle.units.proofs.Numbers.{named_back}
use Rattle.wire.specs.Given.{Numbers, refused, these, given_row, given, given_into}

-- the same numbers are given alike
pub given_as : (out : List ℕ) {ns us : Numbers} {r : Result ℕ Refusal} {m : List ℕ} → ns ≡ us → (r ≡ given ns out) × (m ≡ given_into ns out)
    → (r ≡ given us out) × (m ≡ given_into us out)
given_as out e p = (p.0 ∙ ap (λ (ns : Numbers). given ns out) e, p.1 ∙ ap (λ (ns : Numbers). given_into ns out) e)

-- ---- numbers, with too little room and with enough

module _ (ns out : List ℕ) where
  by_room : (b : Bool) → ltb (length out) (length ns) ≡ b
      → (answer (cond b 11 0) (length ns) ≡ given (these ns) out) × (memory (cond b 11 0) ns out ≡ given_into (these ns) out)
  unfolding given given_into given_row
  by_room b e = (ap (λ (t : Bool). answer (cond t 11 0) (length ns)) (sym e), ap (λ (t : Bool). memory (cond t 11 0) ns out) (sym e))

  pub no_room : length out < length ns → (Err Room ≡ given (these ns) out) × (out ≡ given_into (these ns) out)
  no_room h = by_room true (lt-ltb _ _ h)

  pub written : length ns ≤ length out → (Ok (length ns) ≡ given (these ns) out) × (ns ++ drop (length ns) out ≡ given_into (these ns) out)
  written h = by_room false (le-ltb _ _ h)

-- ---- a refusal, which is before ROOM

by_number : (out : List ℕ) (r : Refusal) (n : ℕ) → number_of r ≡ n → (Err r ≡ given (refused n) out) × (out ≡ given_into (refused n) out)
unfolding given given_into given_row
by_number out r zero e =
    let first : number_of r ≡ 1 = ap number_of (sym (named_back r) ∙ ap named e) in
    absurd (omega (arith, e, first))
by_number out r (suc n) e = (ap Err (sym (named_back r) ∙ ap named e), refl)

pub not_given : (out : List ℕ) (r : Refusal) → (Err r ≡ given (refused (number_of r)) out) × (out ≡ given_into (refused (number_of r)) out)
not_given out r = by_number out r (number_of r) refl

-- the same, to rewrite by
pub given_refused : (out : List ℕ) (r : Refusal) → given (refused (number_of r)) out ≡ Err r
given_refused out r = sym (not_given out r).0

pub given_into_refused : (out : List ℕ) (r : Refusal) → given_into (refused (number_of r)) out ≡ out
given_into_refused out r = sym (not_given out r).1

pub ruleset refusals = (given_refused, given_into_refused)
