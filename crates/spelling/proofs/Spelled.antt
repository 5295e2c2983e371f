-- How long a line is at most, and a line in lent memory, with too little room and with enough.
-- Assumes nothing.
use mathlib.Core.Path.{◌≡◌, sym, ap, ◌∙◌}
use mathlib.Core.Bool.{Bool, true, false, cond}
use mathlib.Core.Logic.{⊎_elim}
use mathlib.Core.List.{List, [], ◌∷◌, ◌++◌}
use Prim.Native.Nat.{ℕ, ◌+◌, ◌≤◌, ◌<◌}
use native.Mathlib.Omega.{arith}
use lib.Dec.{lit≤, ltb}
use lib.ListN.{length, drop, length-append}
use borrow.Author.Tests.{lt-ltb, le-ltb, leb-true, leb-false}
use Rattle.bits.proofs.Cases.{le_or_lt}
use Rattle.units.specs.declared.refusals.Refusal.{Refusal}
use Rattle.units.specs.declared.refusals.Refusal.TheVariants.{Room}
use Rattle.std.specs.Prelude.{Ok, Err}
use Rattle.units.specs.Refusals.{number_of}
use Rattle.units.specs.Answers.{answer, memory}
use Rattle.units.specs.Put.{fits, put_into}
use Rattle.units.proofs.Put.{at_front, unchanged}
use Rattle.spelling.specs.declared.Line.{Line}
use Rattle.spelling.specs.Spelling.{digits, numbered, spelled, spell_row, spell_answer, spell_into}
use Rattle.spelling.proofs.Digits.{few}

-- ---- a line has at most 23 characters

numbered_short : (letter n : ℕ) → length (numbered letter n) ≤ 23
numbered_short letter n = omega (arith, few 20 n, length-append (digits 20 n) (10 ∷ []))

pub short : (line : Line) → length (spelled line) ≤ 23
short (Line.Measured m) = numbered_short 65 m.0
short Line.Unmeasured = lit≤ tt
short Line.None = lit≤ tt
short Line.Unread = lit≤ tt
short (Line.Refused r) = numbered_short 82 (number_of r)

-- ---- a line in lent memory, with too little room and with enough

module _ (line : Line) (out : List ℕ) where
  by_room : (b : Bool) → ltb (length out) (length (spelled line)) ≡ b
      → (answer (cond b 11 0) (length (spelled line)) ≡ spell_answer line out) × (memory (cond b 11 0) (spelled line) out ≡ spell_into line out)
  unfolding spell_answer spell_into spell_row
  by_room b e =
      (ap (λ (t : Bool). answer (cond t 11 0) (length (spelled line))) (sym e), ap (λ (t : Bool). memory (cond t 11 0) (spelled line) out) (sym e))

  no_room : length out < length (spelled line) → (Err Room ≡ spell_answer line out) × (out ≡ spell_into line out)
  no_room h = by_room true (lt-ltb _ _ h)

  written : length (spelled line) ≤ length out
      → (Ok (length (spelled line)) ≡ spell_answer line out) × (spelled line ++ drop (length (spelled line)) out ≡ spell_into line out)
  written h = by_room false (le-ltb _ _ h)

  -- by what `lent::put` says of the line's characters
  pub put_there : (p : List ℕ) → p ≡ spelled line → fits out 0 p ≡ true
      → (Ok (length (spelled line)) ≡ spell_answer line out) × (put_into out 0 p ≡ spell_into line out)
  put_there p e h =
      let is = written (omega (arith, leb-true (0 + length p) (length out) h, ap length e)) in
      (is.0, at_front out p h ∙ ap (λ (x : List ℕ). x ++ drop (length x) out) e ∙ is.1)

  pub put_nowhere : (p : List ℕ) → p ≡ spelled line → fits out 0 p ≡ false
      → (Err Room ≡ spell_answer line out) × (put_into out 0 p ≡ spell_into line out)
  put_nowhere p e h =
      let is = no_room (omega (arith, leb-false (0 + length p) (length out) h, ap length e)) in
      (is.0, unchanged out 0 p h ∙ is.1)

  -- and the other way round: what the answer says of the room and of the memory
  pub spell_refused : (r : Refusal) → spell_answer line out ≡ Err r → (length out < length (spelled line)) × (spell_into line out ≡ out)
  spell_refused r e =
      ⊎_elim (λ h. absurd (let z : ◌≡◌ {A = ℕ} 0 1 = cc (written h).0 in omega arith)) (λ h. (h, sym (no_room h).1))
      (le_or_lt (length (spelled line)) (length out))

  pub spell_counted : (n : ℕ) → spell_answer line out ≡ Ok n
      → (n ≡ length (spelled line)) × (n ≤ length out) × (spell_into line out ≡ spelled line ++ drop n out)
  spell_counted n e = ⊎_elim yes no (le_or_lt (length (spelled line)) (length out))
    where
      yes : length (spelled line) ≤ length out → (n ≡ length (spelled line)) × (n ≤ length out) × (spell_into line out ≡ spelled line ++ drop n out)
      yes h =
          let is = written h in
          let all : n ≡ length (spelled line) = cc is.0 in
          (all, omega arith, sym is.1 ∙ ap (λ (k : ℕ). spelled line ++ drop k out) (sym all))

      no : length out < length (spelled line) → (n ≡ length (spelled line)) × (n ≤ length out) × (spell_into line out ≡ spelled line ++ drop n out)
      no h = absurd (let z : ◌≡◌ {A = ℕ} 0 1 = cc (no_room h).0 in omega arith)
