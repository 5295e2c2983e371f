-- A turn stays within its input and its output, and gets on: with room for the longest answer something is taken of any input.
-- Assumes nothing.
use mathlib.Core.Path.{◌≡◌, refl, ap}
use mathlib.Core.Bool.{Bool, true, false, cond, ◌||◌}
use mathlib.Core.List.{List, [], ◌∷◌, ◌++◌}
use Prim.Native.Nat.{ℕ, zero, suc, ◌+◌, ◌-◌, ◌≤◌, ◌<◌}
use native.Mathlib.Omega.{arith}
use lib.ListN.{length, length-append}
use lib.Dec.{eqb, ltb}
use borrow.Author.Tests.{ltb-true, ltb-false}
use Rattle.std.specs.Prelude.{Ok}
use Rattle.units.specs.Answers.{answer}
use Rattle.spelling.specs.Spelling.{spelled}
use Rattle.spelling.proofs.Spelled.{short}
use Rattle.lines.specs.declared.answers.Held.{Held}
use Rattle.lines.specs.declared.answers.Turn.{Turn}
use Rattle.lines.specs.Turns.{ended, carry_ended, Turned, full, after, turned, turn_row, moved, turn_answer, last_said, last_row, last_answer}

-- how a turn over `most` bytes, with so much room, may end
pub record Within (most room : ℕ) (t : Turned) : Type 0 where
  pub taken : t.taken ≤ most
  pub said : length t.said ≤ room
  pub on : 23 ≤ room → 0 < most → 0 < t.taken

pub within : (held : Held) (carry part : List ℕ) (room : ℕ) (x : List ℕ) → Within (length part + length x) room (turned held carry part room x)
unfolding turned
within held carry part room [] = record { taken = omega arith; said = omega arith; on = λ r m. omega arith }
within held carry part room (c ∷ cs) =
    by (eqb c 10) (ltb room (length (spelled (ended held carry part)))) refl (within held carry (part ++ (c ∷ [])) room cs)
    (within (Held.Characters 0) (carry_ended held carry part) [] (room - length (spelled (ended held carry part))) cs)
  where
    by : (newline few : Bool) → ltb room (length (spelled (ended held carry part))) ≡ few
        → Within (length (part ++ (c ∷ [])) + length cs) room (turned held carry (part ++ (c ∷ [])) room cs)
        → Within (0 + length cs) (room - length (spelled (ended held carry part))) (turned (Held.Characters 0) (carry_ended held carry part) [] (room - length (spelled (ended held carry part))) cs)
        → Within (length part + suc (length cs)) room
        (cond newline
        (cond few (full held carry part)
        (after (length part + 1) (spelled (ended held carry part))
        (turned (Held.Characters 0) (carry_ended held carry part) [] (room - length (spelled (ended held carry part))) cs)))
        (turned held carry (part ++ (c ∷ [])) room cs))
    by true true q line rest =
        record {
          taken = omega arith;
          said = omega arith;
          on = λ r m. absurd (omega (arith, ltb-true room (length (spelled (ended held carry part))) q, short (ended held carry part)));
        }
    by true false q line rest =
        record {
          taken = omega (arith, rest.taken);
          said =
              omega
              (arith, rest.said, ltb-false room (length (spelled (ended held carry part))) q, length-append (spelled (ended held carry part)) (turned (Held.Characters 0) (carry_ended held carry part) [] (room - length (spelled (ended held carry part))) cs).said);
          on = λ r m. omega arith;
        }
    by false few q line rest =
        record {
          taken = omega (arith, line.taken, length-append part (c ∷ []));
          said = line.said;
          on = λ r m. line.on r (omega (arith, length-append part (c ∷ [])));
        }

-- the same of what a turn answers
pub moved_within : (held : Held) (input carry out : List ℕ) (t : Turn) → turn_answer held input carry out ≡ Ok t
    → (t.taken ≤ length input) × (t.written ≤ length out) × (23 ≤ length out → 0 < length input → 0 < t.taken)
unfolding turn_answer
moved_within held input carry out t e = by (turn_row carry) (turned held carry [] (length out) input) e (within held carry [] (length out) input)
  where
    by : (row : ℕ) (x : Turned) → moved row x ≡ Ok t → Within (0 + length input) (length out) x
        → (t.taken ≤ length input) × (t.written ≤ length out) × (23 ≤ length out → 0 < length input → 0 < t.taken)
    by zero x e w =
        let same : record { held = x.held; taken = x.taken; written = length x.said } ≡ t = cc in
        let takes : x.taken ≡ t.taken = ap (λ (y : Turn). y.taken) same in
        let writes : length x.said ≡ t.written = ap (λ (y : Turn). y.written) same in
        (omega (arith, w.taken), omega (arith, w.said), λ r m. omega (arith, w.on r (omega arith)))
    by (suc row) x e w = absurd (let z : ◌≡◌ {A = ℕ} 0 1 = cc in omega arith)

-- and of the last line
pub last_within : (held : Held) (carry out : List ℕ) (n : ℕ) → last_answer held carry out ≡ Ok n → n ≤ length out
unfolding last_answer last_row
last_within held carry out n e = by (ltb (length carry) 5464) (ltb (length out) (length (last_said held carry))) refl e
  where
    by : (a b : Bool) → ltb (length out) (length (last_said held carry)) ≡ b → answer (cond (a || b) 11 0) (length (last_said held carry)) ≡ Ok n → n ≤ length out
    by true b q e = absurd (let z : ◌≡◌ {A = ℕ} 0 1 = cc in omega arith)
    by false true q e = absurd (let z : ◌≡◌ {A = ℕ} 0 1 = cc in omega arith)
    by false false q e =
        let same : length (last_said held carry) ≡ n = cc in
        omega (arith, ltb-false (length out) (length (last_said held carry)) q)
