-- What is held of a line, by cases: a part that fits and one that does not, a line that ends, and the end of the stream.
-- Assumes nothing.
use mathlib.Core.Path.{◌≡◌, refl, sym, ap, ap₂, ◌∙◌}
use mathlib.Core.Bool.{Bool, true, false, cond, ◌||◌}
use mathlib.Core.Logic.{⊎_elim}
use mathlib.Core.List.{List, [], ◌++◌, append-nil}
use Prim.Native.Nat.{ℕ, zero, suc, ◌+◌, ◌≤◌, ◌<◌}
use native.Mathlib.Nat.{add-zero}
use native.Mathlib.Omega.{arith}
use lib.ListN.{length, take, drop, take-append-drop}
use lib.Seq.{take_at}
use lib.Dec.{leb, ltb}
use borrow.Author.Tests.{lt-ltb, le-ltb, le-leb, lt-leb, leb-true}
use Rattle.bits.proofs.Cases.{le_or_lt}
use Rattle.units.specs.declared.refusals.Refusal.TheVariants.{TextLen, Room}
use Rattle.std.specs.Prelude.{Ok, Err}
use Rattle.units.specs.Answers.{answer, memory}
use Rattle.spelling.specs.declared.Line.{Line}
use Rattle.line.specs.Line.{answer_in, line_answer}
use Rattle.spelling.specs.Spelling.{spelled, spell_row, spell_answer, spell_into}
use Rattle.line.proofs.Answered.{too_long}
use Rattle.lines.specs.declared.answers.Held.{Held}
use Rattle.lines.specs.Turns.{held_with, carry_with, held_answer, ended, carry_ended, last_said, last_row, last_answer, last_out}

-- ---- a part more

module _ (held : Held) (n : ℕ) (e : held ≡ Held.Characters n) (carry part : List ℕ) where
  by_fit : (b : Bool) → leb (n + length part) 5464 ≡ b
      → (cond b (Held.Characters (n + length part)) Held.TooLong ≡ held_with held part)
      × (cond b (take n carry ++ part ++ drop (n + length part) carry) carry ≡ carry_with held carry part)
  by_fit b q = (
    ap (λ (t : Bool). cond t (Held.Characters (n + length part)) Held.TooLong) (sym q) ∙ ap (λ (h : Held). held_with h part) (sym e),
    ap (λ (t : Bool). cond t (take n carry ++ part ++ drop (n + length part) carry) carry) (sym q)
        ∙ ap (λ (h : Held). carry_with h carry part) (sym e),
  )

  pub no_fit : 5464 < n + length part → (Held.TooLong ≡ held_with held part) × (carry ≡ carry_with held carry part)
  no_fit h = by_fit false (lt-leb _ _ h)

  pub fit : n + length part ≤ 5464
      → (Held.Characters (n + length part) ≡ held_with held part) × (take n carry ++ part ++ drop (n + length part) carry ≡ carry_with held carry part)
  fit h = by_fit true (le-leb _ _ h)

-- no more characters are held than the longest text has
pub held_most : (held : Held) (part : List ℕ) (n : ℕ) → held_with held part ≡ Held.Characters n → n ≤ 5464
held_most Held.TooLong part n e = absurd (let z : ◌≡◌ {A = ℕ} 0 1 = cc in omega arith)
held_most (Held.Characters k) part n e = by (leb (k + length part) 5464) refl e
  where
    by : (b : Bool) → leb (k + length part) 5464 ≡ b → cond b (Held.Characters (k + length part)) Held.TooLong ≡ Held.Characters n → n ≤ 5464
    by true q e = let same : k + length part ≡ n = cc in omega (arith, leb-true (k + length part) 5464 q)
    by false q e = absurd (let z : ◌≡◌ {A = ℕ} 0 1 = cc in omega arith)

-- ---- a line that ends

-- of which so much is held in all
pub ended_at : (held : Held) (carry part : List ℕ) (n : ℕ) (l : List ℕ) → held_with held part ≡ Held.Characters n → l ≡ carry_with held carry part
    → answer_in (take n l) 4098 ≡ ended held carry part
unfolding ended line_answer
ended_at held carry part n l e q = ap₂ held_answer (sym e) q

pub ended_long : (held : Held) (carry part : List ℕ) → held_with held part ≡ Held.TooLong → Line.Refused TextLen ≡ ended held carry part
unfolding ended
ended_long held carry part e = ap (λ (h : Held). held_answer h (carry_with held carry part)) (sym e)

-- of which nothing is held: it stands whole in the input
pub ended_whole : (held : Held) (carry part : List ℕ) → held ≡ Held.Characters 0 → answer_in part 4098 ≡ ended held carry part
unfolding line_answer
ended_whole held carry part e = ⊎_elim short long (le_or_lt (0 + length part) 5464)
  where
    short : 0 + length part ≤ 5464 → answer_in part 4098 ≡ ended held carry part
    short h =
        let parts = fit held 0 e carry part h in
        ap (λ (t : List ℕ). answer_in t 4098) (sym (take_at part (drop (0 + length part) carry) (0 + length part) (omega arith)))
        ∙ ended_at held carry part (0 + length part) _ (sym parts.0) parts.1

    long : 5464 < 0 + length part → answer_in part 4098 ≡ ended held carry part
    long h = too_long part (omega arith) ∙ ended_long held carry part (sym (no_fit held 0 e carry part h).0)

pub carry_whole : (held : Held) (carry part : List ℕ) → held ≡ Held.Characters 0 → carry ≡ carry_ended held carry part
carry_whole held carry part e = ap (λ (h : Held). carry_ended h carry part) (sym e)

pub carry_joined : (held : Held) (n : ℕ) (carry part : List ℕ) → held ≡ Held.Characters n → (n ≡ 0 → ⊥)
    → carry_with (Held.Characters n) carry part ≡ carry_ended held carry part
carry_joined held zero carry part e h = absurd (h refl)
carry_joined held (suc n) carry part e h = ap (λ (h : Held). carry_ended h carry part) (sym e)

-- ---- the end of the stream

module _ (held : Held) (carry out : List ℕ) where
  by_carry : (b : Bool) → ltb (length carry) 5464 ≡ b
      → (answer (cond (b || ltb (length out) (length (last_said held carry))) 11 0) (length (last_said held carry)) ≡ last_answer held carry out)
      × (memory (cond (b || ltb (length out) (length (last_said held carry))) 11 0) (last_said held carry) out ≡ last_out held carry out)
  unfolding last_answer last_out last_row
  by_carry b e = (
    ap (λ (t : Bool). answer (cond (t || ltb (length out) (length (last_said held carry))) 11 0) (length (last_said held carry))) (sym e),
    ap (λ (t : Bool). memory (cond (t || ltb (length out) (length (last_said held carry))) 11 0) (last_said held carry) out) (sym e),
  )

  pub last_refused : length carry < 5464 → (Err Room ≡ last_answer held carry out) × (out ≡ last_out held carry out)
  last_refused h = by_carry true (lt-ltb _ _ h)

  -- a line
  pub last_spelled : (line : Line) → 5464 ≤ length carry → spelled line ≡ last_said held carry
      → (spell_answer line out ≡ last_answer held carry out) × (spell_into line out ≡ last_out held carry out)
  unfolding spell_answer spell_into spell_row
  last_spelled line h e =
      let long = by_carry false (le-ltb _ _ h) in (
        ap (λ (l : List ℕ). answer (cond (ltb (length out) (length l)) 11 0) (length l)) e ∙ long.0,
        ap (λ (l : List ℕ). memory (cond (ltb (length out) (length l)) 11 0) l out) e ∙ long.1,
      )

  -- nothing
  pub last_none : 5464 ≤ length carry → held ≡ Held.Characters 0 → (Ok 0 ≡ last_answer held carry out) × (out ≡ last_out held carry out)
  unfolding last_said
  last_none h e =
      let long = by_carry false (le-ltb _ _ h) in
      let none : last_said held carry ≡ [] = ap (λ (h : Held). last_said h carry) e in
      let room : ltb (length out) 0 ≡ false = le-ltb (length out) 0 (omega arith) in (
        ap (λ (b : Bool). answer (cond b 11 0) 0) (sym room)
            ∙ ap (λ (l : List ℕ). answer (cond (ltb (length out) (length l)) 11 0) (length l)) (sym none)
            ∙ long.0,
        ap (λ (b : Bool). memory (cond b 11 0) [] out) (sym room)
            ∙ ap (λ (l : List ℕ). memory (cond (ltb (length out) (length l)) 11 0) l out) (sym none)
            ∙ long.1,
      )

-- what is said of a line that is held
pub last_held : (held : Held) (carry : List ℕ) (n : ℕ) → held ≡ Held.Characters n → (n ≡ 0 → ⊥) → n ≤ 5464
    → spelled (line_answer (take n carry)) ≡ last_said held carry
unfolding last_said line_answer
last_held held carry zero e z h = absurd (z refl)
last_held held carry (suc n) e z h =
    let all : suc n + 0 ≡ suc n = add-zero (suc n) in
    let parts = fit (Held.Characters (suc n)) (suc n) refl carry [] (omega arith) in
    let same : take (suc n) carry ++ [] ++ drop (suc n + 0) carry ≡ carry =
    ap (λ (k : ℕ). take (suc n) carry ++ [] ++ drop k carry) all
    ∙ ap (λ (l : List ℕ). l ++ drop (suc n) carry) (append-nil (take (suc n) carry))
    ∙ take-append-drop (suc n) carry in
    ap spelled
    (ap (λ (k : ℕ). answer_in (take k carry) 4098) (sym all)
    ∙ ended_at (Held.Characters (suc n)) carry [] (suc n + 0) carry (sym parts.0) (sym same ∙ parts.1))
    ∙ ap (λ (h : Held). last_said h carry) (sym e)

pub last_long : (held : Held) (carry : List ℕ) (n : ℕ) → held ≡ Held.Characters n → 5464 < n → spelled (Line.Refused TextLen) ≡ last_said held carry
unfolding last_said
last_long held carry zero e h = absurd (omega arith)
last_long held carry (suc n) e h =
    ap spelled (ended_long (Held.Characters (suc n)) carry [] (sym (no_fit (Held.Characters (suc n)) (suc n) refl carry [] (omega arith)).0))
    ∙ ap (λ (h : Held). last_said h carry) (sym e)

pub last_too_long : (held : Held) (carry : List ℕ) → held ≡ Held.TooLong → spelled (Line.Refused TextLen) ≡ last_said held carry
unfolding last_said
last_too_long held carry e = ap (λ (h : Held). last_said h carry) (sym e)
