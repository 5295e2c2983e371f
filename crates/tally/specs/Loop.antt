-- What the loop that reads and writes does with what a read brought, a write that fails aside.
-- Assumes nothing.
use Rattle.std.specs.Prelude.{ℕ, zero, suc, ◌+◌, ◌≤◌, ◌≡◌, List, [], ◌++◌, length, take, drop, min, Result, Ok, Err, IsErr}
use Rattle.units.specs.declared.refusals.Refusal.{Refusal}
use Rattle.spelling.specs.declared.Line.{Line}
use Rattle.spelling.specs.Spelling.{spelled}
use Rattle.lines.specs.declared.answers.Held.{Held}
use Rattle.lines.specs.declared.answers.Turn.{Turn}
use Rattle.lines.specs.Turns.{turn_answer, turn_carry, turn_out, last_said, last_out}
use Rattle.tally.specs.declared.Failed.{Failed}
use Rattle.tally.specs.declared.Next.{Next}

-- answer lines, whole, one after the other
pub data Answers : List ℕ → Type 0 where
  none : Answers []
  line : (l : Line) {rest : List ℕ} → Answers rest → Answers (spelled l ++ rest)

-- so many bytes were to be written: all of them were, or the write failed
abbrev pub Wrote : ℕ → Result ℕ Failed → Type 0
Wrote n (Ok m) = m ≡ n
Wrote n (Err e) = Unit {0}

-- a turn's answers were written: what it answered, with as many bytes written as it says; or the write failed
abbrev pub Stepped : Result Turn Refusal → Result Turn Failed → Type 0
Stepped answer (Ok t) = answer ≡ Ok t
Stepped answer (Err e) = Unit {0}

-- what is held, the carry buffer and the answers where nothing of an input was taken, and where so many of its bytes were: in one turn after
-- another, each over the rest of the input and any output, its answers being what it wrote there
pub data Taken (held : Held) (carry input : List ℕ) : ℕ → Held → List ℕ → List ℕ → Type 0 where
  none : Taken held carry input 0 held carry []
  turn : {at : ℕ} {held₁ : Held} {carry₁ answers : List ℕ} → Taken held carry input at held₁ carry₁ answers
      → (out : List ℕ) (t : Turn) → turn_answer held₁ (drop at input) carry₁ out ≡ Ok t
      → Taken held carry input (at + t.taken) t.held (turn_carry held₁ (drop at input) carry₁ out)
      (answers ++ take t.written (turn_out held₁ (drop at input) carry₁ out))

-- an input was taken, all of it, and it goes on with what is held then; or a write failed
abbrev pub Took : Held → List ℕ → List ℕ → List ℕ → Result Held Failed → Type 0
Took held input carry carry' (Ok held') = (answers : List ℕ) × Taken held carry input (length input) held' carry' answers
Took held input carry carry' (Err e) = Unit {0}

-- the line that is held was written at the end of the input, all of its answer; or the write failed
abbrev pub Ended : Held → List ℕ → Result ℕ Failed → Type 0
Ended held carry r = Wrote (length (last_said held carry)) r

-- an input was taken, and it goes on; or a write failed
abbrev pub GoesOn : Held → List ℕ → List ℕ → List ℕ → Result Next Failed → Type 0
GoesOn held input carry carry' (Ok (Next.Holding held')) = Took held input carry carry' (Ok held')
GoesOn held input carry carry' (Ok (Next.Ended n)) = ⊥
GoesOn held input carry carry' (Err e) = Unit {0}

-- the line that is held was written, and it does not go on; or a write failed
abbrev pub Ends : Held → List ℕ → Result Next Failed → Type 0
Ends held carry (Ok (Next.Holding held')) = ⊥
Ends held carry (Ok (Next.Ended n)) = Ended held carry (Ok n)
Ends held carry (Err e) = Unit {0}

-- what is done by a read's answer: an error where it failed, 0 at the end of the input, and otherwise how many bytes came
abbrev pub Came : {E : Type 0} → Result ℕ E → Held → List ℕ → List ℕ → List ℕ → List ℕ → List ℕ → Result Next Failed → Type 0
Came (Err e) held input carry carry' out out' r = IsErr r
Came (Ok zero) held input carry carry' out out' r = Ends held carry r × (out' ≡ last_out held carry out)
Came (Ok (suc k)) held input carry carry' out out' r = GoesOn held (take (min (suc k) (length input)) input) carry carry' r

-- the reads of a run so far, one after the other: what is held, the carry buffer, all that was read, and all answers
pub data Ran : Held → List ℕ → List ℕ → List ℕ → Type 0 where
  start : (carry : List ℕ) → 5464 ≤ length carry → Ran (Held.Characters 0) carry [] []
  read : {held held' : Held} {carry carry' stream answers more : List ℕ} → Ran held carry stream answers → (input : List ℕ)
      → Taken held carry input (length input) held' carry' more → Ran held' carry' (stream ++ input) (answers ++ more)
