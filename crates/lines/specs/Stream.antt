-- What the tally says of a stream: its lines, each with its answer.
-- Assumes nothing.
use Rattle.std.specs.Prelude.{◌≡◌, ℕ, ◌≤◌, cond, List, [], ◌∷◌, ◌++◌, length, take, Ok, eqb}
use Rattle.line.specs.Line.{line_answer}
use Rattle.spelling.specs.Spelling.{spelled}
use Rattle.lines.specs.declared.answers.Held.{Held}
use Rattle.lines.specs.declared.answers.Turn.{Turn}
use Rattle.lines.specs.Turns.{turn_answer, turn_carry, turn_out}

-- the lines of a stream, the first of which starts with `line`: a newline byte ends a line, and so does the end of the stream where the line is not empty
unfoldable pub cut : List ℕ → List ℕ → List (List ℕ)
cut line [] = cond (eqb (length line) 0) [] (line ∷ [])
cut line (c ∷ cs) = cond (eqb c 10) (line ∷ cut [] cs) (cut (line ++ (c ∷ [])) cs)

-- the answer lines of these texts, one after the other
unfoldable pub said : List (List ℕ) → List ℕ
said [] = []
said (line ∷ lines) = spelled (line_answer line) ++ said lines

-- what the tally says of a stream
unfoldable pub tally : List ℕ → List ℕ
tally s = said (cut [] s)

-- ---- a stream that is handed over in turns

-- what is held, the carry buffer, the stream as far as it was taken, and all answers so far. At the start nothing is held, and the carry
-- buffer has room for the longest text. Each turn more goes over any input and any output: it answers what is held then, how much of the
-- input is taken, and how much is written at the front of the output
pub data Handed : Held → List ℕ → List ℕ → List ℕ → Type 0 where
  start : (carry : List ℕ) → 5464 ≤ length carry → Handed (Held.Characters 0) carry [] []
  turn : {held : Held} {carry stream answers : List ℕ} {t : Turn} → Handed held carry stream answers → (input out : List ℕ)
      → turn_answer held input carry out ≡ Ok t
      → Handed t.held (turn_carry held input carry out) (stream ++ take t.taken input) (answers ++ take t.written (turn_out held input carry out))
