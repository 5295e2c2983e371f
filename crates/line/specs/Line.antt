-- What the tally says of a text.
-- Assumes nothing.
use Rattle.std.specs.Prelude.{ℕ, zero, suc, List, Result, Ok, Err}
use Rattle.units.specs.declared.refusals.Refusal.{Refusal}
use Rattle.units.specs.Refusals.{named}
use Rattle.units.specs.Clock.{millis_of}
use Rattle.text.specs.Text.{read_row, decoded}
use Rattle.breaks.specs.declared.Break.{Break}
use Rattle.breaks.specs.Breaks.{break_answer}
use Rattle.spelling.specs.declared.Line.{Line}

-- a break, measured in milliseconds, or the refusal
abbrev pub in_millis : Result Break Refusal → Line
in_millis (Ok Break.None) = Line.None
in_millis (Ok (Break.Measured t)) = Line.Measured (millis_of t)
in_millis (Ok Break.Unmeasured) = Line.Unmeasured
in_millis (Ok Break.Unread) = Line.Unread
in_millis (Err r) = Line.Refused r

-- by the row that refuses the text, 0 where none does, and the bytes that it then gives
abbrev pub answer_by : ℕ → List ℕ → Line
answer_by zero s = in_millis (break_answer s)
answer_by (suc row) s = Line.Refused (named (suc row))

-- the answer to the text t, whose bytes are read into a room of so many
unfoldable pub answer_in : List ℕ → ℕ → Line
answer_in t room = answer_by (read_row t room) (decoded t)

-- the answer to the text t: there is room for the 4,098 bytes of the longest text
unfoldable pub line_answer : List ℕ → Line
line_answer t = answer_in t 4098
