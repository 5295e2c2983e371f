-- A stream of lines in turns: the input at hand, cut anywhere; the characters of a line that was cut are held in a carry buffer.
-- Assumes nothing.
use Rattle.std.specs.Prelude.{ℕ, zero, suc, ◌+◌, ◌-◌, cond, ◌||◌, List, [], ◌∷◌, ◌++◌, length, take, drop, Result, Ok, Err, eqb, leb, ltb}
use Rattle.units.specs.declared.refusals.Refusal.{Refusal}
use Rattle.units.specs.declared.refusals.Refusal.TheVariants.{TextLen, Room}
use Rattle.units.specs.Answers.{answer, memory}
use Rattle.spelling.specs.declared.Line.{Line}
use Rattle.line.specs.Line.{line_answer}
use Rattle.spelling.specs.Spelling.{spelled}
use Rattle.lines.specs.declared.answers.Held.{Held}
use Rattle.lines.specs.declared.answers.Turn.{Turn}

-- ---- what is held of a line that was cut

-- a part more: at most 5,464 characters are held, as many as the longest text has
abbrev pub held_with : Held → List ℕ → Held
held_with (Held.Characters n) part = cond (leb (n + length part) 5464) (Held.Characters (n + length part)) Held.TooLong
held_with Held.TooLong part = Held.TooLong

-- the carry buffer with that part behind what is held
abbrev pub carry_with : Held → List ℕ → List ℕ → List ℕ
carry_with (Held.Characters n) carry part = cond (leb (n + length part) 5464) (take n carry ++ part ++ drop (n + length part) carry) carry
carry_with Held.TooLong carry part = carry

-- the answer to a line of which this is held
abbrev pub held_answer : Held → List ℕ → Line
held_answer (Held.Characters n) carry = line_answer (take n carry)
held_answer Held.TooLong carry = Line.Refused TextLen

-- the answer to a line that ends after that part
unfoldable pub ended : Held → List ℕ → List ℕ → Line
ended held carry part = held_answer (held_with held part) (carry_with held carry part)

-- the carry buffer is used for a line of which something is held, and for no other
abbrev pub carry_ended : Held → List ℕ → List ℕ → List ℕ
carry_ended (Held.Characters zero) carry part = carry
carry_ended (Held.Characters (suc n)) carry part = carry_with (Held.Characters (suc n)) carry part
carry_ended Held.TooLong carry part = carry

-- ---- a turn

-- what is held then, the carry buffer, what was said, and how much of the input was taken
pub record Turned : Type 0 where
  pub held : Held
  pub carry : List ℕ
  pub said : List ℕ
  pub taken : ℕ

-- a part without a newline is held
abbrev pub kept : Held → List ℕ → List ℕ → Turned
kept held carry part = record { held = held_with held part; carry = carry_with held carry part; said = []; taken = length part }

-- a line whose answer has no room is not taken
abbrev pub full : Held → List ℕ → List ℕ → Turned
full held carry part = record { held = held; carry = carry_ended held carry part; said = []; taken = 0 }

-- a line of so many characters was taken and this was said, and then the rest
abbrev pub after : ℕ → List ℕ → Turned → Turned
after n words rest = record { held = rest.held; carry = rest.carry; said = words ++ rest.said; taken = n + rest.taken }

-- the turn over an input: `part` is what was passed of its first line, and `room` what is left of the output
unfoldable pub turned : Held → List ℕ → List ℕ → ℕ → List ℕ → Turned
turned held carry part room [] = kept held carry part
turned held carry part room (c ∷ cs) =
    cond (eqb c 10)
    (cond (ltb room (length (spelled (ended held carry part)))) (full held carry part)
    (after (length part + 1) (spelled (ended held carry part))
    (turned (Held.Characters 0) (carry_ended held carry part) [] (room - length (spelled (ended held carry part))) cs)))
    (turned held carry (part ++ (c ∷ [])) room cs)

-- ROOM where the carry buffer cannot hold the longest text
unfoldable pub turn_row : List ℕ → ℕ
turn_row carry = cond (ltb (length carry) 5464) 11 0

-- what a turn answers, and what the carry buffer and the output then hold
abbrev pub moved : ℕ → Turned → Result Turn Refusal
moved zero t = Ok (record { held = t.held; taken = t.taken; written = length t.said })
moved (suc row) t = Err Room

-- new memory, or the lent one where a row refuses
abbrev pub unless : ℕ → List ℕ → List ℕ → List ℕ
unless zero lent new = new
unless (suc row) lent new = lent

-- what a turn answers
unfoldable pub turn_answer : Held → List ℕ → List ℕ → List ℕ → Result Turn Refusal
turn_answer held input carry out = moved (turn_row carry) (turned held carry [] (length out) input)

-- what the carry buffer then holds
unfoldable pub turn_carry : Held → List ℕ → List ℕ → List ℕ → List ℕ
turn_carry held input carry out = unless (turn_row carry) carry (turned held carry [] (length out) input).carry

-- what the output then holds
unfoldable pub turn_out : Held → List ℕ → List ℕ → List ℕ → List ℕ
turn_out held input carry out = memory (turn_row carry) (turned held carry [] (length out) input).said out

-- how many characters stand before the first newline, or in all
unfoldable pub line_length : List ℕ → ℕ
line_length [] = 0
line_length (c ∷ cs) = cond (eqb c 10) 0 (suc (line_length cs))

-- ---- the end of the stream

-- a line that is not empty is ended by it
unfoldable pub last_said : Held → List ℕ → List ℕ
last_said (Held.Characters zero) carry = []
last_said (Held.Characters (suc n)) carry = spelled (ended (Held.Characters (suc n)) carry [])
last_said Held.TooLong carry = spelled (Line.Refused TextLen)

-- ROOM, where the carry buffer is too short for any line or the output for this answer
unfoldable pub last_row : Held → List ℕ → List ℕ → ℕ
last_row held carry out = cond (ltb (length carry) 5464 || ltb (length out) (length (last_said held carry))) 11 0

-- what the end of the stream answers
unfoldable pub last_answer : Held → List ℕ → List ℕ → Result ℕ Refusal
last_answer held carry out = answer (last_row held carry out) (length (last_said held carry))

-- what the output then holds
unfoldable pub last_out : Held → List ℕ → List ℕ → List ℕ
last_out held carry out = memory (last_row held carry out) (last_said held carry) out
