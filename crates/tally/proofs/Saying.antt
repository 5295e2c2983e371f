-- What a turn writes to the front of the output is answer lines, whole ones, and so is the last line.
-- Assumes nothing.
use mathlib.Core.Path.{◌≡◌, sym, ap, subst}
use mathlib.Core.Bool.{Bool, true, false, cond}
use mathlib.Core.List.{List, [], ◌∷◌, ◌++◌, append-nil}
use Prim.Native.Nat.{ℕ, zero, suc, ◌+◌, ◌-◌}
use native.Mathlib.Omega.{arith}
use lib.ListN.{length, take, drop}
use lib.Seq.{take_at}
use lib.Dec.{eqb, ltb}
use Rattle.units.specs.declared.refusals.Refusal.TheVariants.{TextLen}
use Rattle.std.specs.Prelude.{Ok}
use Rattle.units.specs.Answers.{answer, memory}
use Rattle.spelling.specs.declared.Line.{Line}
use Rattle.spelling.specs.Spelling.{spelled}
use Rattle.lines.specs.declared.answers.Held.{Held}
use Rattle.lines.specs.declared.answers.Turn.{Turn}
use Rattle.lines.specs.Turns.{ended, carry_ended, Turned, full, after, turned, turn_row, moved, turn_answer, turn_out, last_said, last_row, last_answer, last_out}
use Rattle.tally.specs.Loop.{Answers}
use Rattle.tally.specs.Loop as loop

turned_answers : (held : Held) (carry part : List ℕ) (room : ℕ) (x : List ℕ) → Answers (turned held carry part room x).said
unfolding turned
turned_answers held carry part room [] = loop.none
turned_answers held carry part room (c ∷ cs) =
    by (eqb c 10) (ltb room (length (spelled (ended held carry part)))) (turned_answers held carry (part ++ (c ∷ [])) room cs)
    (turned_answers (Held.Characters 0) (carry_ended held carry part) [] (room - length (spelled (ended held carry part))) cs)
  where
    by : (newline few : Bool) → Answers (turned held carry (part ++ (c ∷ [])) room cs).said
        → Answers (turned (Held.Characters 0) (carry_ended held carry part) [] (room - length (spelled (ended held carry part))) cs).said
        → Answers
        (cond newline
        (cond few (full held carry part)
        (after (length part + 1) (spelled (ended held carry part))
        (turned (Held.Characters 0) (carry_ended held carry part) [] (room - length (spelled (ended held carry part))) cs)))
        (turned held carry (part ++ (c ∷ [])) room cs)).said
    by true true goes next = loop.none
    by true false goes next = loop.line (ended held carry part) next
    by false few goes next = goes

one_answer : (l : Line) → Answers (spelled l)
one_answer l = subst Answers (append-nil (spelled l)) (loop.line l loop.none)

last_answers : (held : Held) (carry : List ℕ) → Answers (last_said held carry)
unfolding last_said
last_answers (Held.Characters zero) carry = loop.none
last_answers (Held.Characters (suc n)) carry = one_answer (ended (Held.Characters (suc n)) carry [])
last_answers Held.TooLong carry = one_answer (Line.Refused TextLen)

-- what a turn says that it wrote
pub turn_writes : (held : Held) (input carry out : List ℕ) (t : Turn) → turn_answer held input carry out ≡ Ok t
    → Answers (take t.written (turn_out held input carry out))
unfolding turn_answer turn_out
turn_writes held input carry out t e =
    by (turn_row carry) (turned held carry [] (length out) input) e (turned_answers held carry [] (length out) input)
  where
    by : (row : ℕ) (x : Turned) → moved row x ≡ Ok t → Answers x.said → Answers (take t.written (memory row x.said out))
    by zero x e a =
        let same : record { held = x.held; taken = x.taken; written = length x.said } ≡ t = cc in
        subst Answers (sym (take_at x.said (drop (length x.said) out) t.written (ap (λ (y : Turn). y.written) same))) a
    by (suc row) x e a = absurd (let z : ◌≡◌ {A = ℕ} 0 1 = cc in omega arith)

-- and the last line: all of its answer
pub last_writes : (held : Held) (carry out : List ℕ) (n : ℕ) → last_answer held carry out ≡ Ok n
    → (n ≡ length (last_said held carry)) × Answers (take n (last_out held carry out))
unfolding last_answer last_out
last_writes held carry out n e = by (last_row held carry out) e
  where
    by : (row : ℕ) → answer row (length (last_said held carry)) ≡ Ok n
        → (n ≡ length (last_said held carry)) × Answers (take n (memory row (last_said held carry) out))
    by zero e =
        let long : length (last_said held carry) ≡ n = cc in
        (sym long, subst Answers (sym (take_at (last_said held carry) (drop (length (last_said held carry)) out) n long)) (last_answers held carry))
    by (suc row) e = absurd (let z : ◌≡◌ {A = ℕ} 0 1 = cc in omega arith)
