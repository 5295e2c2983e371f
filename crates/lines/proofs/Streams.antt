-- However a stream is cut into inputs, and whatever room each turn has, what the turns and the last line answer is what the tally says
-- of the whole; and none of them is refused.
-- Assumes nothing.
use mathlib.Core.Path.{◌≡◌, refl, sym, ap, ap₂, ◌∙◌, subst}
use mathlib.Core.Bool.{Bool, true, false, cond, ◌||◌}
use mathlib.Core.Logic.{◌⊎◌, inl, inr}
use mathlib.Core.List.{List, [], ◌∷◌, ◌++◌, append_assoc, append-nil}
use Prim.Native.Nat.{ℕ, zero, suc, ◌+◌, ◌-◌, ◌≤◌, ◌<◌}
use native.Mathlib.Omega.{arith}
use lib.ListN.{length, take, drop, length-append, length-drop}
use lib.Seq.{length-take-le, take_at, take-length, take-append-add, take-append_seam}
use lib.Dec.{eqb, ltb}
use borrow.Author.Tests.{eqb-true, ne_eqb, le-ltb}
use Rattle.bits.proofs.Cases.{le_or_lt}
use Rattle.spelling.specs.declared.Line.{Line}
use Rattle.line.specs.Line.{line_answer}
use Rattle.spelling.specs.Spelling.{spelled}
use Rattle.spelling.proofs.Spelled.{short}
use Rattle.std.specs.Prelude.{Result, Ok}
use Rattle.units.specs.declared.refusals.Refusal.{Refusal}
use Rattle.units.specs.declared.refusals.Refusal.TheVariants.{TextLen}
use Rattle.units.specs.Answers.{answer, memory}
use Rattle.line.proofs.Answered.{too_long}
use Rattle.lines.specs.declared.answers.Held.{Held}
use Rattle.lines.specs.declared.answers.Turn.{Turn}
use Rattle.lines.specs.Stream.{cut, said, tally, Handed}
use Rattle.lines.specs.Stream as stream
use Rattle.lines.specs.Turns.{held_with, carry_with, held_answer, ended, carry_ended, Turned, kept, full, after, turned, turn_answer, last_said, last_row, last_answer, last_out}
use Rattle.lines.proofs.Holding.{fit, no_fit}
use Rattle.lines.proofs.Turning.{turn_is}

-- ---- lines that are ended, and the line that is not

unfoldable pub done : List ℕ → List ℕ → List (List ℕ)
done line [] = []
done line (c ∷ cs) = cond (eqb c 10) (line ∷ done [] cs) (done (line ++ (c ∷ [])) cs)

unfoldable pub rest : List ℕ → List ℕ → List ℕ
rest line [] = line
rest line (c ∷ cs) = cond (eqb c 10) (rest [] cs) (rest (line ++ (c ∷ [])) cs)

-- what follows is cut behind what is left
cut_append : (line a b : List ℕ) → cut line (a ++ b) ≡ done line a ++ cut (rest line a) b
unfolding cut done rest
cut_append line [] b = refl
cut_append line (c ∷ a) b = by (eqb c 10) (cut_append [] a b) (cut_append (line ++ (c ∷ [])) a b)
  where
    by : (t : Bool) → cut [] (a ++ b) ≡ done [] a ++ cut (rest [] a) b
        → cut (line ++ (c ∷ [])) (a ++ b) ≡ done (line ++ (c ∷ [])) a ++ cut (rest (line ++ (c ∷ [])) a) b
        → cond t (line ∷ cut [] (a ++ b)) (cut (line ++ (c ∷ [])) (a ++ b))
        ≡ cond t (line ∷ done [] a) (done (line ++ (c ∷ [])) a) ++ cut (cond t (rest [] a) (rest (line ++ (c ∷ [])) a)) b
    by true ends goes = ap (λ (ls : List (List ℕ)). line ∷ ls) ends
    by false ends goes = goes

said_append : (a b : List (List ℕ)) → said (a ++ b) ≡ said a ++ said b
unfolding said
said_append [] b = refl
said_append (l ∷ a) b =
    ap (λ (x : List ℕ). spelled (line_answer l) ++ x) (said_append a b) ∙ sym (append_assoc (spelled (line_answer l)) (said a) (said b))

-- a part without a newline only makes the line longer
record Plain (part : List ℕ) : Type 0 where
  ends : (line y : List ℕ) → done line (part ++ y) ≡ done (line ++ part) y
  leaves : (line y : List ℕ) → rest line (part ++ y) ≡ rest (line ++ part) y

plain_none : Plain []
plain_none =
    record { ends = λ line y. ap (λ (l : List ℕ). done l y) (sym (append-nil line)); leaves = λ line y. ap (λ (l : List ℕ). rest l y) (sym (append-nil line)) }

plain_more : {part : List ℕ} (c : ℕ) → eqb c 10 ≡ false → Plain part → Plain (part ++ (c ∷ []))
unfolding done rest
plain_more {part} c e p =
    record {
      ends =
          λ line y.
          ap (done line) (append_assoc part (c ∷ []) y)
          ∙ p.ends line (c ∷ y)
          ∙ ap (λ (t : Bool). cond t ((line ++ part) ∷ done [] y) (done ((line ++ part) ++ (c ∷ [])) y)) e
          ∙ ap (λ (l : List ℕ). done l y) (append_assoc line part (c ∷ []));
      leaves =
          λ line y.
          ap (rest line) (append_assoc part (c ∷ []) y)
          ∙ p.leaves line (c ∷ y)
          ∙ ap (λ (t : Bool). cond t (rest [] y) (rest ((line ++ part) ++ (c ∷ [])) y)) e
          ∙ ap (λ (l : List ℕ). rest l y) (append_assoc line part (c ∷ []));
    }

-- ---- what is held stands for the line

-- the line's characters, or so many that it is too long
abbrev Stands : Held → List ℕ → List ℕ → Type 0
Stands (Held.Characters n) carry line = (n ≤ 5464) × (line ≡ take n carry)
Stands Held.TooLong carry line = 5464 < length line

stands_with : (held : Held) (carry part line : List ℕ) → 5464 ≤ length carry → Stands held carry line
    → Stands (held_with held part) (carry_with held carry part) (line ++ part)
stands_with Held.TooLong carry part line h s = omega (arith, length-append line part)
stands_with (Held.Characters n) carry part line h s = by (le_or_lt (n + length part) 5464)
  where
    held : Held
    held = Held.Characters n

    front : length (take n carry ++ part) ≡ n + length part
    front = length-append (take n carry) part ∙ ap (λ (k : ℕ). k + length part) (length-take-le n carry (omega (arith, s.0)))

    by : (n + length part ≤ 5464) ⊎ (5464 < n + length part) → Stands (held_with (Held.Characters n) part) (carry_with (Held.Characters n) carry part) (line ++ part)
    by (inl l) =
        let parts = fit (Held.Characters n) n refl carry part l in
        subst (λ (x : Held). Stands x (carry_with (Held.Characters n) carry part) (line ++ part)) parts.0
        (l, ap (λ (x : List ℕ). x ++ part) s.1 ∙ sym (take_at (take n carry ++ part) (drop (n + length part) carry) (n + length part) front) ∙ ap (take (n + length part)) parts.1)
    by (inr l) =
        let long : length (line ++ part) ≡ n + length part = ap (λ (x : List ℕ). length (x ++ part)) s.1 ∙ front in
        subst (λ (x : Held). Stands x (carry_with (Held.Characters n) carry part) (line ++ part)) (no_fit (Held.Characters n) n refl carry part l).0 (omega (arith, long))

-- so its answer is the line's
stands_answer : (held : Held) (carry line : List ℕ) → Stands held carry line → held_answer held carry ≡ line_answer line
stands_answer Held.TooLong carry line s = sym (too_long line s)
stands_answer (Held.Characters n) carry line s = ap line_answer (sym s.1)

stands_ended : (held : Held) (carry part line : List ℕ) → 5464 ≤ length carry → Stands held carry line → ended held carry part ≡ line_answer (line ++ part)
unfolding ended
stands_ended held carry part line h s = stands_answer (held_with held part) (carry_with held carry part) (line ++ part) (stands_with held carry part line h s)

-- the carry buffer stays as long as it was
with_long : (held : Held) (carry part : List ℕ) → 5464 ≤ length carry → length (carry_with held carry part) ≡ length carry
with_long Held.TooLong carry part h = refl
with_long (Held.Characters n) carry part h = by (le_or_lt (n + length part) 5464)
  where
    by : (n + length part ≤ 5464) ⊎ (5464 < n + length part) → length (carry_with (Held.Characters n) carry part) ≡ length carry
    by (inl l) =
        sym (ap length (fit (Held.Characters n) n refl carry part l).1)
        ∙ length-append (take n carry ++ part) (drop (n + length part) carry)
        ∙ omega (arith, length-append (take n carry) part, length-take-le n carry (omega arith), length-drop (n + length part) carry)
    by (inr l) = sym (ap length (no_fit (Held.Characters n) n refl carry part l).1)

ended_long : (held : Held) (carry part : List ℕ) → 5464 ≤ length carry → length (carry_ended held carry part) ≡ length carry
ended_long (Held.Characters zero) carry part h = refl
ended_long (Held.Characters (suc n)) carry part h = with_long (Held.Characters (suc n)) carry part h
ended_long Held.TooLong carry part h = refl

-- and keeps what is held where the answer has no room
stands_full : (held : Held) (carry part line : List ℕ) → 5464 ≤ length carry → Stands held carry line → Stands held (carry_ended held carry part) line
stands_full Held.TooLong carry part line h s = s
stands_full (Held.Characters zero) carry part line h s = s
stands_full (Held.Characters (suc n)) carry part line h s = by (le_or_lt (suc n + length part) 5464)
  where
    front : length (take (suc n) carry) ≡ suc n
    front = length-take-le (suc n) carry (omega (arith, s.0))

    by : (suc n + length part ≤ 5464) ⊎ (5464 < suc n + length part) → Stands (Held.Characters (suc n)) (carry_with (Held.Characters (suc n)) carry part) line
    by (inl l) = (
      s.0,
      s.1
          ∙ sym (take_at (take (suc n) carry) (part ++ drop (suc n + length part) carry) (suc n) front)
          ∙ ap (take (suc n)) (sym (append_assoc (take (suc n) carry) part (drop (suc n + length part) carry)) ∙ (fit (Held.Characters (suc n)) (suc n) refl carry part l).1),
    )
    by (inr l) = (s.0, s.1 ∙ ap (take (suc n)) (no_fit (Held.Characters (suc n)) (suc n) refl carry part l).1)

-- ---- a turn

-- after a turn over an input whose lines start with `line`: what was said, and what is held then
record Says (carry line input : List ℕ) (t : Turned) : Type 0 where
  words : t.said ≡ said (done line (take t.taken input))
  holds : Stands t.held t.carry (rest line (take t.taken input))
  long : length t.carry ≡ length carry

says_kept : (held : Held) (carry part line : List ℕ) → 5464 ≤ length carry → Stands held carry line → Plain part → Says carry line part (kept held carry part)
unfolding done rest said
says_kept held carry part line h s p =
    let all : take (length part) part ≡ part = take-length part in
    let ends : done line part ≡ [] = ap (done line) (sym (append-nil part)) ∙ p.ends line [] in
    let leaves : rest line part ≡ line ++ part = ap (rest line) (sym (append-nil part)) ∙ p.leaves line [] in
    record {
      words = sym (ap said (ap (done line) all ∙ ends));
      holds =
          subst (λ (x : List ℕ). Stands (held_with held part) (carry_with held carry part) x) (sym (ap (rest line) all ∙ leaves))
          (stands_with held carry part line h s);
      long = with_long held carry part h;
    }

says_full : (held : Held) (carry part line input : List ℕ) → 5464 ≤ length carry → Stands held carry line → Says carry line input (full held carry part)
unfolding done rest said
says_full held carry part line input h s =
    record { words = refl; holds = stands_full held carry part line h s; long = ended_long held carry part h }

says_after : (held : Held) (carry part line cs : List ℕ) (t : Turned) → 5464 ≤ length carry → Stands held carry line → Plain part
    → Says (carry_ended held carry part) [] cs t
    → Says carry line (part ++ (10 ∷ cs)) (after (length part + 1) (spelled (ended held carry part)) t)
unfolding done rest said
says_after held carry part line cs t h s p next =
    let y : List ℕ = take t.taken cs in
    let count : length part + 1 + t.taken ≡ length part + suc t.taken = omega arith in
    let front : take (length part + 1 + t.taken) (part ++ (10 ∷ cs)) ≡ part ++ (10 ∷ y) =
    ap (λ (k : ℕ). take k (part ++ (10 ∷ cs))) count ∙ take-append-add part (10 ∷ cs) (suc t.taken) in
    record {
      words =
          ap₂ (λ (l : Line) (x : List ℕ). spelled l ++ x) (stands_ended held carry part line h s) next.words
          ∙ sym (ap said (ap (done line) front ∙ p.ends line (10 ∷ y)));
      holds = subst (λ (x : List ℕ). Stands t.held t.carry x) (sym (ap (rest line) front ∙ p.leaves line (10 ∷ y))) next.holds;
      long = next.long ∙ ended_long held carry part h;
    }

says : (held : Held) (carry part line : List ℕ) (room : ℕ) (x : List ℕ) → 5464 ≤ length carry → Stands held carry line → Plain part
    → Says carry line (part ++ x) (turned held carry part room x)
unfolding turned
says held carry part line room [] h s p =
    subst (λ (y : List ℕ). Says carry line y (kept held carry part)) (sym (append-nil part)) (says_kept held carry part line h s p)
says held carry part line room (c ∷ cs) h s p =
    by (eqb c 10) refl (ltb room (length (spelled (ended held carry part))))
    (λ e. says held carry (part ++ (c ∷ [])) line room cs h s (plain_more c e p))
    (says (Held.Characters 0) (carry_ended held carry part) [] [] (room - length (spelled (ended held carry part))) cs
    (omega (arith, ended_long held carry part h)) (omega arith, refl) plain_none)
  where
    by : (newline : Bool) → eqb c 10 ≡ newline → (few : Bool)
        → (eqb c 10 ≡ false → Says carry line ((part ++ (c ∷ [])) ++ cs) (turned held carry (part ++ (c ∷ [])) room cs))
        → Says (carry_ended held carry part) [] cs
        (turned (Held.Characters 0) (carry_ended held carry part) [] (room - length (spelled (ended held carry part))) cs)
        → Says carry line (part ++ (c ∷ cs))
        (cond newline
        (cond few (full held carry part)
        (after (length part + 1) (spelled (ended held carry part))
        (turned (Held.Characters 0) (carry_ended held carry part) [] (room - length (spelled (ended held carry part))) cs)))
        (turned held carry (part ++ (c ∷ [])) room cs))
    by true e true goes next = says_full held carry part line (part ++ (c ∷ cs)) h s
    by true e false goes next =
        subst
        (λ (k : ℕ).
        Says carry line (part ++ (k ∷ cs))
        (after (length part + 1) (spelled (ended held carry part))
        (turned (Held.Characters 0) (carry_ended held carry part) [] (room - length (spelled (ended held carry part))) cs)))
        (sym (eqb-true c 10 e))
        (says_after held carry part line cs _ h s p next)
    by false e few goes next =
        subst (λ (y : List ℕ). Says carry line y (turned held carry (part ++ (c ∷ [])) room cs)) (append_assoc part (c ∷ []) cs) (goes e)

-- ---- the stream

-- what was said is what the lines that are ended say, and what is held is the line that is not
record Along (held : Held) (carry stream answers : List ℕ) : Type 0 where
  room : 5464 ≤ length carry
  words : answers ≡ said (done [] stream)
  holds : Stands held carry (rest [] stream)

done_append : (line a b : List ℕ) → done line (a ++ b) ≡ done line a ++ done (rest line a) b
unfolding done rest
done_append line [] b = refl
done_append line (c ∷ a) b = by (eqb c 10) (done_append [] a b) (done_append (line ++ (c ∷ [])) a b)
  where
    by : (t : Bool) → done [] (a ++ b) ≡ done [] a ++ done (rest [] a) b
        → done (line ++ (c ∷ [])) (a ++ b) ≡ done (line ++ (c ∷ [])) a ++ done (rest (line ++ (c ∷ [])) a) b
        → cond t (line ∷ done [] (a ++ b)) (done (line ++ (c ∷ [])) (a ++ b))
        ≡ cond t (line ∷ done [] a) (done (line ++ (c ∷ [])) a) ++ done (cond t (rest [] a) (rest (line ++ (c ∷ [])) a)) b
    by true ends goes = ap (λ (ls : List (List ℕ)). line ∷ ls) ends
    by false ends goes = goes

rest_append : (line a b : List ℕ) → rest line (a ++ b) ≡ rest (rest line a) b
unfolding rest
rest_append line [] b = refl
rest_append line (c ∷ a) b = by (eqb c 10) (rest_append [] a b) (rest_append (line ++ (c ∷ [])) a b)
  where
    by : (t : Bool) → rest [] (a ++ b) ≡ rest (rest [] a) b → rest (line ++ (c ∷ [])) (a ++ b) ≡ rest (rest (line ++ (c ∷ [])) a) b
        → cond t (rest [] (a ++ b)) (rest (line ++ (c ∷ [])) (a ++ b)) ≡ rest (cond t (rest [] a) (rest (line ++ (c ∷ [])) a)) b
    by true ends goes = ends
    by false ends goes = goes

-- a turn keeps that
along_turn : {held : Held} {carry stream answers : List ℕ} → Along held carry stream answers → (input : List ℕ) (room : ℕ)
    → Along (turned held carry [] room input).held (turned held carry [] room input).carry
    (stream ++ take (turned held carry [] room input).taken input) (answers ++ (turned held carry [] room input).said)
along_turn {held} {carry} {stream} so input room =
    let t : Turned = turned held carry [] room input in
    let now = says held carry [] (rest [] stream) room input so.room so.holds plain_none in
    let y : List ℕ = take t.taken input in
    record {
      room = omega (arith, now.long, so.room);
      words = ap₂ (λ (a b : List ℕ). a ++ b) so.words now.words ∙ sym (said_append (done [] stream) (done (rest [] stream) y)) ∙ ap said (sym (done_append [] stream y));
      holds = subst (λ (x : List ℕ). Stands t.held t.carry x) (sym (rest_append [] stream y)) now.holds;
    }

-- the same, said in another way
along_as : {h h' : Held} {c c' s s' a a' : List ℕ} → h ≡ h' → c ≡ c' → s ≡ s' → a ≡ a' → Along h c s a → Along h' c' s' a'
along_as {h} {h'} {c} {c'} {s} {s'} {a} {a'} p q r w x =
    subst (λ (y : Held). Along y c' s' a') p
    (subst (λ (y : List ℕ). Along h y s' a') q (subst (λ (y : List ℕ). Along h c y a') r (subst (λ (y : List ℕ). Along h c s y) w x)))

-- what a turn answers is how it went
along : {held : Held} {carry stream answers : List ℕ} → Handed held carry stream answers → Along held carry stream answers
unfolding done rest said
along (stream.start carry h) = record { room = h; words = refl; holds = (omega arith, refl) }
along (stream.turn {held} {carry} {stream} {answers} {t = next} before input out e) =
    let so = along before in
    let t : Turned = turned held carry [] (length out) input in
    let is = turn_is held input carry out so.room t refl in
    let moved : ◌≡◌ {A = Result Turn Refusal} (Ok (record { held = t.held; taken = t.taken; written = length t.said })) (Ok next) = is.0 ∙ e in
    let same : record { held = t.held; taken = t.taken; written = length t.said } ≡ next = cc in
    let holds : t.held ≡ next.held = ap (λ (x : Turn). x.held) same in
    let takes : t.taken ≡ next.taken = ap (λ (x : Turn). x.taken) same in
    let writes : length t.said ≡ next.written = ap (λ (x : Turn). x.written) same in
    along_as holds is.1 (ap (λ (k : ℕ). stream ++ take k input) takes)
    (ap (λ (x : List ℕ). answers ++ x)
    (sym (take-append_seam t.said (drop (length t.said) out)) ∙ ap₂ (λ (k : ℕ) (x : List ℕ). take k x) writes is.2))
    (along_turn so input (length out))

-- at the end of the stream the line that is held is ended, if it is not empty
last_is : (held : Held) (carry line : List ℕ) → 5464 ≤ length carry → Stands held carry line → last_said held carry ≡ said (cut line [])
unfolding last_said cut said
last_is (Held.Characters zero) carry line h s = sym (ap (λ (l : List ℕ). said (cut l [])) s.1)
last_is (Held.Characters (suc n)) carry line h s =
    let long : length line ≡ suc n = ap length s.1 ∙ length-take-le (suc n) carry (omega (arith, s.0)) in
    ap spelled (stands_ended (Held.Characters (suc n)) carry [] line h s ∙ ap line_answer (append-nil line))
    ∙ sym (append-nil (spelled (line_answer line)))
    ∙ ap (λ (b : Bool). said (cond b [] (line ∷ []))) (sym (ne_eqb (length line) 0 (λ z. omega (arith, long, z))))
last_is Held.TooLong carry line h s =
    ap spelled (sym (too_long line s))
    ∙ sym (append-nil (spelled (line_answer line)))
    ∙ ap (λ (b : Bool). said (cond b [] (line ∷ []))) (sym (ne_eqb (length line) 0 (λ z. omega (arith, s, z))))

-- where the last line answers a count, it stands at the front of the output
last_front : (held : Held) (carry out : List ℕ) (n : ℕ) → last_answer held carry out ≡ Ok n → take n (last_out held carry out) ≡ last_said held carry
unfolding last_answer last_out
last_front held carry out n e = by (last_row held carry out) e
  where
    by : (row : ℕ) → answer row (length (last_said held carry)) ≡ Ok n → take n (memory row (last_said held carry) out) ≡ last_said held carry
    by zero q =
        let same : length (last_said held carry) ≡ n = cc in
        ap (λ (k : ℕ). take k (last_said held carry ++ drop (length (last_said held carry)) out)) (sym same)
        ∙ take-append_seam (last_said held carry) (drop (length (last_said held carry)) out)
    by (suc row) q = let z : ◌≡◌ {A = ℕ} 0 1 = cc in absurd (omega arith)

-- however it was cut: the answers of the turns and then of the last line are the tally's
pub however_cut : {held : Held} {carry stream answers : List ℕ} {n : ℕ} → Handed held carry stream answers → (out : List ℕ)
    → last_answer held carry out ≡ Ok n → answers ++ take n (last_out held carry out) ≡ tally stream
unfolding tally
however_cut {held} {carry} {stream} {answers} {n} handed out e =
    let so = along handed in
    ap₂ (λ (a b : List ℕ). a ++ b) so.words
    (last_front held carry out n e ∙ last_is held carry (rest [] stream) so.room so.holds)
    ∙ sym (said_append (done [] stream) (cut (rest [] stream) []))
    ∙ ap said (sym (cut_append [] stream []) ∙ ap (cut []) (append-nil stream))

-- ---- nothing on the way is refused

-- a turn never is, over any input and any output
pub turns_on : {held : Held} {carry stream answers : List ℕ} → Handed held carry stream answers → (input out : List ℕ)
    → (next : Turn) × (turn_answer held input carry out ≡ Ok next)
turns_on {held} {carry} handed input out =
    let t : Turned = turned held carry [] (length out) input in
    (record { held = t.held; taken = t.taken; written = length t.said }, sym (turn_is held input carry out (along handed).room t refl).0)

-- nor the last line, with room for the longest answer
last_short : (held : Held) (carry : List ℕ) → length (last_said held carry) ≤ 23
unfolding last_said
last_short (Held.Characters zero) carry = omega arith
last_short (Held.Characters (suc n)) carry = short (ended (Held.Characters (suc n)) carry [])
last_short Held.TooLong carry = short (Line.Refused TextLen)

pub last_counts : {held : Held} {carry stream answers : List ℕ} → Handed held carry stream answers → (out : List ℕ) → 23 ≤ length out
    → (n : ℕ) × (last_answer held carry out ≡ Ok n)
unfolding last_answer last_row
last_counts {held} {carry} handed out h = (
  length (last_said held carry),
  ap₂ (λ (a b : Bool). answer (cond (a || b) 11 0) (length (last_said held carry))) (le-ltb (length carry) 5464 (along handed).room)
      (le-ltb (length out) (length (last_said held carry)) (omega (arith, last_short held carry))),
)
