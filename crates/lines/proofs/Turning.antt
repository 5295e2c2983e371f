-- A turn followed line by line: where its next line ends, what it then says, and what is left of it.
-- Assumes nothing.
use mathlib.Core.Path.{◌≡◌, refl, sym, ap, ap₂, ◌∙◌, subst}
use mathlib.Core.Bool.{Bool, true, false, not, cond, ◌||◌}
use mathlib.Core.Logic.{⊎_elim}
use mathlib.Core.List.{List, [], ◌∷◌, ◌++◌, append_assoc, append-nil}
use Prim.Native.Nat.{ℕ, zero, suc, ◌+◌, ◌-◌, ◌*◌, ◌/◌, ◌≤◌, ◌<◌}
use native.Mathlib.Nat.{zero-add, add-zero, add_assoc, sub-zero}
use native.Mathlib.Omega.{arith}
use lib.ListN.{length, get_or, take, drop, length-append, length-drop, take-append-drop}
use lib.Seq.{length-take-le, take_all, drop-cons, drop-length, drop-drop, take_at, drop_at}
use lib.Dec.{eqb, ltb}
use borrow.Author.Tests.{lt-ltb, le-ltb, eq-eqb, ne_eqb, eqb-true, eqb-false, ltb-false}
use borrow.Rule.Slice.PartMut.{put_mid}
use Rattle.std.specs.Prelude.{Some, None, Ok, Err, unwrap_or}
use Rattle.std.specs.List.{position, position_or_len}
use Rattle.std.specs.Simd.{first_chunks}
use Rattle.bits.proofs.Cases.{le_or_lt}
use Rattle.spelling.specs.declared.Line.{Line}
use Rattle.units.specs.declared.refusals.Refusal.TheVariants.{Room}
use Rattle.units.specs.Answers.{memory}
use Rattle.spelling.specs.Spelling.{spelled}
use Rattle.lines.specs.declared.answers.Held.{Held}
use Rattle.lines.specs.Turns.{held_with, carry_with, ended, carry_ended, Turned, kept, full, after, turned, line_length, turn_row, moved, unless, turn_answer, turn_carry, turn_out}

-- ---- the rest of a slice

pub tail_is : (k : ℕ) (x : List ℕ) → take (length x - k) (drop k x) ≡ drop k x
tail_is k x = take_all (length x - k) (drop k x) (omega (arith, length-drop k x))

pub put_tail : (k : ℕ) (x y : List ℕ) → put_mid k (length x - k) x y ≡ take k x ++ y
put_tail k x y =
    let none : drop (length x - k) (drop k x) ≡ [] = ap (λ (n : ℕ). drop n (drop k x)) (sym (length-drop k x)) ∙ drop-length (drop k x) in
    ap (λ (r : List ℕ). take k x ++ (y ++ r)) none ∙ ap (λ (r : List ℕ). take k x ++ r) (append-nil y)

-- ---- the next line

-- the turn at the end of a line, which is followed by the rest of the input
unfoldable pub line_turn : Held → List ℕ → ℕ → List ℕ → List ℕ → Turned
line_turn held carry room line rest =
    cond (ltb room (length (spelled (ended held carry line)))) (full held carry line)
    (after (length line + 1) (spelled (ended held carry line))
    (turned (Held.Characters 0) (carry_ended held carry line) [] (room - length (spelled (ended held carry line))) rest))

module _ (held : Held) (carry : List ℕ) (room : ℕ) where
  no_newline : (x part : List ℕ) → line_length x ≡ length x → turned held carry part room x ≡ kept held carry (part ++ x)
  unfolding turned line_length
  no_newline [] part e = ap (kept held carry) (sym (append-nil part))
  no_newline (c ∷ cs) part e = by (eqb c 10) refl (λ h. no_newline cs (part ++ (c ∷ [])) h)
    where
      by : (b : Bool) → eqb c 10 ≡ b → (line_length cs ≡ length cs → turned held carry (part ++ (c ∷ [])) room cs ≡ kept held carry ((part ++ (c ∷ [])) ++ cs))
          → turned held carry part room (c ∷ cs) ≡ kept held carry (part ++ (c ∷ cs))
      by true q next =
          let z : cond true 0 (suc (line_length cs)) ≡ suc (length cs) = ap (λ (t : Bool). cond t 0 (suc (line_length cs))) (sym q) ∙ e in
          absurd (omega (arith, z))
      by false q next =
          let z : cond false 0 (suc (line_length cs)) ≡ suc (length cs) = ap (λ (t : Bool). cond t 0 (suc (line_length cs))) (sym q) ∙ e in
          rw q (next (omega (arith, z)) ∙ ap (kept held carry) (append_assoc part (c ∷ []) cs))

  newline : (x part : List ℕ) → line_length x < length x
      → turned held carry part room x ≡ line_turn held carry room (part ++ take (line_length x) x) (drop (suc (line_length x)) x)
  unfolding turned line_length line_turn
  newline [] part h = absurd (omega arith)
  newline (c ∷ cs) part h = by (eqb c 10) refl (λ l. newline cs (part ++ (c ∷ [])) l)
    where
      by : (b : Bool) → eqb c 10 ≡ b
          → (line_length cs < length cs → turned held carry (part ++ (c ∷ [])) room cs ≡ line_turn held carry room ((part ++ (c ∷ [])) ++ take (line_length cs) cs) (drop (suc (line_length cs)) cs))
          → turned held carry part room (c ∷ cs) ≡ line_turn held carry room (part ++ take (line_length (c ∷ cs)) (c ∷ cs)) (drop (suc (line_length (c ∷ cs))) (c ∷ cs))
      by true q next = rw q (ap (λ (line : List ℕ). line_turn held carry room line cs) (sym (append-nil part)))
      by false q next =
          let z : cond false 0 (suc (line_length cs)) < suc (length cs) = subst (λ (t : Bool). cond t 0 (suc (line_length cs)) < suc (length cs)) q h in
          rw q (next (omega (arith, z)) ∙ ap (λ (line : List ℕ). line_turn held carry room line (drop (suc (line_length cs)) cs)) (append_assoc part (c ∷ []) (take (line_length cs) cs)))

-- a line ends inside the input or with it
pub line_inside : (x : List ℕ) → line_length x ≤ length x
unfolding line_length
line_inside [] = omega arith
line_inside (c ∷ cs) = by (eqb c 10) (line_inside cs)
  where
    by : (b : Bool) → line_length cs ≤ length cs → cond b 0 (suc (line_length cs)) ≤ suc (length cs)
    by true h = omega arith
    by false h = omega arith

module _ (x : List ℕ) (at : ℕ) where
  pub ends_here : at < length x → get_or x at 0 ≡ 10 → line_length (drop at x) ≡ 0
  unfolding line_length
  ends_here h e =
      ap line_length (drop-cons x at 0 h) ∙ ap (λ (b : Bool). cond b 0 (suc (line_length (drop (suc at) x)))) (eq-eqb (get_or x at 0) 10 e)

  pub goes_on : at < length x → (get_or x at 0 ≡ 10 → ⊥) → line_length (drop at x) ≡ suc (line_length (drop (suc at) x))
  unfolding line_length
  goes_on h e =
      ap line_length (drop-cons x at 0 h) ∙ ap (λ (b : Bool). cond b 0 (suc (line_length (drop (suc at) x)))) (ne_eqb (get_or x at 0) 10 e)

  pub ends_last : at ≡ length x → line_length (drop at x) ≡ 0
  unfolding line_length
  ends_last e = ap (λ (k : ℕ). line_length (drop k x)) e ∙ ap line_length (drop-length x)

-- the characters of a line up to a place, and the rest of the line from there
rest_of_line : (x : List ℕ) (k : ℕ) → k ≤ line_length x → line_length x ≡ k + line_length (drop k x)
unfolding line_length
rest_of_line x zero h = omega arith
rest_of_line [] (suc k) h = absurd (omega arith)
rest_of_line (c ∷ cs) (suc k) h = by (eqb c 10) (rest_of_line cs k) h
  where
    by : (b : Bool) → (k ≤ line_length cs → line_length cs ≡ k + line_length (drop k cs)) → suc k ≤ cond b 0 (suc (line_length cs))
        → cond b 0 (suc (line_length cs)) ≡ suc k + line_length (drop k cs)
    by true next h = absurd (omega arith)
    by false next h = omega (arith, next (omega arith))

pub goes_past : (x : List ℕ) (at k : ℕ) → k ≤ line_length (drop at x) → line_length (drop at x) ≡ k + line_length (drop (at + k) x)
goes_past x at k h = rest_of_line (drop at x) k h ∙ ap (λ (l : List ℕ). k + line_length l) (drop-drop k at x)

-- the first chunk but q of a list that is cut into such of n
chunk_is : (n k : ℕ) (x : List ℕ) (q : ℕ) → q < k → get_or (first_chunks n k x) q [] ≡ take n (drop (n * q) x)
chunk_is n zero x q h = absurd (omega arith)
chunk_is n (suc k) x zero h =
    let none : 0 ≡ n * 0 = omega arith in
    ap (λ (i : ℕ). take n (drop i x)) none
chunk_is n (suc k) x (suc q) h =
    let one_more : n + n * q ≡ n * suc q = omega arith in
    chunk_is n k (drop n x) q (omega arith) ∙ ap (take n) (drop-drop (n * q) n x ∙ ap (λ (i : ℕ). drop i x) one_more)

-- chunk q of what follows a place
pub chunk_at : (x : List ℕ) (from at q : ℕ) → at ≡ from + 32 * q → q < length (take (length x - from) (drop from x)) / 32
    → get_or (first_chunks 32 (length (take (length x - from) (drop from x)) / 32) (take (length x - from) (drop from x))) q [] ≡ take 32 (drop at x)
chunk_at x from at q e h =
    chunk_is 32 _ _ q h
    ∙ ap (λ (y : List ℕ). take 32 (drop (32 * q) y)) (tail_is from x)
    ∙ ap (take 32) (drop-drop (32 * q) from x ∙ ap (λ (i : ℕ). drop i x) (sym e))

-- a line goes on as far at least as it does where less of it stands
front_line : (k : ℕ) (x : List ℕ) → line_length (take k x) ≤ line_length x
unfolding line_length
front_line zero x = omega arith
front_line (suc k) [] = omega arith
front_line (suc k) (c ∷ cs) = by (eqb c 10) (front_line k cs)
  where
    by : (b : Bool) → line_length (take k cs) ≤ line_length cs → cond b 0 (suc (line_length (take k cs))) ≤ cond b 0 (suc (line_length cs))
    by true h = omega arith
    by false h = omega arith

-- it goes on past a chunk that has no newline
pub chunk_passed : (x chunk : List ℕ) (at : ℕ) → chunk ≡ take 32 (drop at x) → at + 32 ≤ length x → ltb (line_length chunk) (length chunk) ≡ false
    → line_length (drop at x) ≡ 32 + line_length (drop (at + 32) x)
chunk_passed x chunk at is inside none =
    let long : length chunk ≡ 32 = ap length is ∙ length-take-le 32 (drop at x) (omega (arith, length-drop at x)) in
    let goes : line_length chunk ≤ line_length (drop at x) = omega (arith, ap line_length is, front_line 32 (drop at x)) in
    goes_past x at 32 (omega (arith, ltb-false _ _ none))

-- where the first newline stands, or how many there are
newline_place : (x : List ℕ) → position_or_len (λ (c : ℕ). eqb c 10) x ≡ line_length x
unfolding line_length
newline_place [] = refl
newline_place (c ∷ cs) = by (eqb c 10) (newline_place cs)
  where
    by : (b : Bool) → position_or_len (λ (c : ℕ). eqb c 10) cs ≡ line_length cs
        → cond (not b) (1 + position_or_len (λ (c : ℕ). eqb c 10) cs) 0 ≡ cond b 0 (suc (line_length cs))
    by true e = refl
    by false e = omega arith

pub first_newline : (x : List ℕ) → unwrap_or (position (λ (c : ℕ). eqb c 10) x) (length x) ≡ line_length x
first_newline x = by (ltb (position_or_len (λ (c : ℕ). eqb c 10) x) (length x)) refl
  where
    by : (b : Bool) → ltb (position_or_len (λ (c : ℕ). eqb c 10) x) (length x) ≡ b
        → unwrap_or (cond b (Some (position_or_len (λ (c : ℕ). eqb c 10) x)) None) (length x) ≡ line_length x
    by true e = newline_place x
    by false e = omega (arith, newline_place x, line_inside x, ltb-false _ _ e)

-- one character more: the first k + 1 have a newline where the first k have one or the last of them is one
pub newline_among : (x : List ℕ) (k : ℕ) → k < length x → (ltb (line_length x) k || eqb (get_or x k 0) 10) ≡ ltb (line_length x) (k + 1)
newline_among x k h = ⊎_elim none some (le_or_lt k n)
  where
    n : ℕ
    n = line_length x

    none : k ≤ line_length x → (ltb (line_length x) k || eqb (get_or x k 0) 10) ≡ ltb (line_length x) (k + 1)
    none l = by (eqb (get_or x k 0) 10) refl
      where
        by : (b : Bool) → eqb (get_or x k 0) 10 ≡ b → (ltb (line_length x) k || b) ≡ ltb (line_length x) (k + 1)
        by true e = rw (le-ltb (line_length x) k l) (sym (lt-ltb (line_length x) (k + 1) (omega (arith, rest_of_line x k l, ends_here x k h (eqb-true (get_or x k 0) 10 e)))))
        by false e = rw (le-ltb (line_length x) k l) (sym (le-ltb (line_length x) (k + 1) (omega (arith, rest_of_line x k l, goes_on x k h (eqb-false (get_or x k 0) 10 e)))))

    some : line_length x < k → (ltb (line_length x) k || eqb (get_or x k 0) 10) ≡ ltb (line_length x) (k + 1)
    some l = rw (lt-ltb (line_length x) k l) (sym (lt-ltb (line_length x) (k + 1) (omega arith)))

pub end_inside : (x : List ℕ) (at end : ℕ) → at ≤ length x → end ≡ at + line_length (drop at x) → end ≤ length x
end_inside x at end h e = omega (arith, line_inside (drop at x), length-drop at x)

-- ---- a turn on its way

-- what was said and taken before is in front of what is said and taken then
after_none : (t : Turned) → after 0 [] t ≡ t
after_none t = ap (λ (k : ℕ). record { held = t.held; carry = t.carry; said = t.said; taken = k }) (zero-add t.taken)

after_after : (n m : ℕ) (x y : List ℕ) (t : Turned) → after n x (after m y t) ≡ after (n + m) (x ++ y) t
after_after n m x y t =
    ap₂ (λ (s : List ℕ) (k : ℕ). record { held = t.held; carry = t.carry; said = s; taken = k }) (sym (append_assoc x y t.said))
    (sym (add_assoc n m t.taken))

-- so much was taken and written, and the rest of the turn goes on from here
pub record Going (held₀ : Held) (input carry₀ out₀ : List ℕ) (held : Held) (carry out : List ℕ) (taken written : ℕ) : Type 0 where
  pub place : taken ≤ length input
  pub room : written ≤ length out₀
  pub out_long : length out ≡ length out₀
  pub carry_long : length carry ≡ length carry₀
  pub rest : drop written out ≡ drop written out₀
  pub same : turned held₀ carry₀ [] (length out₀) input
      ≡ after taken (take written out) (turned held carry [] (length out₀ - written) (drop taken input))

pub start : (held : Held) (input carry out : List ℕ) → Going held input carry out held carry out 0 0
start held input carry out =
    record {
      place = omega arith;
      room = omega arith;
      out_long = refl;
      carry_long = refl;
      rest = refl;
      same =
          sym
          (ap (λ (k : ℕ). after 0 [] (turned held carry [] k input)) (sub-zero (length out)) ∙ after_none (turned held carry [] (length out) input));
    }

-- ---- what a turn answers

module _ (held : Held) (input carry out : List ℕ) where
  by_carry : (b : Bool) → ltb (length carry) 5464 ≡ b
      → (moved (cond b 11 0) (turned held carry [] (length out) input) ≡ turn_answer held input carry out)
      × (unless (cond b 11 0) carry (turned held carry [] (length out) input).carry ≡ turn_carry held input carry out)
      × (memory (cond b 11 0) (turned held carry [] (length out) input).said out ≡ turn_out held input carry out)
  unfolding turn_answer turn_carry turn_out turn_row
  by_carry b e = (
    ap (λ (t : Bool). moved (cond t 11 0) (turned held carry [] (length out) input)) (sym e),
    ap (λ (t : Bool). unless (cond t 11 0) carry (turned held carry [] (length out) input).carry) (sym e),
    ap (λ (t : Bool). memory (cond t 11 0) (turned held carry [] (length out) input).said out) (sym e),
  )

  pub turn_refused : length carry < 5464
      → (Err Room ≡ turn_answer held input carry out) × (carry ≡ turn_carry held input carry out) × (out ≡ turn_out held input carry out)
  turn_refused h = by_carry true (lt-ltb _ _ h)

  pub turn_is : 5464 ≤ length carry → (t : Turned) → turned held carry [] (length out) input ≡ t
      → (moved 0 t ≡ turn_answer held input carry out)
      × (t.carry ≡ turn_carry held input carry out)
      × (t.said ++ drop (length t.said) out ≡ turn_out held input carry out)
  turn_is h t e =
      let long = by_carry false (le-ltb _ _ h) in (
        ap (moved 0) (sym e) ∙ long.0,
        ap (λ (x : Turned). x.carry) (sym e) ∙ long.1,
        ap (λ (x : Turned). x.said ++ drop (length x.said) out) (sym e) ∙ long.2,
      )

module _
    {held₀ : Held} {input carry₀ out₀ : List ℕ} {held : Held} {carry out : List ℕ} {taken written : ℕ}
    (g : Going held₀ input carry₀ out₀ held carry out taken written) (h : 5464 ≤ length carry₀)
  where
    front_long : length (take written out) ≡ written
    front_long = length-take-le written out (omega (arith, g.room, g.out_long))

    -- what stands in the output where the turn ends without saying more
    as_written : take written out ++ [] ++ drop (length (take written out ++ [])) out₀ ≡ out
    as_written =
        ap (λ (x : List ℕ). x ++ drop (length x) out₀) (append-nil (take written out))
        ∙ ap (λ (k : ℕ). take written out ++ drop k out₀) front_long
        ∙ ap (λ (x : List ℕ). take written out ++ x) (sym g.rest)
        ∙ take-append-drop written out

    said_long : length (take written out ++ []) ≡ written
    said_long = ap length (append-nil (take written out)) ∙ front_long

    -- the input ends in the middle of a line
    pub ends : (end : ℕ) → end ≡ taken + line_length (drop taken input) → end ≡ length input
        → (Ok (record { held = held_with held (drop taken input); taken = end; written = written }) ≡ turn_answer held₀ input carry₀ out₀)
        × (carry_with held carry (drop taken input) ≡ turn_carry held₀ input carry₀ out₀)
        × (out ≡ turn_out held₀ input carry₀ out₀)
    ends end e l =
        let x : List ℕ = drop taken input in
        let long : length x ≡ length input - taken = length-drop taken input in
        let whole : line_length x ≡ length x = omega (arith, g.place) in
        let all : taken + length x ≡ end = omega (arith, g.place) in
        let is = turn_is held₀ input carry₀ out₀ h _ (g.same ∙ ap (after taken (take written out)) (no_newline held carry (length out₀ - written) x [] whole)) in (
          ap₂ (λ (k n : ℕ). Ok (record { held = held_with held x; taken = k; written = n })) (sym all) (sym said_long) ∙ is.0,
          is.1,
          sym as_written ∙ is.2,
        )

    -- a line ends inside the input, and has this answer
    module _
        (end : ℕ) (e : end ≡ taken + line_length (drop taken input)) (more : end ≡ length input → ⊥) (answer : Line)
        (a : answer ≡ ended held carry (take (end - taken) (drop taken input)))
      where
        inside : line_length (drop taken input) < length (drop taken input)
        inside =
            let long : length (drop taken input) ≡ length input - taken = length-drop taken input in
            let least : line_length (drop taken input) ≤ length (drop taken input) = line_inside (drop taken input) in
            ⊎_elim (λ (l : length (drop taken input) ≤ line_length (drop taken input)). absurd (more (omega (arith, g.place)))) (λ l. l)
            (le_or_lt (length (drop taken input)) (line_length (drop taken input)))

        -- the rest of the turn is that of this line
        next : turned held₀ carry₀ [] (length out₀) input
            ≡ after taken (take written out)
            (line_turn held carry (length out₀ - written) (take (end - taken) (drop taken input)) (drop (end + 1) input))
        next =
            let x : List ℕ = drop taken input in
            let count : line_length x ≡ end - taken = omega arith in
            let past : drop (suc (line_length x)) x ≡ drop (end + 1) input =
            drop-drop (suc (line_length x)) taken input ∙ ap (λ (k : ℕ). drop k input) (let s : taken + suc (line_length x) ≡ end + 1 = omega arith in s) in
            g.same
            ∙ ap (after taken (take written out))
            (newline held carry (length out₀ - written) x [] inside
            ∙ ap₂ (λ (k : ℕ) (y : List ℕ). line_turn held carry (length out₀ - written) (take k x) y) count past)

        left : length (drop written out) ≡ length out₀ - written
        left = length-drop written out ∙ ap (λ (k : ℕ). k - written) g.out_long

        -- by whether it has room
        chosen : (b : Bool) → ltb (length (drop written out)) (length (spelled answer)) ≡ b
            → line_turn held carry (length out₀ - written) (take (end - taken) (drop taken input)) (drop (end + 1) input)
            ≡ cond b (full held carry (take (end - taken) (drop taken input)))
            (after (length (take (end - taken) (drop taken input)) + 1) (spelled answer)
            (turned (Held.Characters 0) (carry_ended held carry (take (end - taken) (drop taken input))) [] (length out₀ - written - length (spelled answer))
            (drop (end + 1) input)))
        unfolding line_turn
        chosen b q = rw (← a, ← left, q)

        -- its answer has no room
        pub stops : length (drop written out) < length (spelled answer)
            → (Ok (record { held = held; taken = taken; written = written }) ≡ turn_answer held₀ input carry₀ out₀)
            × (carry_ended held carry (take (end - taken) (drop taken input)) ≡ turn_carry held₀ input carry₀ out₀)
            × (out ≡ turn_out held₀ input carry₀ out₀)
        stops few =
            let is = turn_is held₀ input carry₀ out₀ h _ (next ∙ ap (after taken (take written out)) (chosen true (lt-ltb _ _ few))) in (
              ap₂ (λ (k n : ℕ). Ok (record { held = held; taken = k; written = n })) (sym (add-zero taken)) (sym said_long) ∙ is.0,
              is.1,
              sym as_written ∙ is.2,
            )

        -- its answer is written behind the others
        goes_all : length (spelled answer) ≤ length (drop written out) → (carry' out' : List ℕ)
            → carry' ≡ carry_ended held carry (take (end - taken) (drop taken input)) → length carry' ≡ length carry
            → out' ≡ take written out ++ (spelled answer ++ drop (length (spelled answer)) (drop written out))
            → Going held₀ input carry₀ out₀ (Held.Characters 0) carry' out' (end + 1) (written + length (spelled answer))
        goes_all fits carry' out' ec lc eo =
            let w : List ℕ = spelled answer in
            let line : List ℕ = take (end - taken) (drop taken input) in
            let x-long : length (drop taken input) ≡ length input - taken = length-drop taken input in
            let line-long : length line ≡ end - taken = length-take-le (end - taken) (drop taken input) (omega (arith, inside)) in
            let front : length (take written out ++ w) ≡ written + length w = length-append (take written out) w ∙ ap (λ (k : ℕ). k + length w) front_long in
            let as-two : out' ≡ (take written out ++ w) ++ drop (length w) (drop written out) = eo ∙ sym (append_assoc (take written out) w (drop (length w) (drop written out))) in
            let taken-all : taken + (length line + 1) ≡ end + 1 = omega (arith, inside) in
            let room-left : length out₀ - written - length w ≡ length out₀ - (written + length w) = omega arith in
            record {
              place = omega (arith, inside, x-long, g.place);
              room = omega (arith, left, g.room);
              out_long =
                  ap length as-two
                  ∙ length-append (take written out ++ w) (drop (length w) (drop written out))
                  ∙ omega (arith, front, length-drop (length w) (drop written out), left, g.room);
              carry_long = lc ∙ g.carry_long;
              rest =
                  ap (drop (written + length w)) as-two
                  ∙ drop_at (take written out ++ w) (drop (length w) (drop written out)) (written + length w) front
                  ∙ ap (drop (length w)) g.rest
                  ∙ drop-drop (length w) written out₀;
              same =
                  next
                  ∙ ap (after taken (take written out)) (chosen false (le-ltb _ _ fits))
                  ∙ after_after taken (length line + 1) (take written out) w _
                  ∙ ap₂ (λ (k : ℕ) (s : List ℕ). after k s (turned (Held.Characters 0) (carry_ended held carry line) [] (length out₀ - written - length w) (drop (end + 1) input)))
                  taken-all
                  (sym (ap (take (written + length w)) as-two ∙ take_at (take written out ++ w) (drop (length w) (drop written out)) (written + length w) front))
                  ∙ ap₂ (λ (k : ℕ) (m : List ℕ). after (end + 1) (take (written + length w) out') (turned (Held.Characters 0) m [] k (drop (end + 1) input))) room-left (sym ec);
            }

        pub goes : (n : ℕ) → n ≡ length (spelled answer) → n ≤ length (drop written out) → (carry' out' : List ℕ)
            → carry' ≡ carry_ended held carry (take (end - taken) (drop taken input)) → length carry' ≡ length carry
            → out' ≡ take written out ++ (spelled answer ++ drop n (drop written out))
            → Going held₀ input carry₀ out₀ (Held.Characters 0) carry' out' (end + 1) (written + n)
        goes n all fits carry' out' ec lc eo =
            subst (λ (k : ℕ). Going held₀ input carry₀ out₀ (Held.Characters 0) carry' out' (end + 1) (written + k)) (sym all)
            (goes_all (omega arith) carry' out' ec lc (eo ∙ ap (λ (k : ℕ). take written out ++ (spelled answer ++ drop k (drop written out))) all))
