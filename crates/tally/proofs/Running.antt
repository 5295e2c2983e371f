-- However the input comes, read by read, what the loop's functions promise of each is together what the tally says of the whole input.
-- Assumes nothing.
use mathlib.Core.Path.{◌≡◌, refl, sym, ap, ◌∙◌, subst}
use mathlib.Core.List.{List, ◌++◌, append_assoc, append-nil}
use Prim.Native.Nat.{ℕ}
use lib.ListN.{take, drop}
use lib.Seq.{take-add, take-length}
use Rattle.std.specs.Prelude.{Ok}
use Rattle.lines.specs.declared.answers.Held.{Held}
use Rattle.lines.specs.Stream.{tally, Handed}
use Rattle.lines.specs.Stream as stream
use Rattle.lines.specs.Turns.{turn_out, last_answer, last_out}
use Rattle.lines.proofs.Streams.{however_cut}
use Rattle.tally.specs.Loop.{Taken, Ran}
use Rattle.tally.specs.Loop as loop

-- the same, said in another way
handed_as : {held : Held} {carry s s' a a' : List ℕ} → s ≡ s' → a ≡ a' → Handed held carry s a → Handed held carry s' a'
handed_as {held} {carry} {s} {s'} {a} {a'} p q h = subst (λ (x : List ℕ). Handed held carry x a') p (subst (λ (x : List ℕ). Handed held carry s x) q h)

-- a stream, and behind it what was taken of an input
with_taken : {held : Held} {carry input : List ℕ} {held' : Held} {carry' s answers more : List ℕ} {at : ℕ} → Handed held carry s answers
    → Taken held carry input at held' carry' more
    → Handed held' carry' (s ++ take at input) (answers ++ more)
with_taken {s = s} {answers} h loop.none = handed_as (sym (append-nil s)) (sym (append-nil answers)) h
with_taken {input = input} {s = s} {answers} h (loop.turn {at} {held₁} {carry₁} {answers = said} before out t e) =
    handed_as (append_assoc s (take at input) (take t.taken (drop at input)) ∙ ap (λ (x : List ℕ). s ++ x) (sym (take-add at t.taken input)))
    (append_assoc answers said (take t.written (turn_out held₁ (drop at input) carry₁ out)))
    (stream.turn (with_taken h before) (drop at input) out e)

all_read : {held : Held} {carry s answers : List ℕ} → Ran held carry s answers → Handed held carry s answers
all_read (loop.start carry h) = stream.start carry h
all_read (loop.read {stream = s} before input t) = handed_as (ap (λ (x : List ℕ). s ++ x) (take-length input)) refl (with_taken (all_read before) t)

-- a whole run: the answers of all reads, and then the last line's
pub whole_run : {held : Held} {carry s answers : List ℕ} {n : ℕ} → Ran held carry s answers → (out : List ℕ) → last_answer held carry out ≡ Ok n
    → answers ++ take n (last_out held carry out) ≡ tally s
whole_run ran out e = however_cut (all_read ran) out e
