-- The list of command types is that of the commands' tables: a type of the list has one of them, and no other type has.
-- Assumes nothing.
use mathlib.Core.Path.{◌≡◌, refl, ap, ◌∙◌}
use mathlib.Core.Bool.{Bool, true, false, cond, ◌||◌, false≢true, true≢false}
use mathlib.Core.List.{List, [], ◌∷◌, append-nil}
use Prim.Native.Nat.{ℕ}
use lib.Dec.{eqb}
use Rattle.grammar.specs.Syntax.{Prog, done}
use Rattle.grammar.specs.Meaning.{Env, value_of, is_among, Reading, broken, reached, after, then, read}
use Rattle.grammar.specs.Tables.{splice_time, splice_schedule, splice_insert, command_types, command}

-- ---- branches one in another

-- the reading of the first test that holds, or else the last one
abbrev taken : List (Bool × Reading) → Reading → Reading
taken [] last = last
taken (x ∷ xs) last = then (cond x.0 x.1 (taken xs last)) (λ j. reached j [])

-- one of the tests holds
abbrev some : List (Bool × Reading) → Bool
some [] = false
some (x ∷ xs) = x.0 || some xs

then_done : (r : Reading) → then r (λ j. reached j []) ≡ r
unfolding then after
then_done (broken n) = refl
then_done (reached k t) = ap (reached k) (append-nil t)

none_taken : (xs : List (Bool × Reading)) (last : Reading) → some xs ≡ false → taken xs last ≡ last
none_taken [] last h = refl
none_taken ((true, r) ∷ xs) last h = absurd (true≢false h)
none_taken ((false, r) ∷ xs) last h = then_done (taken xs last) ∙ none_taken xs last h

one_taken : (xs : List (Bool × Reading)) (last last' : Reading) → some xs ≡ true → taken xs last ≡ taken xs last'
one_taken [] last last' h = absurd (false≢true h)
one_taken ((true, r) ∷ xs) last last' h = refl
one_taken ((false, r) ∷ xs) last last' h = ap (λ (s : Reading). then s (λ j. reached j [])) (one_taken xs last last' h)

-- ---- the commands' tables

module _ (private_one : Prog) (env : Env) (f : ℕ → ℕ) (end k : ℕ) where
  -- a table, where the type is this
  way : ℕ → Prog → Bool × Reading
  way v p = (eqb (value_of env "splice_command_type") v, read p env f end k)

  ways : List (Bool × Reading)
  ways = way 0x00 done ∷ way 0x04 splice_schedule ∷ way 0x05 splice_insert ∷ way 0x06 splice_time ∷ way 0x07 done ∷ way 0xFF private_one ∷ []

  pub other_type : (otherwise : Prog) → is_among (value_of env "splice_command_type") command_types ≡ false
      → read (command private_one otherwise) env f end k ≡ read otherwise env f end k
  unfolding command read ways way
  other_type otherwise = none_taken ways (read otherwise env f end k)

  pub own_type : (otherwise otherwise' : Prog) → is_among (value_of env "splice_command_type") command_types ≡ true
      → read (command private_one otherwise) env f end k ≡ read (command private_one otherwise') env f end k
  unfolding command read ways way
  own_type otherwise otherwise' = one_taken ways (read otherwise env f end k) (read otherwise' env f end k)
