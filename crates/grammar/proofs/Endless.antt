-- A table that does not go by where it ends.
-- Assumes nothing.
use mathlib.Core.Path.{◌≡◌, refl}
use mathlib.Core.Bool.{Bool, true, false, ◌&&◌, false≢true}
use Prim.Native.Nat.{ℕ}
use Rattle.grammar.specs.Syntax.{Test, Prog, is, among, more, done, stop, fields, branch, call, repeat, frame, fill, under}
use Rattle.grammar.specs.Meaning.{Env, holds}

abbrev pub asks_no_end : Test → Bool
asks_no_end (is n v) = true
asks_no_end (among n vs) = true
asks_no_end more = false

-- nothing in it goes by where it ends, but in a part of its own
unfoldable pub endless : Prog → Bool
endless done = true
endless stop = true
endless (fields rows p) = endless p
endless (branch t a b p) = asks_no_end t && (endless a && (endless b && endless p))
endless (call a p) = endless a && endless p
endless (repeat n a p) = endless a && endless p
endless (frame n a p) = endless p
endless (fill a p) = false
endless (under n a p) = endless a && endless p

pub same_test : (t : Test) → asks_no_end t ≡ true → (env : Env) (end end' k k' : ℕ) → holds t env end k ≡ holds t env end' k'
same_test (is n v) h env end end' k k' = refl
same_test (among n vs) h env end end' k k' = refl
same_test more h env end end' k k' = absurd (false≢true h)
