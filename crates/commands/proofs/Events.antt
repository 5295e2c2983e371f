-- An event of Tables 9 and 10: its id and its cancel bit, after which a cancelled one ends.
-- Assumes nothing.
use mathlib.Core.Path.{◌≡◌}
use mathlib.Core.List.{List, [], ◌∷◌}
use Prim.Native.Nat.{ℕ, ◌+◌, ◌*◌, ◌≤◌, ◌<◌}
use native.Mathlib.Omega.{arith}
use lib.ListN.{get_or}
use Rattle.bits.specs.Bits.{bit}
use Rattle.grammar.specs.Syntax.{Item, Prog, field, reserved, is, done, fields, branch}
use Rattle.grammar.specs.Meaning.{Env, bind, Outcome, ends}
use Rattle.grammar.proofs.Run.{Runs, pass, yes_last, no_last, finished, at_place}
use Rattle.grammar.proofs.Places.{flag_test}

-- the rows that an event starts with
abbrev pub head : List Item
head = field 32 "splice_event_id" ∷ field 1 "splice_event_cancel_indicator" ∷ reserved 7 ∷ []

-- an event with this body
abbrev pub event : Prog → Prog
event body = fields head (branch (is "splice_event_cancel_indicator" 0) body done done)

module _ (s : List ℕ) (at end : ℕ) (env : Env) (there : at + 5 ≤ end) where
  pub cancelled : (body : Prog) → 128 ≤ get_or s (at + 4) 0 → get_or s (at + 4) 0 < 256 → Runs (event body) env (bit s) (8 * end) (8 * at) (ends (8 * (at + 5)))
  cancelled body h l =
      pass (omega arith)
      (no_last (flag_test s (at + 4) 0 (8 * at + 32) 1 0 (omega arith) (omega arith) (omega arith)) (finished (omega arith)))

  pub going_on : {body : Prog} {o : Outcome} → get_or s (at + 4) 0 < 128
      → Runs body (bind head (bit s) (8 * at) env) (bit s) (8 * end) (8 * (at + 5)) o → Runs (event body) env (bit s) (8 * end) (8 * at) o
  going_on h r =
      let place : 8 * at + 40 ≡ 8 * (at + 5) = omega arith in
      pass (omega arith)
      (yes_last (flag_test s (at + 4) 0 (8 * at + 32) 0 0 (omega arith) (omega arith) (omega arith)) (at_place place r))
