-- A turn's numbers with too little room for them, and what lent memory then holds.
-- Assumes nothing.
use mathlib.Core.Path.{◌≡◌, sym, ap}
use mathlib.Core.Bool.{Bool, cond}
use mathlib.Core.List.{List, [], ◌∷◌}
use Prim.Native.Nat.{ℕ, zero, suc, ◌<◌}
use lib.ListN.{length}
use borrow.Author.Tests.{lt-ltb}
use Rattle.units.specs.declared.refusals.Refusal.TheVariants.{Room}
use Rattle.std.specs.Prelude.{Err}
use Rattle.wire.specs.Given.{given, given_into}
use Rattle.wire.proofs.Given.{no_room, not_given}
use Rattle.lines.specs.declared.answers.Held.{Held}
use Rattle.lines.specs.Turns.{Turned, turned, moved, turn_row, turn_answer}
use Rattle.exports_house.specs.Turns.{held_number, turn_numbers, with_room}

by_row : (row : ℕ) (t : Turned) (turn : List ℕ) → length turn < 3
    → (Err Room ≡ given (turn_numbers (moved row t)) turn) × (turn ≡ given_into (turn_numbers (moved row t)) turn)
by_row zero t turn h = no_room (held_number t.held ∷ t.taken ∷ length t.said ∷ []) turn h
by_row (suc row) t turn h = not_given turn Room

pub short : (held : Held) (input carry out turn : List ℕ) → length turn < 3
    → (Err Room ≡ given (turn_numbers (turn_answer held input carry out)) turn) × (turn ≡ given_into (turn_numbers (turn_answer held input carry out)) turn)
unfolding turn_answer
short held input carry out turn h = by_row (turn_row carry) (turned held carry [] (length out) input) turn h

pub stays : (turn lent new : List ℕ) → length turn < 3 → lent ≡ with_room turn lent new
stays turn lent new h = ap (λ (b : Bool). cond b lent new) (sym (lt-ltb _ _ h))
