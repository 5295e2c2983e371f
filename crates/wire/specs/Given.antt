-- An answer's numbers in lent memory: what a function that writes them answers, and what the memory then holds.
-- Assumes nothing.
use Rattle.std.specs.Prelude.{ℕ, List, [], ◌∷◌, length, ltb, Result}
use Rattle.units.specs.declared.refusals.Refusal.{Refusal}
use Rattle.units.specs.Refusals.{first, or_else}
use Rattle.units.specs.Answers.{answer, memory}

-- an answer: the paper's number of its refusal, or 0, and its numbers
pub record Numbers : Type 0 where
  pub row : ℕ
  pub list : List ℕ

-- an answer that is refused has no numbers
abbrev pub refused : ℕ → Numbers
refused n = record { row = n; list = [] }

-- an answer that has these numbers
abbrev pub these : List ℕ → Numbers
these ns = record { row = 0; list = ns }

-- its refusal, and then ROOM
unfoldable pub given_row : Numbers → List ℕ → ℕ
given_row ns out = or_else ns.row (first ((ltb (length out) (length ns.list), 11) ∷ []))

-- what a function that writes the answer into lent memory answers
unfoldable pub given : Numbers → List ℕ → Result ℕ Refusal
given ns out = answer (given_row ns out) (length ns.list)

-- what the memory then holds
unfoldable pub given_into : Numbers → List ℕ → List ℕ
given_into ns out = memory (given_row ns out) ns.list out
