-- The cursor of a section's first descriptor, where the walk over its descriptors starts; whether a section can be asked, and what a
-- question on it answers.
-- Assumes nothing.
use Rattle.std.specs.Prelude.{ℕ, zero, suc, cond, List, [], ◌∷◌, eqb, Result, Ok, Err}
use Rattle.commands.specs.Command.{command_end}
use Rattle.units.specs.declared.refusals.Refusal.{Refusal}
use Rattle.descriptors.specs.declared.Cursor.{Cursor}
use Rattle.units.specs.Refusals.{named, first, or_else}
use Rattle.section.specs.Accept.{the, accept_row, accept_of}
use Rattle.section.specs.Judge.{nowhere, loop_from}

-- a cursor of an accepted section, none of a refused one
unfoldable pub if_accepted : Result (Unit {0}) Refusal → Cursor → Cursor
if_accepted (Ok u) c = c
if_accepted (Err r) c = nowhere

-- the cursor of the section's first descriptor; none where the bytes are no section, or its descriptors are sealed
unfoldable pub first_cursor : List ℕ → Cursor
first_cursor s = if_accepted (accept_of s) (cond (eqb (the s "encrypted_packet") 1) nowhere (loop_from s (command_end s)))

-- ---- a question on the command or the descriptors

-- rows 1 to 10, then SEALED
unfoldable pub open_row : List ℕ → ℕ
open_row s = or_else (accept_row s) (first ((eqb (the s "encrypted_packet") 1, 17) ∷ []))

-- the answer for a row: no row, 0, opens the section at its first descriptor
unfoldable pub opened : ℕ → Cursor → Result Cursor Refusal
opened zero c = Ok c
opened (suc row) c = Err (named (suc row))

-- whether the section can be asked, or why not
unfoldable pub open_of : List ℕ → Result Cursor Refusal
open_of s = opened (open_row s) (first_cursor s)

-- the answer of an open section, with the cursor of its first descriptor, or the refusal of one that cannot be asked
unfoldable pub asked : {A : Type 0} → Result Cursor Refusal → (Refusal → A) → (Cursor → A) → A
asked (Ok c) refuse answer = answer c
asked (Err r) refuse answer = refuse r
