-- What acceptance came upon: where the loop of an accepted section stands, or that the section is sealed.
-- Assumes nothing.
use Rattle.std.specs.Prelude.{ℕ, ◌+◌, ◌*◌, ◌/◌, Bool, cond, List, eqb, take, Option, Some, None, Result, Ok, Err}
use Rattle.units.specs.declared.refusals.Refusal.{Refusal}
use Rattle.units.specs.Refusals.{first}
use Rattle.bits.specs.Bits.{bit, num}
use Rattle.grammar.specs.Meaning.{Outcome, breach, ends}
use Rattle.commands.specs.Command.{command_end}
use Rattle.descriptors.specs.declared.Cursor.{Cursor}
use Rattle.section.specs.Accept.{the, accept_rows, verdict, accept_of}

-- the cursor with nothing to walk over
abbrev pub nowhere : Cursor
nowhere = record { at = 0; end = 0 }

-- the loop whose descriptor_loop_length stands from byte n on: after these two bytes as many as they say
abbrev pub loop_at : List ℕ → ℕ → Cursor
loop_at s n = record { at = n + 2; end = n + 2 + num (bit s) (8 * n) 16 }

-- the loop after a command that ends as the outcome says
unfoldable pub loop_from : List ℕ → Outcome → Cursor
loop_from s (breach n) = nowhere
loop_from s (ends k) = loop_at s (k / 8)

-- the judgement for a verdict: an accepted section is sealed, or open at that cursor
abbrev pub judgement : Result (Unit {0}) Refusal → Bool → Cursor → Result (Option Cursor) Refusal
judgement (Ok u) sealed c = Ok (cond sealed None (Some c))
judgement (Err r) sealed c = Err r

-- what the section is judged to be
unfoldable pub judge_of : List ℕ → Result (Option Cursor) Refusal
judge_of s = judgement (accept_of s) (eqb (the s "encrypted_packet") 1) (loop_from s (command_end s))

-- ---- for private functions

-- the first of rows 1 to 7 that applies, 0 where none does
unfoldable pub header_row : List ℕ → ℕ
header_row s = first (take 7 (accept_rows s))

-- the verdict by these rows alone
unfoldable pub header_of : List ℕ → Result (Unit {0}) Refusal
header_of s = verdict (header_row s)
