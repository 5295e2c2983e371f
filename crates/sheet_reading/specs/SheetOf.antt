-- The field sheet of a section: every field as one number, in order.
-- Assumes nothing.
use Rattle.std.specs.Prelude.{◌≡◌, ℕ, ◌-◌, ◌*◌, ◌≤◌, List, [], ◌∷◌, ◌++◌, length, take, drop, ltb, Result}
use Rattle.bits.specs.Bits.{bit, read_all}
use Rattle.units.specs.declared.refusals.Refusal.{Refusal}
use Rattle.units.specs.Refusals.{first, or_else}
use Rattle.units.specs.Answers.{answer, memory}
use Rattle.grammar.specs.Meaning.{read}
use Rattle.grammar.specs.Tables.{splice_info_section}
use Rattle.grammar.specs.Traces.{Trace, numbers, trace_of}
use Rattle.section.specs.Accept.{accept_row}

-- what the grammar reads of the section, up to CRC_32
unfoldable pub section_trace : List ℕ → Trace
section_trace s = trace_of (read splice_info_section [] (bit s) (8 * (length s - 4)) 0)

-- all numbers but the fifth, section_length
abbrev pub unsized : List ℕ → List ℕ
unsized ns = take 4 ns ++ drop 5 ns

-- the sheet of an accepted section
unfoldable pub sheet_of : List ℕ → List ℕ
sheet_of s = unsized (numbers (section_trace s))

-- rows 1 to 10, then ROOM
unfoldable pub sheet_row : List ℕ → ℕ → ℕ
sheet_row s room = or_else (accept_row s) (first ((ltb room (length (sheet_of s)), 11) ∷ []))

-- what the way from a section to its sheet answers
unfoldable pub to_sheet : List ℕ → List ℕ → Result ℕ Refusal
to_sheet s out = answer (sheet_row s (length out)) (length (sheet_of s))

-- what the lent memory then holds
unfoldable pub to_sheet_into : List ℕ → List ℕ → List ℕ
to_sheet_into s out = memory (sheet_row s (length out)) (sheet_of s) out

-- ---- for private functions

-- the accepted section s has n fields, as many as memory m has room for, and reading these widths from bit 0 and, past section_length,
-- from bit 24 on gives its sheet
pub record Laid (s m : List ℕ) (n : ℕ) (ws : List ℕ) : Type 0 where
  pub number : n ≡ length (sheet_of s)
  pub enough : 11 ≤ n
  pub inside : n ≤ length m
  pub reads : sheet_of s ≡ read_all s 0 (take 4 ws) ++ read_all s 24 (take (n - 4) (drop 4 ws))
