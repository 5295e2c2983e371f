-- The way back from a field sheet to its section; and, passed on, the sheet of a section and whether bytes have it.
-- Assumes nothing.
unfoldable pub use Rattle.sheet_reading.specs.SheetOf.{section_trace, sheet_of, to_sheet, to_sheet_into}
unfoldable pub use Rattle.sheet_matching.specs.Matching.{same, is_sheet_of}
use Rattle.std.specs.Prelude.{◌≡◌, ℕ, ◌+◌, ◌-◌, ◌*◌, ◌/◌, Bool, cond, not, ◌&&◌, List, [], ◌∷◌, length, take, drop, replicate, leb, ltb, eqb, Result}
use Rattle.bits.specs.Bits.{written_of, write_all}
use Rattle.crc.specs.Crc.{crc32}
use Rattle.units.specs.declared.refusals.Refusal.{Refusal}
use Rattle.units.specs.Refusals.{first}
use Rattle.units.specs.Answers.{answer, memory}
use Rattle.fields.specs.Fields.{Plan}
use Rattle.layout.specs.Layout.{plan_of}

-- how much memory is cleared for n numbers: little where that is enough
abbrev pub room_for : ℕ → ℕ → ℕ → ℕ
room_for n few many = cond (leb n few) few many

-- the fields that a section with the sheet x would have
unfoldable pub plan_for : List ℕ → Plan
plan_for x = plan_of [] x (replicate (room_for (length x) 256 32768) 0)

-- how many bytes it would have, those of CRC_32 among them
unfoldable pub length_for : List ℕ → ℕ
length_for x = (plan_for x).at / 8 + 4

-- a number for each of those fields, at least the header's and at most one a bit, and no more than 4,092 bytes before CRC_32
unfoldable pub fitting : List ℕ → Bool
fitting x = leb 11 (length x) && (leb (length x) 32768 && (leb (plan_for x).at 32736 && eqb (plan_for x).number (length x)))

-- fields of these widths with these values
abbrev pub pairs : List ℕ → List ℕ → List (ℕ × ℕ)
pairs [] vs = []
pairs (w ∷ ws) [] = []
pairs (w ∷ ws) (v ∷ vs) = (w, v) ∷ pairs ws vs

-- the fields m to n of a plan with their values
abbrev pub fields_between : ℕ → ℕ → List ℕ → List ℕ → List (ℕ × ℕ)
fields_between m n ws xs = pairs (take (n - m) (drop m ws)) (take (n - m) (drop m xs))

-- memory with the numbers of x in a section of n bytes: section_length stands after the fourth, at bit 12, and takes 12 bits
unfoldable pub filled : List ℕ → ℕ → List ℕ → List ℕ → List ℕ
filled x n ws m =
    write_all (written_of (write_all m 0 (fields_between 0 4 ws x)) 12 12 (n - 3)) 24 (fields_between 4 (length x) ws x)

-- the same with CRC_32 in its last four bytes
unfoldable pub summed : ℕ → List ℕ → List ℕ
summed n m = written_of m (8 * (n - 4)) 32 (crc32 (take (n - 4) m))

-- the bytes that the numbers of a sheet make
unfoldable pub section_of : List ℕ → List ℕ
section_of x = cond (fitting x) (take (length_for x) (summed (length_for x) (filled x (length_for x) (plan_for x).widths (replicate (room_for (length_for x) 256 4096) 0)))) []

-- SHEET, where the bytes s are not the section of the sheet x; then ROOM
abbrev pub row_for : List ℕ → List ℕ → ℕ → ℕ
row_for x s room = first ((not (is_sheet_of x s), 15) ∷ (ltb room (length s), 11) ∷ [])

-- of the bytes that x makes. That the row is SHEET exactly when x is the sheet of no section is proved
unfoldable pub section_row : List ℕ → ℕ → ℕ
section_row x room = row_for x (section_of x) room

-- what the way from a sheet to its section answers
unfoldable pub to_section : List ℕ → List ℕ → Result ℕ Refusal
to_section x out = answer (section_row x (length out)) (length (section_of x))

-- what the lent memory then holds
unfoldable pub to_section_into : List ℕ → List ℕ → List ℕ
to_section_into x out = memory (section_row x (length out)) (section_of x) out

-- ---- for a private function

-- the answer r and the memory m that the bytes s get as what the sheet x makes
pub record Judged (x s out : List ℕ) (r : Result ℕ Refusal) (m : List ℕ) : Type 0 where
  pub answers : r ≡ answer (row_for x s (length out)) (length s)
  pub holds : m ≡ memory (row_for x s (length out)) s out
