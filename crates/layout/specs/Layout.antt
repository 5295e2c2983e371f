-- Which fields a section has, one after another: its header, the tables up to the loop, and bytes for what is left.
-- Nothing is refused here: where the numbers break a table, the fields go on as if they did not, and who asks has to refuse.
-- Assumes nothing.
use Rattle.std.specs.Prelude.{ℕ, ◌-◌, ◌/◌, cond, List, [], ◌∷◌, length, leb, eqb}
use Rattle.grammar.specs.Syntax.{Prog, field, done, fields, under}
use Rattle.grammar.specs.Tables.{sized_command, descriptor_loop}
use Rattle.fields.specs.Fields.{Plan, source, laid, times_on, walk}

-- Table 5 up to splice_command_length, but for section_length: 11 fields in 92 bits
abbrev pub header_widths : List ℕ
header_widths = 8 ∷ 1 ∷ 1 ∷ 2 ∷ 8 ∷ 1 ∷ 6 ∷ 33 ∷ 8 ∷ 12 ∷ 12 ∷ []

-- section_length has 12 bits, which are counted first
unfoldable pub begun : List ℕ → Plan
begun m = laid header_widths (record { at = 12; number = 0; widths = m })

-- Table 5 from splice_command_type up to the end of the loop
unfoldable pub opening : Prog
opening = fields (field 8 "splice_command_type" ∷ []) (under 8 sized_command (under 9 descriptor_loop done))

-- how many bytes are left for stuffing, or for what is sealed: all numbers of the sheet, or all bytes before CRC_32
unfoldable pub left : List ℕ → List ℕ → Plan → ℕ
left s x π = cond (eqb (length x) 0) (length s - 4 - π.at / 8) (length x - π.number)

-- and a field for each of them
unfoldable pub rest : List ℕ → List ℕ → Plan → Plan
rest s x π = times_on (left s x π) (laid (8 ∷ [])) π

-- all fields of the section s, or of the section of the sheet x; memory longer than any section needs is not used
unfoldable pub plan_of : List ℕ → List ℕ → List ℕ → Plan
plan_of s x m =
    let v = source s x in
    cond (leb (length m) 32768)
    (rest s x (cond (eqb (v 32 5 1) 1) (begun m) (walk opening (("splice_command_length", v 92 10 12) ∷ []) v 0 (begun m))))
    (record { at = 0; number = 0; widths = m })
