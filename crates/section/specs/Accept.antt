-- When a section is accepted, and which row of paper 01's table refuses it otherwise.
-- Assumes nothing.
use Rattle.std.specs.Prelude.{ℕ, zero, suc, ◌+◌, ◌-◌, ◌*◌, ◌≤◌, Bool, true, false, not, ◌&&◌, ◌||◌, List, [], ◌∷◌, length, ltb, eqb, Result, Ok, Err}
use Prim.Native.String.{String}
use Rattle.bits.specs.Bits.{bit}
use Rattle.crc.specs.Crc.{crc32}
use Rattle.units.specs.declared.refusals.Refusal.{Refusal}
use Rattle.units.specs.Refusals.{number_of, first, named}
use Rattle.grammar.specs.Meaning.{value_of, bind, Outcome, breach, ends, run}
use Rattle.grammar.specs.Tables.{header, splice_info_section}

-- the value of a field of the section's header
unfoldable pub the : List ℕ → String → ℕ
the s n = value_of (bind header (bit s) 0 []) n

-- what the grammar says of all that stands before CRC_32
unfoldable pub grammar_of : List ℕ → Outcome
grammar_of s = run splice_info_section [] (bit s) (8 * (length s - 4)) 0

-- the outcome is a breach of the rule n
unfoldable pub breaks : Outcome → ℕ → Bool
breaks (breach m) n = eqb m n
breaks (ends k) n = false

-- the outcome is no breach
unfoldable pub complete : Outcome → Bool
complete (breach m) = false
complete (ends k) = true

-- the rows of 01's table, in their order: a test, and the number that it gives
abbrev pub accept_rows : List ℕ → List (Bool × ℕ)
accept_rows s =
    (ltb (length s) 20, 1)  -- SHORT
    ∷ (not (eqb (the s "table_id") 0xFC), 2)  -- TABLE
    ∷ (eqb (the s "section_syntax_indicator") 1 || eqb (the s "private_indicator") 1, 3)  -- SYNTAX
    ∷ (ltb 4093 (the s "section_length") || not (eqb (the s "section_length" + 3) (length s)), 4)  -- SIZE
    ∷ (not (eqb (crc32 s) 0), 5)  -- CRC
    ∷ (not (eqb (the s "protocol_version") 0), 6)  -- VERSION
    ∷ (eqb (the s "encrypted_packet") 1 && ltb (length s) 24, 7)  -- CRYPT
    ∷ (breaks (grammar_of s) 8, 8)  -- COMMAND
    ∷ (breaks (grammar_of s) 9, 9)  -- LOOP
    ∷ (not (complete (grammar_of s)), 10)  -- DESCRIPTOR
    ∷ []

-- the first row that applies, 0 where none does
unfoldable pub accept_row : List ℕ → ℕ
accept_row s = first (accept_rows s)

-- the verdict for a row: no row, 0, accepts
unfoldable pub verdict : ℕ → Result (Unit {0}) Refusal
verdict zero = Ok tt
verdict (suc row) = Err (named (suc row))

-- whether the section is accepted, or why not
unfoldable pub accept_of : List ℕ → Result (Unit {0}) Refusal
accept_of s = verdict (accept_row s)

-- ---- for private functions

-- a verdict on the rest of the section as the outcome of its run: accepted means read to the end
abbrev pub judged : ℕ → Result (Unit {0}) Refusal → Outcome
judged end (Ok u) = ends (8 * end)
judged end (Err r) = breach (number_of r)

-- a verdict of the grammar's own: accepted, or one of rows 8 to 10
abbrev pub IsGrammatical : Result (Unit {0}) Refusal → Type 0
IsGrammatical (Ok u) = Unit {0}
IsGrammatical (Err r) = (8 ≤ number_of r) × (number_of r ≤ 10)
