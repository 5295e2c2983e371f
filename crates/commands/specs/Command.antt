-- Where the command of a section ends.
-- Assumes nothing.
use Rattle.std.specs.Prelude.{ℕ, ◌-◌, ◌*◌, Bool, cond, ◌&&◌, List, [], ◌∷◌, length, leb, ltb, eqb}
use Rattle.bits.specs.Bits.{bit}
use Rattle.grammar.specs.Syntax.{Prog, field, done}
use Rattle.grammar.specs.Meaning.{Env, bind, again, read, Outcome, breach, end_of, run}
use Rattle.grammar.specs.Tables.{header, sized_command, splice_time, splice_insert, splice_schedule, insert_component, schedule_event}

-- what is known where the command starts, at byte 14: the header's values, and splice_command_type's in byte 13
unfoldable pub known : List ℕ → Env
known s = bind (field 8 "splice_command_type" ∷ []) (bit s) 104 (bind header (bit s) 0 [])

-- where the command ends, before the CRC; a breach where it breaks its table or its length, or the bytes are too few for a section
unfoldable pub command_end : List ℕ → Outcome
command_end s = cond (ltb (length s) 20) (breach 0) (run sized_command (known s) (bit s) (8 * (length s - 4)) (8 * 14))

-- ---- the lists in a command, of the bytes from `at` up to `end`

-- these bytes are there
abbrev pub in_bytes : List ℕ → ℕ → ℕ → Bool
in_bytes s at end = leb at end && leb end (length s)

-- where the first n components of an insert end, and so component n starts
unfoldable pub component_place : List ℕ → ℕ → ℕ → ℕ → ℕ → Outcome
component_place s at end n immediate =
    cond (in_bytes s at end)
    (end_of (again n (λ j. read insert_component (("splice_immediate_flag", immediate) ∷ []) (bit s) (8 * end) j) (8 * at)))
    (breach 0)

-- where the first n events of a schedule end, and so event n starts
unfoldable pub event_place : List ℕ → ℕ → ℕ → ℕ → Outcome
event_place s at end n =
    cond (in_bytes s at end) (end_of (again n (λ j. read schedule_event [] (bit s) (8 * end) j) (8 * at))) (breach 0)

-- ---- for private functions

-- the table of a command type (Table 7)
unfoldable pub table_of : ℕ → Prog → Prog → Prog
table_of t private_one otherwise =
    cond (eqb t 0x00) done
    (cond (eqb t 0x04) splice_schedule
    (cond (eqb t 0x05) splice_insert
    (cond (eqb t 0x06) splice_time
    (cond (eqb t 0x07) done
    (cond (eqb t 0xFF) private_one otherwise)))))
