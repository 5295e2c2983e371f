-- What the lists of a command say by number: every value is that of a field on the section's sheet, under the field's name.
-- Assumes nothing.
use Rattle.std.specs.Prelude.{ℕ, cond, ◌&&◌, List, [], Result, Ok, Err, length, get_or, ltb}
use Rattle.units.specs.declared.refusals.Refusal.{Refusal}
use Rattle.grammar.specs.Traces.{Trace}
use Rattle.grammar.specs.Names.{look, is_set, all_of, part}
use Rattle.command_reading.specs.declared.answers.SpliceTime.{SpliceTime}
use Rattle.command_reading.specs.declared.answers.InsertComponent.{InsertComponent}
use Rattle.command_reading.specs.Command.{is_type, time_of}

-- component n of the insert with the rows t
unfoldable pub insert_component_of : Trace → ℕ → Result InsertComponent Refusal
insert_component_of t n =
    cond (is_type t 0x05 && ltb n (look t "component_count"))
    (Ok
    (record {
      component_tag = look (part "component_tag" n t) "component_tag";
      time = cond (is_set t "splice_immediate_flag") SpliceTime.Immediate (time_of (part "component_tag" n t));
    }))
    (Err Refusal.NotHere)

-- the bytes of the private command with the rows t, after its identifier
abbrev pub private_bytes : Trace → List ℕ
private_bytes t = cond (is_type t 0xFF) (all_of t "private_byte") []

-- byte n of them
unfoldable pub private_byte_of : Trace → ℕ → Result ℕ Refusal
private_byte_of t n = cond (ltb n (length (private_bytes t))) (Ok (get_or (private_bytes t) n 0)) (Err Refusal.NotHere)
