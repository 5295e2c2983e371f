-- What a command says: every value is that of a field on the section's sheet, under the field's name.
-- Assumes nothing.
use Rattle.std.specs.Prelude.{ℕ, ◌-◌, ◌*◌, Bool, cond, ◌&&◌, List, [], ◌∷◌, ◌++◌, Option, Some, None, Result, Ok, Err, length, leb, eqb}
use Rattle.bits.specs.Bits.{bit}
use Rattle.units.specs.declared.mode.Mode.{Mode}
use Rattle.units.specs.declared.refusals.Refusal.{Refusal}
use Rattle.units.specs.Clock.{ticks, event_id}
use Rattle.grammar.specs.Syntax.{field}
use Rattle.grammar.specs.Meaning.{values, Reading, broken, reached, read}
use Rattle.grammar.specs.Tables.{sized_command}
use Rattle.grammar.specs.Traces.{Trace, trace_of}
use Rattle.grammar.specs.Names.{look, is_set, all_of}
use Rattle.commands.specs.Command.{known}
use Rattle.command_reading.specs.declared.answers.SpliceTime.{SpliceTime}
use Rattle.command_reading.specs.declared.answers.BreakDuration.{BreakDuration}
use Rattle.command_reading.specs.declared.answers.Avails.{Avails}
use Rattle.command_reading.specs.declared.answers.Command.{Command}

-- ---- the rows of a section's command

-- as many bytes as a section may have
abbrev pub is_of_size : List ℕ → Bool
is_of_size s = leb 20 (length s) && leb (length s) 4096

-- what the grammar reads of the command
unfoldable pub command_reading : List ℕ → Reading
command_reading s = cond (is_of_size s) (read sized_command (known s) (bit s) (8 * (length s - 4)) (8 * 14)) (broken 0)

-- a command's rows, splice_command_type before them
unfoldable pub typed : List ℕ → Trace → Trace
typed s t = values (field 8 "splice_command_type" ∷ []) (bit s) 104 ++ t

-- the rows of the section's command; its type alone, where it breaks its table or its length
unfoldable pub command_trace : List ℕ → Trace
command_trace s = typed s (trace_of (command_reading s))

-- ---- the parts of a command

-- the command is of that type
abbrev pub is_type : Trace → ℕ → Bool
is_type t v = eqb (look t "splice_command_type") v

-- splice_time()
abbrev pub time_of : Trace → SpliceTime
time_of t = cond (is_set t "time_specified_flag") (SpliceTime.Given (ticks (look t "pts_time"))) SpliceTime.NotGiven

-- the time of an insert: one with components leaves it to them
abbrev pub insert_time : Trace → SpliceTime
insert_time t =
    cond (is_set t "splice_immediate_flag") SpliceTime.Immediate (cond (is_set t "program_splice_flag") (time_of t) SpliceTime.NotGiven)

-- of the whole program, or of so many components
abbrev pub mode_of : Trace → Mode
mode_of t = cond (is_set t "program_splice_flag") Mode.Program (Mode.Components (look t "component_count"))

-- break_duration(), where there is one
abbrev pub break_of : Trace → Option BreakDuration
break_of t =
    cond (is_set t "duration_flag") (Some (record { auto_return = is_set t "auto_return"; duration = ticks (look t "duration") })) None

-- what stands at the end of an event
abbrev pub avails_of : Trace → Avails
avails_of t =
    record {
      break_duration = break_of t;
      unique_program_id = look t "unique_program_id";
      avail_num = look t "avail_num";
      avails_expected = look t "avails_expected";
    }

-- ---- the command

-- splice_insert(): a cancelled one has its id only
abbrev pub insert_of : Trace → Command
insert_of t =
    cond (is_set t "splice_event_cancel_indicator") (Command.CancelledInsert (event_id (look t "splice_event_id")))
    (Command.Insert
    (record {
      splice_event_id = event_id (look t "splice_event_id");
      out_of_network_indicator = is_set t "out_of_network_indicator";
      time = insert_time t;
      mode = mode_of t;
      avails = avails_of t;
    }))

-- by splice_command_type (Table 7)
unfoldable pub command_of : Trace → Command
command_of t =
    cond (is_type t 0x00) Command.Null
    (cond (is_type t 0x04) (Command.Schedule (look t "splice_count"))
    (cond (is_type t 0x05) (insert_of t)
    (cond (is_type t 0x06) (Command.TimeSignal (time_of t))
    (cond (is_type t 0x07) Command.BandwidthReservation
    (cond (is_type t 0xFF) (Command.Private (look t "identifier") (length (all_of t "private_byte")))
    Command.Unread)))))

-- where the command could be read
unfoldable pub where_read : Reading → Command → Result Command Refusal
where_read (broken n) c = Err Refusal.Command
where_read (reached k t) c = Ok c

-- the section's command; refused, where it breaks its table or its length
unfoldable pub command : List ℕ → Result Command Refusal
command s = where_read (command_reading s) (command_of (command_trace s))
