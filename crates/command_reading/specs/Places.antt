-- The parts of a command by the byte at which they stand.
-- Assumes nothing.
use Rattle.std.specs.Prelude.{ℕ, ◌+◌, ◌-◌, ◌*◌, Bool, cond, List, Option, Some, None}
use Rattle.bits.specs.Bits.{field_of, flag_of}
use Rattle.units.specs.declared.mode.Mode.{Mode}
use Rattle.units.specs.Clock.{ticks, event_id}
use Rattle.command_reading.specs.declared.answers.SpliceTime.{SpliceTime}
use Rattle.command_reading.specs.declared.answers.BreakDuration.{BreakDuration}
use Rattle.command_reading.specs.declared.answers.Avails.{Avails}
use Rattle.command_reading.specs.declared.answers.Command.{Command}

-- splice_time() from byte `at` on
unfoldable pub time_at : List ℕ → ℕ → SpliceTime
time_at s at = cond (flag_of s (8 * at)) (SpliceTime.Given (ticks (field_of s (8 * at + 7) 33))) SpliceTime.NotGiven

-- break_duration() from byte `at` on, where there is one
unfoldable pub break_at : List ℕ → ℕ → Bool → Option BreakDuration
break_at s at duration =
    cond duration (Some (record { auto_return = flag_of s (8 * at); duration = ticks (field_of s (8 * at + 7) 33) })) None

-- the end of an event before byte `end`
unfoldable pub avails_at : List ℕ → ℕ → Bool → Avails
avails_at s end duration =
    record {
      break_duration = break_at s (end - 9) duration;
      unique_program_id = field_of s (8 * (end - 4)) 16;
      avail_num = field_of s (8 * (end - 2)) 8;
      avails_expected = field_of s (8 * (end - 1)) 8;
    }

-- the time of the insert from byte 14 on
abbrev pub insert_time_at : List ℕ → SpliceTime
insert_time_at s = cond (flag_of s 155) SpliceTime.Immediate (cond (flag_of s 153) (time_at s 20) SpliceTime.NotGiven)

-- of the program, or of so many components
abbrev pub insert_mode_at : List ℕ → Mode
insert_mode_at s = cond (flag_of s 153) Mode.Program (Mode.Components (field_of s 160 8))

-- splice_insert() from byte 14 up to `end`
unfoldable pub insert_at : List ℕ → ℕ → Command
insert_at s end =
    cond (flag_of s 144) (Command.CancelledInsert (event_id (field_of s 112 32)))
    (Command.Insert
    (record {
      splice_event_id = event_id (field_of s 112 32);
      out_of_network_indicator = flag_of s 152;
      time = insert_time_at s;
      mode = insert_mode_at s;
      avails = avails_at s end (flag_of s 154);
    }))
