-- `command_reading::parts::avails` meets its contract: each part is counted back from byte 9.
-- Assumes nothing.
use native.Mathlib.Omega.{arith}
use Rattle.bits.proofs.Fields.{field_lt}
use Rattle.command_reading.specs.Places.{avails_at}
use Rattle.command_reading.proofs.parts.avails.Goals as goal

pub overflow_cast-result : goal.overflow_cast-result
overflow_cast-result c = omega (arith, field_lt c.args.s.now 40 16)

pub returns : goal.returns
unfolding avails_at
returns c =
    λ i.
    record {
      break_duration = c.break_duration-break_duration.ensures i;
      unique_program_id = c.pair.ensures i;
      avail_num = c.octet.ensures i;
      avails_expected = c.octet-2.ensures i;
    }
