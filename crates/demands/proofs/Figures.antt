-- The starred figures: the definitions give what paper 01 says.
-- Assumes nothing.
use mathlib.Core.Path.{◌≡◌, refl, ap}
use mathlib.Core.Bool.{Bool}
use mathlib.Core.List.{List, [], ◌∷◌}
use Prim.Native.Nat.{ℕ}
use native.Mathlib.Omega.{arith}
use lib.ListN.{length}
use borrow.Author.Tests.{lt-ltb}
use Rattle.bits.specs.Bits.{bit, num, run, bytes_of, byte_of}
use Rattle.units.specs.Refusals.{first}
use Rattle.units.specs.declared.refusals.Refusal.{Refusal}
use Rattle.text.specs.Text.{sextet, padding, before, text_bit, count, decoded, all_of, spare, read_row}
use Rattle.crc.specs.Crc.{step, register, crc32}
use Rattle.grammar.specs.Meaning.{values, after, then, again, sweep, exactly, numbered, read, end_of}
use Rattle.grammar.specs.Meaning as Meaning
use Rattle.grammar.specs.Tables.{splice_info_section, payload, sized_command, command, splice_time, descriptor_loop, splice_descriptor, known_descriptor, segmentation_descriptor, delivery, segmentation_components, segmentation_end}
use Rattle.grammar.specs.Traces.{trace_of, numbers}
use Rattle.grammar.specs.Names.{look}
use Rattle.commands.specs.Command.{known, command_end}
use Rattle.std.specs.Prelude.{Err}
use Rattle.section.specs.Accept.{the, grammar_of, breaks, complete, accept_rows, accept_row, verdict, accept_of}
use Rattle.section.specs.Judge.{loop_from}
use Rattle.opening.specs.First.{if_accepted, first_cursor, open_row, opened, open_of, asked}
use Rattle.sheet.specs.Sheet.{section_trace, sheet_of}
use Rattle.command_reading.specs.Command.{command_reading, typed, command_trace, command_of, where_read}
use Rattle.command_reading.specs.Command as Commands
use Rattle.times.specs.Times.{effective_time}
use Rattle.demands.specs.Figures.{text004, wrapping, moving, Starred}

-- any 19 bytes
short : (s : List ℕ) → length s ≡ 19 → accept_of s ≡ Err Refusal.Short
unfolding accept_of accept_row verdict
short s e = ap (λ (b : Bool). verdict (first ((b, 1) ∷ rest (accept_rows s)))) (lt-ltb (length s) 20 (omega arith))
  where
    rest : List (Bool × ℕ) → List (Bool × ℕ)
    rest [] = []
    rest (x ∷ xs) = xs

pub starred : Starred
unfolding text004 wrapping moving decoded count before padding text_bit sextet bytes_of run byte_of read_row all_of spare accept_of verdict accept_row the grammar_of breaks complete crc32 register step Meaning.run end_of sheet_of section_trace trace_of numbers look read values after then again sweep exactly numbered num bit splice_info_section payload sized_command command splice_time descriptor_loop splice_descriptor known_descriptor segmentation_descriptor delivery segmentation_components segmentation_end command_reading known typed command_trace command_of where_read Commands.command effective_time open_of open_row opened asked first_cursor if_accepted loop_from command_end
starred =
    record {
      text = refl;
      accepted = refl;
      sheet = refl;
      millis_of_004 = refl;
      millis_of_003 = refl;
      millis_past_32_bits = refl;
      millis_of_0 = refl;
      millis_of_89 = refl;
      millis_of_90 = refl;
      millis_of_40_bits = refl;
      wraps = record { signals = refl; adjusts = refl; takes_place = refl };
      moves = record { signals = refl; adjusts = refl; takes_place = refl };
      short = short;
    }
