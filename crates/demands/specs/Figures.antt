-- The starred figures of paper 01's worked figures, in one table: each row says what a definition gives, and the figure in the paper.
-- Assumes nothing.
use Rattle.std.specs.Prelude.{◌≡◌, ℕ, List, [], ◌∷◌, length, Some, Ok, Err}
use Rattle.units.specs.declared.refusals.Refusal.{Refusal}
use Rattle.units.specs.Clock.{ticks, millis, millis_of}
use Rattle.text.specs.Text.{read_row, decoded}
use Rattle.section.specs.Accept.{the, accept_of}
use Rattle.sheet.specs.Sheet.{sheet_of}
use Rattle.command_reading.specs.declared.answers.SpliceTime.{SpliceTime}
use Rattle.command_reading.specs.declared.answers.Command.{Command}
use Rattle.command_reading.specs.Command.{command}
use Rattle.times.specs.Times.{effective_time}

-- the text of 004, its characters by their codes
unfoldable pub text004 : List ℕ
text004 =
    47 ∷ 68 ∷ 65 ∷ 48 ∷ 65 ∷ 65 ∷ 65 ∷ 65 ∷ 65 ∷ 65 ∷ 65 ∷ 65 ∷ 65 ∷ 65 ∷ 65 ∷ 65 ∷ 66 ∷ 81 ∷ 98 ∷ 43
    ∷ 65 ∷ 68 ∷ 65 ∷ 81 ∷ 54 ∷ 81 ∷ 65 ∷ 101 ∷ 65 ∷ 104 ∷ 120 ∷ 68 ∷ 86 ∷ 85 ∷ 86 ∷ 74 ∷ 81 ∷ 65 ∷ 65 ∷ 65
    ∷ 79 ∷ 51 ∷ 47 ∷ 80 ∷ 65 ∷ 65 ∷ 69 ∷ 85 ∷ 114 ∷ 69 ∷ 111 ∷ 73 ∷ 67 ∷ 65 ∷ 65 ∷ 65 ∷ 65 ∷ 65 ∷ 65 ∷ 103
    ∷ 43 ∷ 50 ∷ 85 ∷ 66 ∷ 78 ∷ 65 ∷ 65 ∷ 65 ∷ 78 ∷ 118 ∷ 114 ∷ 116 ∷ 111 ∷ 81 ∷ 61 ∷ 61 ∷ []

-- a time signal whose time the adjustment takes past the end of the clock
unfoldable pub wrapping : List ℕ
wrapping =
    0xFC ∷ 0x30 ∷ 0x16 ∷ 0x00 ∷ 0x00 ∷ 0x00 ∷ 0x00 ∷ 0x00 ∷ 0x01 ∷ 0x00 ∷ 0xFF ∷ 0xF0 ∷ 0x05 ∷ 0x06 ∷ 0xFF ∷ 0xFF ∷ 0xFF ∷ 0xFF ∷ 0xFF ∷ 0x00 ∷ 0x00 ∷ 0xEC ∷ 0xC7 ∷ 0xE3 ∷ 0x3C ∷ []

-- a time signal whose time the adjustment moves on
unfoldable pub moving : List ℕ
moving =
    0xFC ∷ 0x30 ∷ 0x16 ∷ 0x00 ∷ 0x00 ∷ 0x00 ∷ 0x02 ∷ 0xC2 ∷ 0x60 ∷ 0x00 ∷ 0xFF ∷ 0xF0 ∷ 0x05 ∷ 0x06 ∷ 0xFF ∷ 0x52 ∷ 0x1D ∷ 0x61 ∷ 0x10 ∷ 0x00 ∷ 0x00 ∷ 0x6E ∷ 0x3C ∷ 0xC0 ∷ 0xB3 ∷ []

-- the section s is a time signal with that pts_time and that pts_adjustment, and has that effective time
pub record Effective (s : List ℕ) (time adjustment effective : ℕ) : Type 0 where
  pub signals : command s ≡ Ok (Command.TimeSignal (SpliceTime.Given (ticks time)))
  pub adjusts : the s "pts_adjustment" ≡ adjustment
  pub takes_place : effective_time s ≡ Ok (Some (ticks effective))

-- the figures
pub record Starred : Type 0 where
  -- 004: its text is read, its section is accepted, and its sheet
  pub text : read_row text004 55 ≡ 0
  pub accepted : accept_of (decoded text004) ≡ Ok tt
  pub sheet :
      sheet_of (decoded text004)
      ≡ 252 ∷ 0 ∷ 0 ∷ 3 ∷ 0 ∷ 0 ∷ 0 ∷ 0 ∷ 0 ∷ 0 ∷ 5 ∷ 6 ∷ 1 ∷ 63 ∷ 3150057 ∷ 30 ∷ 2 ∷ 28 ∷ 1129661769 ∷ 1073741883
      ∷ 0 ∷ 127 ∷ 1 ∷ 1 ∷ 0 ∷ 0 ∷ 1 ∷ 1 ∷ 3 ∷ 18132042 ∷ 8 ∷ 8 ∷ 0 ∷ 0 ∷ 0 ∷ 0 ∷ 32 ∷ 251 ∷ 101 ∷ 1
      ∷ 52 ∷ 0 ∷ 0 ∷ []
  -- ticks as milliseconds
  pub millis_of_004 : millis_of (ticks 18132042) ≡ millis 201467
  pub millis_of_003 : millis_of (ticks 2160000) ≡ millis 24000
  pub millis_past_32_bits : millis_of (ticks 4296047296) ≡ millis 47733858
  pub millis_of_0 : millis_of (ticks 0) ≡ millis 0
  pub millis_of_89 : millis_of (ticks 89) ≡ millis 0
  pub millis_of_90 : millis_of (ticks 90) ≡ millis 1
  pub millis_of_40_bits : millis_of (ticks 1099511627775) ≡ millis 12216795864
  -- effective times
  pub wraps : Effective wrapping 8589934591 1 0
  pub moves : Effective moving 5672624400 180832 5672805232
  -- any 19 bytes
  pub short : (s : List ℕ) → length s ≡ 19 → accept_of s ≡ Err Refusal.Short
