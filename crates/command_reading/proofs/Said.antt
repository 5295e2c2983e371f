-- What the command of a section says where it could be read, by its type.
-- Assumes nothing.
use mathlib.Core.Path.{◌≡◌, refl, sym, ap, ◌∙◌}
use mathlib.Core.List.{List, [], append-nil}
use Prim.Native.Nat.{ℕ, ◌-◌, ◌*◌, ◌≤◌}
use native.Mathlib.Omega.{arith}
use Rattle.std.specs.Prelude.{Option, Some, Ok, Err}
use lib.ListN.{length}
use borrow.Author.Tests.{ne_eqb}
use Rattle.bits.specs.Bits.{bit, num, field_of}
use Rattle.units.specs.declared.refusals.Refusal.{Refusal}
use Rattle.grammar.specs.Ended.{outcome}
use Rattle.grammar.specs.Meaning.{Env, values, Reading, broken, reached, read, breach, end_of}
use Rattle.grammar.specs.Tables.{bytes, private_command, splice_schedule}
use Rattle.grammar.specs.Traces.{Trace, trace_of}
use Rattle.grammar.specs.Names.{look, all_of}
use Rattle.grammar.proofs.Ends.{given, ends_within}
use Rattle.grammar.proofs.Names.{fields_length}
use Rattle.grammar.proofs.Readings.{reached_at}
use Rattle.grammar.proofs.Telling.{Tells, rows, some}
use Rattle.commands.specs.Command.{known, table_of}
use Rattle.command_reading.specs.declared.answers.Command.{Command}
use Rattle.command_reading.specs.declared.answers.SpliceTime.{SpliceTime}
use Rattle.command_reading.specs.Command.{command_reading, typed, command_trace, time_of, command_of, where_read}
use Rattle.command_reading.specs.Command as says
use Rattle.command_reading.specs.Places.{time_at, insert_at}
use Rattle.command_reading.proofs.Table.{Read, table_read}
use Rattle.command_reading.proofs.Times.{time_tells}
use Rattle.command_reading.proofs.Inserts.{insert_tells}
use Rattle.command_reading.proofs.Private.{Private, private_tells}

-- a command that breaks its table is refused
pub refused : (s : List ℕ) → end_of (command_reading s) ≡ breach 0 → Err Refusal.Command ≡ says.command s
unfolding says.command end_of where_read
refused s e = of (command_reading s) e
  where
    of : (r : Reading) → end_of r ≡ breach 0 → Err Refusal.Command ≡ where_read r (command_of (command_trace s))
    of (broken n) q = refl
    of (reached k t) q = let z : ◌≡◌ {A = ℕ} 0 1 = cc in absurd (omega arith)

-- where its end was found it was read up to there
pub rows_to : (s : List ℕ) {o : Option ℕ} (end : ℕ) → outcome o ≡ end_of (command_reading s) → o ≡ Some end
    → command_reading s ≡ reached (8 * end) (trace_of (command_reading s))
rows_to s end e found = reached_at (command_reading s) (8 * end) (sym e ∙ ap outcome found)

-- splice_schedule(): its first row
count_tells : (s : List ℕ) (env : Env) (stop : ℕ) → Tells (λ j t. look t "splice_count" ≡ num (bit s) 112 8) splice_schedule env (bit s) stop 112
unfolding splice_schedule values look
count_tells s env stop = rows (λ m. some (λ j e. refl))

module _ (s : List ℕ) (end : ℕ) (t : Trace) (e : command_reading s ≡ reached (8 * end) t) where
  pub trace_is : command_trace s ≡ typed s t
  unfolding command_trace trace_of
  trace_is = ap (λ (r : Reading). typed s (trace_of r)) e

  -- how the command was read
  pub came : Read s (8 * end) t
  came = table_read s (8 * end) t e

  pub fits : came.stop ≤ 8 * length s
  fits = let x = came in omega arith

  -- by the table of its type
  pub by_table : (v : ℕ) → num (bit s) 104 8 ≡ v → read (table_of v private_command (bytes "command_byte")) (known s) (bit s) came.stop 112 ≡ reached (8 * end) t
  by_table v h = rw h at came.reads

  -- it ends before the CRC
  pub bounds : (20 ≤ length s) × (length s ≤ 4096) × (14 ≤ end) × (end ≤ length s - 4)
  bounds =
      let x = came in
      let inner = ends_within (table_of (num (bit s) 104 8) private_command (bytes "command_byte")) (known s) (bit s) x.stop 112 (8 * end) t x.reads x.starts in
      (x.long, x.fits, omega arith, omega arith)

  said : says.command s ≡ Ok (command_of (typed s t))
  unfolding says.command where_read command_trace trace_of
  said = rw e

  pub null : num (bit s) 104 8 ≡ 0x00 → says.command s ≡ Ok Command.Null
  unfolding command_of typed values look
  null h = said ∙ rw h

  pub schedule : num (bit s) 104 8 ≡ 0x04 → says.command s ≡ Ok (Command.Schedule (num (bit s) 112 8))
  unfolding command_of typed values look table_of
  schedule h = said ∙ rw h (ap (λ (n : ℕ). Ok (Command.Schedule n)) (given (count_tells s (known s) came.stop).tells (by_table 0x04 h)))

  pub insert : num (bit s) 104 8 ≡ 0x05 → says.command s ≡ Ok (insert_at s end)
  unfolding command_of typed values look table_of
  insert h = said ∙ rw h (ap Ok (given (insert_tells s (known s) came.stop fits).tells (by_table 0x05 h) end refl))

  pub signal : num (bit s) 104 8 ≡ 0x06 → says.command s ≡ Ok (Command.TimeSignal (time_at s 14))
  unfolding command_of typed values look table_of
  signal h =
      said
      ∙ rw h
      (ap (λ (x : SpliceTime). Ok (Command.TimeSignal x))
      (ap time_of (sym (append-nil t)) ∙ given (time_tells s (known s) came.stop 14 fits).tells (by_table 0x06 h) []))

  pub reservation : num (bit s) 104 8 ≡ 0x07 → says.command s ≡ Ok Command.BandwidthReservation
  unfolding command_of typed values look
  reservation h = said ∙ rw h

  pub private_rows : num (bit s) 104 8 ≡ 0xFF → Private s end t
  unfolding table_of
  private_rows h = given (private_tells s (known s) came.stop came.octets came.whole fits).tells (by_table 0xFF h) end refl

  pub private_one : num (bit s) 104 8 ≡ 0xFF → says.command s ≡ Ok (Command.Private (field_of s 112 32) (end - 18))
  unfolding command_of typed values look all_of
  private_one h =
      let x = private_rows h in
      let count : length (all_of t "private_byte") ≡ end - 18 = ap length x.bytes ∙ fields_length (bit s) 8 (end - 18) 144 in
      said ∙ rw h (λ i. Ok (Command.Private (x.identifier i) (count i)))

  -- a type that Table 7 does not have
  pub unread : (num (bit s) 104 8 ≡ 0x00 → ⊥) → (num (bit s) 104 8 ≡ 0x04 → ⊥) → (num (bit s) 104 8 ≡ 0x05 → ⊥) → (num (bit s) 104 8 ≡ 0x06 → ⊥)
      → (num (bit s) 104 8 ≡ 0x07 → ⊥) → (num (bit s) 104 8 ≡ 0xFF → ⊥) → says.command s ≡ Ok Command.Unread
  unfolding command_of typed values look
  unread h0 h4 h5 h6 h7 hF =
      said ∙ rw (ne_eqb _ 0x00 h0, ne_eqb _ 0x04 h4, ne_eqb _ 0x05 h5, ne_eqb _ 0x06 h6, ne_eqb _ 0x07 h7, ne_eqb _ 0xFF hF)
