-- The break of an accepted section is unread exactly where the section is sealed, or where its command is of a type that the standard does
-- not have.
-- Assumes nothing.
use mathlib.Core.Path.{◌≡◌, refl, sym, ap, ◌∙◌}
use mathlib.Core.Bool.{Bool, true, false, cond, ◌||◌, false≢true}
use mathlib.Core.List.{List}
use mathlib.Core.Logic.{⊎_elim}
use Prim.Native.Nat.{ℕ}
use lib.ListN.{length}
use lib.Dec.{eqb}
use Rattle.bits.proofs.Cases.{by_cases}
use Rattle.units.specs.declared.refusals.Refusal.{Refusal}
use Rattle.units.specs.declared.clock.EventId.{EventId}
use Rattle.grammar.specs.Meaning.{is_among}
use Rattle.grammar.specs.Tables.{command_types}
use Rattle.grammar.specs.Traces.{Trace}
use Rattle.grammar.specs.Names.{look, is_set, all_of}
use Rattle.grammar.proofs.Keys.{not_among}
use Rattle.std.specs.Prelude.{Option, Some, None, Result, Ok, Err}
use Rattle.section.specs.Accept.{the, accept_of}
use Rattle.opening.specs.First.{first_cursor}
use Rattle.opening.proofs.Asked.{sealed_open, open_first, when_open, when_refused}
use Rattle.command_reading.specs.declared.answers.BreakDuration.{BreakDuration}
use Rattle.command_reading.specs.declared.answers.Insert.{Insert}
use Rattle.command_reading.specs.declared.answers.Command.{Command}
use Rattle.command_reading.specs.Command.{is_type, time_of, insert_of, command_trace, command_of}
use Rattle.command_reading.specs.Command as Commands
use Rattle.breaks.specs.declared.Break.{Break}
use Rattle.breaks.specs.declared.signal.Measure.{Measure}
use Rattle.breaks.specs.Signals.{Reading, known_readings, lasting, signal_of, signal_break}
use Rattle.breaks.specs.Breaks.{lasting_break, insert_break, break_by, refused_break}
use Rattle.breaks.specs.Breaks as Breaks
use Rattle.demands.proofs.Demand3.{command_is}

-- ---- by the command

unread_type : (t : Trace) → is_among (look t "splice_command_type") command_types ≡ false → command_of t ≡ Command.Unread
unfolding command_of
unread_type t h =
    let n = not_among (look t "splice_command_type") command_types h in
    rw (n.0, n.1.0, n.1.1.0, n.1.1.1.0, n.1.1.1.1.0, n.1.1.1.1.1.0)

abbrev is_unread : Result Break Refusal → Bool
is_unread (Ok Break.None) = false
is_unread (Ok (Break.Measured t)) = false
is_unread (Ok Break.Unmeasured) = false
is_unread (Ok Break.Unread) = true
is_unread (Err r) = false

insert_read : (i : Insert) → is_unread (Ok (insert_break i)) ≡ false
insert_read i = go i.out_of_network_indicator i.avails.break_duration
  where
    go : (b : Bool) (d : Option BreakDuration) → is_unread (Ok (cond b (lasting_break d) Break.None)) ≡ false
    go true None = refl
    go true (Some d) = refl
    go false d = refl

signal_read : (ds : List Reading) → is_unread (Ok (signal_break ds)) ≡ false
unfolding signal_break
signal_read ds = go (signal_of ds).opened (signal_of ds).billed
  where
    go : (b : Bool) (m : Option Measure) → is_unread (Ok (cond b (lasting m) Break.None)) ≡ false
    go true None = refl
    go true (Some m) = refl
    go false m = refl

read_type : (t : Trace) (ds : List Reading) → is_among (look t "splice_command_type") command_types ≡ true
    → is_unread (break_by (Ok (command_of t)) ds) ≡ false
unfolding command_of
read_type t ds = go (is_type t 0x00) (is_type t 0x04) (is_type t 0x05) (is_type t 0x06) (is_type t 0x07) (is_type t 0xFF)
  where
    inserted : (b : Bool) (id : EventId) (i : Insert) → is_unread (break_by (Ok (cond b (Command.CancelledInsert id) (Command.Insert i))) ds) ≡ false
    inserted true id i = refl
    inserted false id i = insert_read i

    go : (a b c d e f : Bool) → (a || (b || (c || (d || (e || (f || false)))))) ≡ true
        → is_unread
        (break_by
        (Ok
        (cond a Command.Null
        (cond b (Command.Schedule (look t "splice_count"))
        (cond c (insert_of t)
        (cond d (Command.TimeSignal (time_of t))
        (cond e Command.BandwidthReservation
        (cond f (Command.Private (look t "identifier") (length (all_of t "private_byte")))
        Command.Unread)))))))
        ds)
        ≡ false
    go true b c d e f h = refl
    go false true c d e f h = refl
    go false false true d e f h = inserted (is_set t "splice_event_cancel_indicator") _ _
    go false false false true e f h = signal_read ds
    go false false false false true f h = refl
    go false false false false false true h = refl
    go false false false false false false h = absurd (false≢true h)

-- ---- by the section

pub sealed_unread : (s : List ℕ) → accept_of s ≡ Ok tt → eqb (the s "encrypted_packet") 1 ≡ true → Breaks.break_answer s ≡ Ok Break.Unread
unfolding Breaks.break_answer
sealed_unread s e h = when_refused refused_break (λ c. break_by (Commands.command s) (known_readings s c)) Refusal.Sealed (sealed_open s e h)

-- of a section that is not sealed the break is that of its command's rows
by_rows : (s : List ℕ) → accept_of s ≡ Ok tt → eqb (the s "encrypted_packet") 1 ≡ false
    → Breaks.break_answer s ≡ break_by (Ok (command_of (command_trace s))) (known_readings s (first_cursor s))
unfolding Breaks.break_answer
by_rows s e h =
    when_open refused_break (λ c. break_by (Commands.command s) (known_readings s c)) (first_cursor s) (open_first s e h)
    ∙ ap (λ (c : Result Command Refusal). break_by c (known_readings s (first_cursor s))) (command_is s e h)

pub unknown_unread : (s : List ℕ) → accept_of s ≡ Ok tt → is_among (look (command_trace s) "splice_command_type") command_types ≡ false
    → Breaks.break_answer s ≡ Ok Break.Unread
unknown_unread s e q =
    ⊎_elim (sealed_unread s e)
    (λ h. by_rows s e h ∙ ap (λ (c : Command). break_by (Ok c) (known_readings s (first_cursor s))) (unread_type (command_trace s) q))
    (by_cases (eqb (the s "encrypted_packet") 1))

-- and no other
pub known_read : (s : List ℕ) → accept_of s ≡ Ok tt → eqb (the s "encrypted_packet") 1 ≡ false
    → is_among (look (command_trace s) "splice_command_type") command_types ≡ true → Breaks.break_answer s ≡ Ok Break.Unread → ⊥
known_read s e h q u =
    false≢true
    (sym (read_type (command_trace s) (known_readings s (first_cursor s)) q) ∙ ap is_unread (sym (by_rows s e h) ∙ u))
