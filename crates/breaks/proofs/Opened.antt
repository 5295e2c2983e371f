-- What an open section has been read to be: descriptors fill its loop, and its command ends before that.
-- Assumes nothing.
use mathlib.Core.Path.{◌≡◌, refl, sym, ap, ◌∙◌, subst}
use mathlib.Core.Bool.{Bool, true, false, cond, ◌&&◌}
use mathlib.Core.List.{List}
use mathlib.Core.Logic.{◌⊎◌, ⊎_elim}
use Prim.Native.Nat.{ℕ, ◌+◌, ◌-◌, ◌*◌, ◌<◌}
use lib.ListN.{length, get_or}
use lib.Dec.{eqb}
use borrow.Author.Tests.{le-leb, eqb-true, eqb-false}
use Rattle.std.specs.Prelude.{Result, Ok, None}
use Rattle.bits.specs.Bits.{bit, num, field_of, flag_of}
use Rattle.bits.proofs.Cases.{by_cases}
use Rattle.units.specs.declared.clock.EventId.{EventId}
use Rattle.units.specs.declared.refusals.Refusal.{Refusal}
use Rattle.grammar.specs.Meaning.{broken, reached, read}
use Rattle.grammar.specs.Tables.{sized_command}
use Rattle.grammar.proofs.Places.{octet}
use Rattle.grammar.specs.Traces.{Trace}
use Rattle.commands.specs.Command.{known}
use Rattle.command_reading.specs.declared.answers.Insert.{Insert}
use Rattle.command_reading.specs.declared.answers.Command.{Command}
use Rattle.command_reading.specs.Command.{command_reading, command}
use Rattle.command_reading.specs.Places.{time_at, insert_at}
use Rattle.command_reading.proofs.Said.{null, schedule, insert, signal, reservation, private_one, unread}
use Rattle.descriptors.specs.declared.Cursor.{Cursor}
use Rattle.descriptors.proofs.Filled.{Filled}
use Rattle.section.proofs.Accepted.{Allowed, accepted, has_trace}
use Rattle.opening.specs.First.{first_cursor}
use Rattle.opening.proofs.First.{Laid, first_trace}
use Rattle.opening.proofs.Asked.{IsOpen}
use Rattle.breaks.specs.declared.Break.{Break}
use Rattle.breaks.specs.Signals.{Reading}
use Rattle.breaks.specs.Breaks.{break_by}
use Rattle.breaks.specs.Dash.{dash_by}

-- two numbers are equal or not
equal_or_not : {A : Type 0} (v k : ℕ) → (v ≡ k → A) → ((v ≡ k → ⊥) → A) → A
equal_or_not v k f g = ⊎_elim (λ e. f (eqb-true v k e)) (λ e. g (eqb-false v k e)) (by_cases (eqb v k))

-- an insert has no DASH duration, cancelled or not
insert_undashed : (s : List ℕ) (end : ℕ) (ds : List Reading) → Ok None ≡ dash_by (Ok (insert_at s end)) ds
unfolding insert_at
insert_undashed s end ds = go (flag_of s 144) _ _
  where
    go : (b : Bool) (id : EventId) (i : Insert) → Ok None ≡ dash_by (Ok (cond b (Command.CancelledInsert id) (Command.Insert i))) ds
    go true id i = refl
    go false id i = refl

module _ (s : List ℕ) (c : Cursor) (o : IsOpen s c) where
  pub allowed : Allowed s
  allowed = accepted s o.allowed

  laid : Laid s (first_cursor s) (has_trace s o.allowed).0 (has_trace s o.allowed).1
  laid = let t = has_trace s o.allowed in first_trace s o.allowed o.clear t.0 t.1 t.2

  pub filled : Filled s c
  filled = subst (Filled s) (sym o.cursor) laid.filled

  -- the byte at which the command ends, and its rows
  pub stop : ℕ
  stop = laid.stop

  pub rows : Trace
  rows = laid.command

  pub loop_after : c.at ≡ stop + 2
  unfolding stop
  loop_after = ap (λ (x : Cursor). x.at) o.cursor ∙ laid.starts

  pub command_read : command_reading s ≡ reached (8 * stop) rows
  unfolding command_reading stop rows
  command_read =
      ap (λ (b : Bool). cond b (read sized_command (known s) (bit s) (8 * (length s - 4)) (8 * 14)) (broken 0))
      (λ i. le-leb 20 (length s) allowed.long i && le-leb (length s) 4096 allowed.fits i)
      ∙ laid.commanded

  -- ---- the command, by splice_command_type

  module _ (byte : get_or s 13 0 < 256) where
    type_is : num (bit s) 104 8 ≡ get_or s 13 0
    type_is = octet s 13 104 byte refl

    not_type : (v : ℕ) → (get_or s 13 0 ≡ v → ⊥) → num (bit s) 104 8 ≡ v → ⊥
    not_type v h e = h (sym type_is ∙ e)

    pub insert_is : get_or s 13 0 ≡ 0x05 → command s ≡ Ok (insert_at s stop)
    insert_is e = insert s stop rows command_read (type_is ∙ e)

    pub signal_is : get_or s 13 0 ≡ 0x06 → command s ≡ Ok (Command.TimeSignal (time_at s 14))
    signal_is e = signal s stop rows command_read (type_is ∙ e)

    null_is : get_or s 13 0 ≡ 0x00 → command s ≡ Ok Command.Null
    null_is e = null s stop rows command_read (type_is ∙ e)

    schedule_is : get_or s 13 0 ≡ 0x04 → command s ≡ Ok (Command.Schedule (num (bit s) 112 8))
    schedule_is e = schedule s stop rows command_read (type_is ∙ e)

    reservation_is : get_or s 13 0 ≡ 0x07 → command s ≡ Ok Command.BandwidthReservation
    reservation_is e = reservation s stop rows command_read (type_is ∙ e)

    private_is : get_or s 13 0 ≡ 0xFF → command s ≡ Ok (Command.Private (field_of s 112 32) (stop - 18))
    private_is e = private_one s stop rows command_read (type_is ∙ e)

    pub unread_is : (get_or s 13 0 ≡ 0x00 → ⊥) → (get_or s 13 0 ≡ 0x04 → ⊥) → (get_or s 13 0 ≡ 0x05 → ⊥) → (get_or s 13 0 ≡ 0x06 → ⊥)
        → (get_or s 13 0 ≡ 0x07 → ⊥) → (get_or s 13 0 ≡ 0xFF → ⊥) → command s ≡ Ok Command.Unread
    unread_is h0 h4 h5 h6 h7 hF =
        unread s stop rows command_read (not_type 0x00 h0) (not_type 0x04 h4) (not_type 0x05 h5) (not_type 0x06 h6) (not_type 0x07 h7) (not_type 0xFF hF)

    -- four of the types open no break
    pub unbroken : (get_or s 13 0 ≡ 0x00) ⊎ ((get_or s 13 0 ≡ 0x04) ⊎ ((get_or s 13 0 ≡ 0x07) ⊎ (get_or s 13 0 ≡ 0xFF)))
        → (ds : List Reading) → Ok Break.None ≡ break_by (command s) ds
    unbroken w ds =
        let says : (k : Result Command Refusal) → command s ≡ k → break_by k ds ≡ break_by (command s) ds = λ k e. ap (λ (x : Result Command Refusal). break_by x ds) (sym e) in
        ⊎_elim (λ e. says _ (null_is e))
        (⊎_elim (λ e. says _ (schedule_is e)) (⊎_elim (λ e. says _ (reservation_is e)) (λ e. says _ (private_is e)))) w

    -- all types but one have no DASH duration
    pub undashed : (get_or s 13 0 ≡ 0x06 → ⊥) → (ds : List Reading) → Ok None ≡ dash_by (command s) ds
    undashed h6 ds =
        let says : (k : Result Command Refusal) → command s ≡ k → dash_by k ds ≡ dash_by (command s) ds = λ k e. ap (λ (x : Result Command Refusal). dash_by x ds) (sym e) in
        equal_or_not (get_or s 13 0) 0x00 (λ e. says _ (null_is e))
        (λ h0. equal_or_not (get_or s 13 0) 0x04 (λ e. says _ (schedule_is e))
        (λ h4. equal_or_not (get_or s 13 0) 0x05 (λ e. insert_undashed s stop ds ∙ says _ (insert_is e))
        (λ h5. equal_or_not (get_or s 13 0) 0x07 (λ e. says _ (reservation_is e))
        (λ h7. equal_or_not (get_or s 13 0) 0xFF (λ e. says _ (private_is e)) (λ hF. says _ (unread_is h0 h4 h5 h6 h7 hF))))))
