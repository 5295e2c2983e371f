-- The other arm of a `match`: what the definitions say of what it stands for.
-- Assumes nothing.
use mathlib.Core.Path.{◌≡◌, refl}
use Prim.Native.Nat.{ℕ}
use Rattle.std.specs.Prelude.{Option, None, Result, Ok, Err}
use Rattle.units.specs.declared.clock.Ticks.{Ticks}
use Rattle.units.specs.declared.refusals.Refusal.{Refusal}
use Rattle.command_reading.specs.declared.answers.Insert.{Insert}
use Rattle.command_reading.specs.declared.answers.SpliceTime.{SpliceTime}
use Rattle.command_reading.specs.declared.answers.Command.{Command}
use Rattle.times.specs.Times.{moved_by, effective_by}

-- ---- commands

pub no_time : (adjustment : ℕ) (c : Result Command Refusal) → ((i : Insert) → c ≡ Ok (Command.Insert i) → ⊥) → ((t : SpliceTime) → c ≡ Ok (Command.TimeSignal t) → ⊥)
    → ((r : Refusal) → c ≡ Err r → ⊥) → Ok None ≡ effective_by adjustment c
no_time adjustment (Ok Command.Null) i t r = refl
no_time adjustment (Ok (Command.Schedule n)) i t r = refl
no_time adjustment (Ok (Command.Insert x)) i t r = absurd (i x refl)
no_time adjustment (Ok (Command.CancelledInsert id)) i t r = refl
no_time adjustment (Ok (Command.TimeSignal x)) i t r = absurd (t x refl)
no_time adjustment (Ok Command.BandwidthReservation) i t r = refl
no_time adjustment (Ok (Command.Private identifier n)) i t r = refl
no_time adjustment (Ok Command.Unread) i t r = refl
no_time adjustment (Err x) i t r = absurd (r x refl)

-- ---- times

pub not_moved : (adjustment : ℕ) (t : SpliceTime) → ((x : Ticks) → t ≡ SpliceTime.Given x → ⊥) → None ≡ moved_by adjustment t
not_moved adjustment SpliceTime.Immediate h = refl
not_moved adjustment SpliceTime.NotGiven h = refl
not_moved adjustment (SpliceTime.Given x) h = absurd (h x refl)
