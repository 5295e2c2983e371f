-- What splice_time() tells: the time by its rows is the time by its place.
-- Assumes nothing.
use mathlib.Core.Path.{◌≡◌, refl, sym, ap, ◌∙◌}
use mathlib.Core.Bool.{true, false, cond}
use mathlib.Core.List.{List, ◌++◌}
use mathlib.Core.Logic.{⊎_elim}
use Prim.Native.Nat.{ℕ, ◌+◌, ◌*◌, ◌≤◌}
use native.Mathlib.Omega.{arith}
use lib.ListN.{length}
use lib.Dec.{eqb}
use Rattle.bits.specs.Bits.{bit, num}
use Rattle.bits.proofs.Within.{there}
use Rattle.units.specs.Clock.{ticks}
use Rattle.grammar.specs.Meaning.{Env, values}
use Rattle.grammar.specs.Tables.{splice_time}
use Rattle.grammar.specs.Traces.{Trace}
use Rattle.grammar.specs.Names.{look}
use Rattle.grammar.proofs.Telling.{Tells, rows, arm_last, over}
use Rattle.command_reading.specs.declared.answers.SpliceTime.{SpliceTime}
use Rattle.command_reading.specs.Command.{time_of}
use Rattle.command_reading.specs.Places.{time_at}
use Rattle.command_reading.proofs.Rows.{from, field_from, zero_or_one}

-- whatever rows come after it
pub time_tells : (s : List ℕ) (env : Env) (stop at : ℕ) → stop ≤ 8 * length s
    → Tells (λ j t. (w : Trace) → time_of (t ++ w) ≡ time_at s at) splice_time env (bit s) stop (8 * at)
unfolding splice_time time_at values look
time_tells s env stop at fits =
    rows
    (λ m.
    let same = there s (8 * at) (8 * at) 1 refl (omega arith) (omega arith) in
    ⊎_elim
    (λ (h : num (bit s) (8 * at) 1 ≡ 0). arm_last false (ap (λ (v : ℕ). eqb v 1) h) (rows (λ l. over (λ w. rw (sym same ∙ h, h)))))
    (λ (h : num (bit s) (8 * at) 1 ≡ 1).
    arm_last true (ap (λ (v : ℕ). eqb v 1) h)
    (rows
    (λ l.
    over (λ w. rw (sym same ∙ h, h) (λ i. SpliceTime.Given (ticks (there s (8 * at + 1 + 6) (8 * at + 7) 33 (omega arith) (omega arith) (omega arith) i)))))))
    (zero_or_one s (8 * at)))

-- by the bytes from there on
pub time_from : (s : List ℕ) (at : ℕ) → at ≤ length s → time_at (from s at) 0 ≡ time_at s at
unfolding time_at
time_from s at h = λ i.
    cond (eqb (field_from s at 0 (8 * at) 1 h (omega arith) i) 1) (SpliceTime.Given (ticks (field_from s at 7 (8 * at + 7) 33 h refl i)))
    SpliceTime.NotGiven
