-- What splice_insert() tells (Table 10): its values by their rows are its values by their places.
-- Assumes nothing.
use mathlib.Core.Path.{◌≡◌, refl, sym, ap, ◌∙◌}
use mathlib.Core.Bool.{true, false}
use mathlib.Core.List.{List, [], ◌∷◌, ◌++◌}
use mathlib.Core.Logic.{⊎_elim}
use Prim.Native.Nat.{ℕ, ◌*◌, ◌≤◌}
use native.Mathlib.Omega.{arith}
use lib.ListN.{length}
use lib.Dec.{eqb}
use Rattle.units.specs.Clock.{event_id}
use Rattle.bits.specs.Bits.{bit, num, field_of}
use Rattle.bits.proofs.Within.{there}
use Rattle.grammar.specs.Syntax.{field, reserved}
use Rattle.grammar.specs.Meaning.{Env, value_of, values, bind, again, read}
use Rattle.grammar.specs.Tables.{splice_time, insert_component, insert_times, splice_insert}
use Rattle.grammar.specs.Traces.{Trace, trace_of}
use Rattle.grammar.specs.Names.{look, is_set}
use Rattle.grammar.proofs.Ends.{given}
use Rattle.grammar.proofs.Each.{Each, every, each_append, read_each, repeat_each}
use Rattle.grammar.proofs.Telling.{Tells, so, rows, arm_last, sub, sub_last, some, loop, over}
use Rattle.units.specs.declared.mode.Mode.{Mode}
use Rattle.command_reading.specs.declared.answers.Command.{Command}
use Rattle.command_reading.specs.Command.{insert_time, mode_of, avails_of, insert_of}
use Rattle.command_reading.specs.Places.{insert_time_at, insert_mode_at, insert_at, avails_at}
use Rattle.command_reading.proofs.Rows.{zero_or_one}
use Rattle.command_reading.proofs.Times.{time_tells}
use Rattle.command_reading.proofs.EventEnd.{early, avails_tell, avails_said}

-- the rows before the insert's flags, and those of the flags
unfoldable opening : List ℕ → Trace
opening s = values (field 32 "splice_event_id" ∷ field 1 "splice_event_cancel_indicator" ∷ reserved 7 ∷ []) (bit s) 112

unfoldable flags : List ℕ → Trace
flags s =
    values
    (field 1 "out_of_network_indicator" ∷ field 1 "program_splice_flag" ∷ field 1 "duration_flag" ∷ field 1 "splice_immediate_flag" ∷ reserved 4 ∷ [])
    (bit s) 152

-- the rows t say when the splice takes place, whatever rows come after them
record Timed (s : List ℕ) (t : Trace) : Type 0 where
  time : (w : Trace) → insert_time (flags s ++ (t ++ w)) ≡ insert_time_at s
  mode : (w : Trace) → mode_of (flags s ++ (t ++ w)) ≡ insert_mode_at s
  past : Each early t

-- what is known where the components start, and their rows
abbrev counted : List ℕ → Env → Env
counted s env = bind (field 8 "component_count" ∷ []) (bit s) 160 env

abbrev components : List ℕ → Env → ℕ → Trace
components s env stop = trace_of (again (num (bit s) 160 8) (λ j. read insert_component (counted s env) (bit s) stop j) 168)

module _ (s : List ℕ) (env : Env) (stop : ℕ) (fits : stop ≤ 8 * length s) (long : 160 ≤ stop) where
  -- the flags as the code reads them
  one : (k : ℕ) → k ≤ 159 → (v : ℕ) → num (bit s) k 1 ≡ v → field_of s k 1 ≡ v
  one k h v e = sym (there s k k 1 refl (omega arith) (omega arith)) ∙ e

  times_tell : value_of env "program_splice_flag" ≡ num (bit s) 153 1 → value_of env "splice_immediate_flag" ≡ num (bit s) 155 1
      → Tells (λ j t. Timed s t) insert_times env (bit s) stop 160
  unfolding insert_times flags values look every splice_time insert_component
  times_tell p q =
      ⊎_elim
      (λ (h : num (bit s) 153 1 ≡ 0).
      arm_last false (ap (λ (v : ℕ). eqb v 1) (p ∙ h))
      (rows
      (λ m.
      loop (num (bit s) 160 8) refl
      (λ j e.
      over
      (record {
        time = λ w. rw (one 155 (omega arith) (num (bit s) 155 1) refl, one 153 (omega arith) 0 h, h);
        mode = λ w. rw (one 153 (omega arith) 0 h, h) (λ i. Mode.Components (there s 160 160 8 refl (omega arith) (omega arith) i));
        past = (refl, each_append early (components s env stop) [] (repeat_each early insert_component refl (counted s env) (bit s) stop (num (bit s) 160 8) 168) tt);
      })))))
      (λ (h : num (bit s) 153 1 ≡ 1).
      arm_last true (ap (λ (v : ℕ). eqb v 1) (p ∙ h))
      (⊎_elim
      (λ (l : num (bit s) 155 1 ≡ 0).
      arm_last true (ap (λ (v : ℕ). eqb v 0) (q ∙ l))
      (some
      (λ j e.
      record {
        time = λ w. rw (one 155 (omega arith) 0 l, one 153 (omega arith) 1 h, l, h) (given (time_tells s env stop 20 fits).tells e w);
        mode = λ w. rw (one 153 (omega arith) 1 h, h);
        past = read_each early splice_time refl env (bit s) stop 160;
      })))
      (λ (l : num (bit s) 155 1 ≡ 1).
      arm_last false (ap (λ (v : ℕ). eqb v 0) (q ∙ l))
      (over
      (record {
        time = λ w. rw (one 155 (omega arith) 1 l, l);
        mode = λ w. rw (one 153 (omega arith) 1 h, h);
        past = tt;
      })))
      (zero_or_one s 155)))
      (zero_or_one s 153)

pub insert_tells : (s : List ℕ) (env : Env) (stop : ℕ) → stop ≤ 8 * length s
    → Tells (λ j t. (end : ℕ) → j ≡ 8 * end → insert_of t ≡ insert_at s end) splice_insert env (bit s) stop 112
unfolding splice_insert insert_at values look opening flags
insert_tells s env stop fits =
    rows
    (λ m.
    let same = there s 144 144 1 refl (omega arith) (omega arith) in
    let id = there s 112 112 32 refl (omega arith) (omega arith) in
    ⊎_elim
    (λ (h : num (bit s) 144 1 ≡ 0).
    arm_last true (ap (λ (v : ℕ). eqb v 0) h)
    (rows
    (λ l.
    sub
    (so (times_tell s _ stop fits (omega arith) refl refl)
    (λ k t timed.
    sub_last
    (so (avails_tell s _ stop k (is_set (flags s) "duration_flag") fits refl)
    (λ j u said end q.
    let ended : avails_of ((opening s ++ (flags s ++ t)) ++ u) ≡ avails_at s end (is_set (flags s) "duration_flag") =
    avails_said s end (is_set (flags s) "duration_flag") (opening s ++ (flags s ++ t)) u
    (refl, (refl, (refl, (refl, (refl, (refl, (refl, (refl, timed.past)))))))) refl (said end q) in
    rw (sym same ∙ h, h)
    (λ i.
    Command.Insert
    (record {
      splice_event_id = event_id (id i);
      out_of_network_indicator = eqb (there s 152 152 1 refl (omega arith) (omega arith) i) 1;
      time = timed.time u i;
      mode = timed.mode u i;
      avails = (ended ∙ ap (λ (v : ℕ). avails_at s end (eqb v 1)) (there s 154 154 1 refl (omega arith) (omega arith))) i;
    })))))))))
    (λ (h : num (bit s) 144 1 ≡ 1).
    arm_last false (ap (λ (v : ℕ). eqb v 0) h)
    (over (λ end q. rw (sym same ∙ h, h) (λ i. Command.CancelledInsert (event_id (id i))))))
    (zero_or_one s 144))
