-- What an event of splice_schedule() tells (Table 9): its values by their rows are its values by their places.
-- Assumes nothing.
use mathlib.Core.Path.{◌≡◌, refl, sym, ap, ◌∙◌}
use mathlib.Core.Bool.{true, false, cond}
use mathlib.Core.List.{List, [], ◌∷◌, ◌++◌, append-nil}
use mathlib.Core.Logic.{⊎_elim}
use Prim.Native.Nat.{ℕ, ◌+◌, ◌*◌, ◌≤◌, ◌<◌}
use native.Mathlib.Omega.{arith}
use Rattle.std.specs.Prelude.{Result, Ok, Err}
use lib.ListN.{length}
use lib.Dec.{eqb, ltb}
use borrow.Author.Tests.{le-ltb, ltb-true}
use Rattle.bits.specs.Bits.{bit, num, field_of, flag_of}
use Rattle.bits.proofs.Cases.{cond_same}
use Rattle.bits.proofs.Within.{there}
use Rattle.units.specs.declared.refusals.Refusal.{Refusal}
use Rattle.units.specs.Clock.{event_id}
use Rattle.grammar.specs.Syntax.{Item, field, reserved}
use Rattle.grammar.specs.Meaning.{Env, value_of, values}
use Rattle.grammar.specs.Tables.{break_duration, avail_numbers, avails, schedule_times, schedule_event}
use Rattle.grammar.specs.Traces.{Trace}
use Rattle.grammar.specs.Names.{look, is_set, part}
use Rattle.grammar.proofs.Ends.{given, covers}
use Rattle.grammar.proofs.Each.{Each, every, each_append, read_each}
use Rattle.grammar.proofs.Names.{other, look_none, part_past, part_many, each_many}
use Rattle.grammar.proofs.Telling.{Tells, many, so, rows, arm_last, sub, sub_last, some, alike, over}
use Rattle.command_reading.specs.declared.answers.EventTime.{EventTime}
use Rattle.command_reading.specs.declared.answers.Event.{Event}
use Rattle.command_reading.specs.declared.answers.EventComponent.{EventComponent}
use Rattle.command_reading.specs.Command.{avails_of}
use Rattle.command_events.specs.Events.{event_time, scheduled_of, event_component_in}
use Rattle.command_reading.specs.Places.{avails_at}
use Rattle.command_events.specs.Places.{event_time_at, event_at, event_component_at}
use Rattle.command_reading.proofs.Rows.{zero_or_one}
use Rattle.command_reading.proofs.EventEnd.{Before, early, avails_tell, avails_said}

-- the rows before the event's flags, and those of the flags
unfoldable opening : List ℕ → ℕ → Trace
opening s at = values (field 32 "splice_event_id" ∷ field 1 "splice_event_cancel_indicator" ∷ reserved 7 ∷ []) (bit s) (8 * at)

unfoldable flags : List ℕ → ℕ → Trace
flags s at =
    values (field 1 "out_of_network_indicator" ∷ field 1 "program_splice_flag" ∷ field 1 "duration_flag" ∷ reserved 5 ∷ []) (bit s) (8 * at + 40)

-- a component's rows
abbrev component : List Item
component = field 8 "component_tag" ∷ field 32 "utc_splice_time" ∷ []

-- component m of an event that is not cancelled
unfoldable listed : List ℕ → ℕ → ℕ → Result EventComponent Refusal
listed s at m =
    cond (ltb m (cond (flag_of s (8 * (at + 5) + 1)) 0 (field_of s (8 * (at + 6)) 8)))
    (Ok (record { component_tag = field_of s (8 * (at + 7 + 5 * m)) 8; utc_splice_time = field_of s (8 * (at + 8 + 5 * m)) 32 }))
    (Err Refusal.NotHere)

-- the rows t, up to place k, say when the event takes place, whatever rows come after them
record Timed (s : List ℕ) (at k : ℕ) (t : Trace) : Type 0 where
  time : (w : Trace) → event_time (flags s at ++ (t ++ w)) ≡ event_time_at s at
  past : Each early t
  components : k ≤ 8 * length s → (w : Trace) → Each (other "component_count") w → (m : ℕ)
      → event_component_in (opening s at ++ (flags s at ++ (t ++ w))) m ≡ listed s at m

module _ (s : List ℕ) (at : ℕ) where
  -- what was read of the components, and of the end of the event after them
  abbrev list : Trace → Trace
  list w =
      opening s at
      ++ (flags s at
      ++ ((values (field 8 "component_count" ∷ []) (bit s) (8 * at + 40 + 8) ++ (many (num (bit s) (8 * at + 40 + 8) 8) component (bit s) (8 * at + 40 + 8 + 8) ++ []))
      ++ w))

  -- one of them
  nth_part : (w : Trace) (m : ℕ) → m < num (bit s) (8 * at + 40 + 8) 8
      → (rest : Trace) × (part "component_tag" m (list w) ≡ values component (bit s) (8 * at + 40 + 8 + 8 + m * 40) ++ rest)
  unfolding opening flags values
  nth_part w m l =
      let all : Trace = many (num (bit s) (8 * at + 40 + 8) 8) component (bit s) (8 * at + 40 + 8 + 8) in
      let one = part_many "component_tag" (field 8 "component_tag") (field 32 "utc_splice_time" ∷ []) refl refl (num (bit s) (8 * at + 40 + 8) 8) m (bit s) (8 * at + 40 + 8 + 8) w l in (
        one.0,
        part_past "component_tag" m (opening s at ++ (flags s at ++ values (field 8 "component_count" ∷ []) (bit s) (8 * at + 40 + 8))) ((all ++ []) ++ w)
            (refl, (refl, (refl, (refl, (refl, (refl, (refl, (refl, tt))))))))
            ∙ ap (λ (u : Trace). part "component_tag" m (u ++ w)) (append-nil all)
            ∙ one.1,
      )

  listed_part : (w : Trace) (m : ℕ) → flag_of s (8 * (at + 5) + 1) ≡ false → num (bit s) (8 * at + 40 + 8) 8 ≡ field_of s (8 * (at + 6)) 8
      → 8 * at + 40 + 8 + 8 + num (bit s) (8 * at + 40 + 8) 8 * 40 ≤ 8 * length s → event_component_in (list w) m ≡ listed s at m
  unfolding opening flags values look event_component_in listed
  listed_part w m h e l =
      rw (h, sym e)
      (cond_same (ltb m (num (bit s) (8 * at + 40 + 8) 8))
      (λ c.
      let below : m < num (bit s) (8 * at + 40 + 8) 8 = ltb-true m _ c in
      let one = nth_part w m below in
      let tag = there s (8 * at + 40 + 8 + 8 + m * 40) (8 * (at + 7 + 5 * m)) 8 (omega arith) (omega arith) (omega arith) in
      let time = there s (8 * at + 40 + 8 + 8 + m * 40 + 8) (8 * (at + 8 + 5 * m)) 32 (omega arith) (omega arith) (omega arith) in
      λ i.
      Ok
      (record {
        component_tag = (ap (λ (u : Trace). look u "component_tag") one.1 ∙ tag) i;
        utc_splice_time = (ap (λ (u : Trace). look u "utc_splice_time") one.1 ∙ time) i;
      }))
      (λ c. refl))

  module _ (env : Env) (stop : ℕ) (fits : stop ≤ 8 * length s) where
    times_tell : value_of env "program_splice_flag" ≡ num (bit s) (8 * at + 40 + 1) 1
        → Tells (λ k t. Timed s at k t) schedule_times env (bit s) stop (8 * at + 40 + 8)
    unfolding schedule_times opening flags values look event_component_in listed
    times_tell p =
        ⊎_elim
        (λ (h : num (bit s) (8 * at + 40 + 1) 1 ≡ 0).
        arm_last false (ap (λ (v : ℕ). eqb v 1) (p ∙ h))
        (rows
        (λ l.
        let program = there s (8 * at + 40 + 1) (8 * (at + 5) + 1) 1 (omega arith) (omega arith) (omega arith) in
        let count = there s (8 * at + 40 + 8) (8 * (at + 6)) 8 (omega arith) (omega arith) (omega arith) in
        alike (num (bit s) (8 * at + 40 + 8) 8) refl
        (over
        (record {
          time = λ w. rw (sym program ∙ h, h) (λ i. EventTime.Components (count i));
          past = (
            refl,
            each_append early (many (num (bit s) (8 * at + 40 + 8) 8) component (bit s) (8 * at + 40 + 8 + 8)) []
                (each_many early component (bit s) (num (bit s) (8 * at + 40 + 8) 8) (8 * at + 40 + 8 + 8) refl) tt,
          );
          components = λ far w none m. listed_part w m (ap (λ (v : ℕ). eqb v 1) (sym program ∙ h)) count far;
        })))))
        (λ (h : num (bit s) (8 * at + 40 + 1) 1 ≡ 1).
        arm_last true (ap (λ (v : ℕ). eqb v 1) (p ∙ h))
        (rows
        (λ l.
        let program = there s (8 * at + 40 + 1) (8 * (at + 5) + 1) 1 (omega arith) (omega arith) (omega arith) in
        over
        (record {
          time = λ w. rw (sym program ∙ h, h) (λ i. EventTime.Program (there s (8 * at + 40 + 8) (8 * (at + 6)) 32 (omega arith) (omega arith) (omega arith) i));
          past = (refl, tt);
          components = λ far w none m. rw (sym program ∙ h, look_none "component_count" w none, le-ltb m 0 (omega arith));
        }))))
        (zero_or_one s (8 * at + 40 + 1))

-- the rows t of an event from byte `at` up to `to`
pub record Told (s : List ℕ) (at to : ℕ) (t : Trace) : Type 0 where
  pub said : scheduled_of t ≡ event_at s at to
  pub component : (m : ℕ) → event_component_in t m ≡ event_component_at s at m

-- an event that is not cancelled: the rows t say when it takes place, and the rows u end it
scheduled : (s : List ℕ) (at to k : ℕ) (t u : Trace) → 8 * at + 48 ≤ 8 * length s → num (bit s) (8 * at + 32) 1 ≡ 0 → Timed s at k t
    → Before s to (is_set (flags s at) "duration_flag") u → k ≤ 8 * length s → Each (other "component_count") u
    → Told s at to (opening s at ++ (flags s at ++ (t ++ u)))
unfolding values look opening flags listed scheduled_of event_component_in event_at event_component_at
scheduled s at to k t u fits h timed before far none =
    let cancels = there s (8 * at + 32) (8 * (at + 4)) 1 (omega arith) (omega arith) (omega arith) in
    let ended : avails_of ((opening s at ++ (flags s at ++ t)) ++ u) ≡ avails_at s to (is_set (flags s at) "duration_flag") =
    avails_said s to (is_set (flags s at) "duration_flag") (opening s at ++ (flags s at ++ t)) u
    (refl, (refl, (refl, (refl, (refl, (refl, (refl, timed.past))))))) refl before in
    let lasts = there s (8 * at + 40 + 1 + 1) (8 * (at + 5) + 2) 1 (omega arith) (omega arith) (omega arith) in
    record {
      said =
          rw (sym cancels ∙ h, h)
          (λ i.
          Event.Scheduled
          (record {
            splice_event_id = event_id (there s (8 * at) (8 * at) 32 refl (omega arith) (omega arith) i);
            out_of_network_indicator = eqb (there s (8 * at + 40) (8 * (at + 5)) 1 (omega arith) (omega arith) (omega arith) i) 1;
            time = timed.time u i;
            avails = (ended ∙ ap (λ (v : ℕ). avails_at s to (eqb v 1)) lasts) i;
          }));
      component = λ m. timed.components far u none m ∙ rw (sym cancels ∙ h);
    }

pub event_tells : (s : List ℕ) (at end : ℕ) → end ≤ length s
    → Tells (λ j t. (at < end) × ((to : ℕ) → j ≡ 8 * to → to ≤ end → Told s at to t)) schedule_event [] (bit s) (8 * end) (8 * at)
unfolding schedule_event avails break_duration avail_numbers every values look opening flags listed scheduled_of event_component_in event_at event_component_at
event_tells s at end fits =
    rows
    (λ m.
    let cancels = there s (8 * at + 32) (8 * (at + 4)) 1 (omega arith) (omega arith) (omega arith) in
    let id = there s (8 * at) (8 * at) 32 refl (omega arith) (omega arith) in
    ⊎_elim
    (λ (h : num (bit s) (8 * at + 32) 1 ≡ 0).
    arm_last true (ap (λ (v : ℕ). eqb v 0) h)
    (rows
    (λ l.
    sub
    (so (times_tell s at _ (8 * end) (omega arith) refl)
    (λ k t timed.
    sub_last
    (some
    (λ j q. (
      omega arith,
      λ to d far.
          scheduled s at to k t _ (omega arith) h timed (given (avails_tell s _ (8 * end) k _ (omega arith) refl).tells q to d)
          (omega (arith, covers avails _ (bit s) (8 * end) k j _ q)) (read_each (other "component_count") avails refl _ (bit s) (8 * end) k),
    ))))))))
    (λ (h : num (bit s) (8 * at + 32) 1 ≡ 1).
    arm_last false (ap (λ (v : ℕ). eqb v 0) h)
    (over (
      omega arith,
      λ to d far.
          record {
            said = rw (sym cancels ∙ h, h) (λ i. Event.Cancelled (event_id (id i)));
            component = λ m. rw (sym cancels ∙ h, le-ltb m 0 (omega arith));
          },
    )))
    (zero_or_one s (8 * at + 32)))
