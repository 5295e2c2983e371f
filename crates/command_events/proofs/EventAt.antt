-- The event of a schedule by its number: what its rows say is what stands where the events before it end.
-- Assumes nothing.
use mathlib.Core.Path.{◌≡◌, refl, sym, ap, ap₂, ◌∙◌}
use mathlib.Core.Bool.{Bool, true, cond, ◌&&◌, false≢true}
use mathlib.Core.List.{List, [], ◌∷◌, ◌++◌, append-nil}
use Prim.Native.Nat.{ℕ, ◌+◌, ◌*◌, ◌≤◌, ◌<◌}
use native.Mathlib.Numerals.{add-one}
use native.Mathlib.Omega.{arith}
use Rattle.std.specs.Prelude.{Some, None}
use lib.ListN.{length}
use lib.Dec.{eqb, ltb}
use borrow.Author.Tests.{le-leb, eq-eqb, ne_eqb, le-ltb, lt-ltb}
use Rattle.grammar.proofs.Readings.{reached_at}
use Rattle.bits.specs.Bits.{bit, num}
use Rattle.grammar.specs.Syntax.{field, reserved}
use Rattle.grammar.specs.Meaning.{Env, values, Reading, reached, again, read, breach, ends, end_of}
use Rattle.grammar.specs.Tables.{break_duration, avail_numbers, avails, schedule_times, schedule_event, splice_schedule}
use Rattle.grammar.specs.Traces.{Trace, trace_of}
use Rattle.grammar.specs.Names.{look, part}
use Rattle.grammar.proofs.Ends.{Gives, given, ends_within}
use Rattle.grammar.proofs.Each.{every, each_values}
use Rattle.grammar.proofs.Names.{other, part_past, Opens, opens, Nth, nth}
use Rattle.grammar.proofs.Scope.{scoped}
use Rattle.grammar.proofs.Telling.{Tells, rows, loop, over}
use Rattle.commands.specs.Command.{known, table_of, event_place}
use Rattle.command_reading.specs.Command.{command_reading, typed, command_trace}
use Rattle.command_events.specs.Events.{event_rows, scheduled_of, event_component_in}
use Rattle.command_events.specs.Places.{EventIs}
use Rattle.command_reading.proofs.Said.{came, bounds, by_table, trace_is}
use Rattle.command_reading.proofs.Nothing.{none_of, type_alone}
use Rattle.grammar.proofs.Shorter.{straight, onward}
use Rattle.grammar.proofs.Firsts.{anew, first_end, one_more}
use Rattle.command_events.proofs.Event.{event_tells}

-- where there is no command
pub no_command : (s : List ℕ) (n : ℕ) → end_of (command_reading s) ≡ breach 0 → EventIs s n None
unfolding typed values look
no_command s n e = rw (type_alone s e) (none_of (eqb (num (bit s) 104 8) 0x04) n)

-- one event, up to byte `end`, from place i on
abbrev one : List ℕ → ℕ → ℕ → Reading
one s end i = read schedule_event [] (bit s) (8 * end) i

-- an event opens with its id
opened : (s : List ℕ) (end k : ℕ) → Gives (λ j t. Opens "splice_event_id" t) (one s end k)
unfolding schedule_event schedule_times avails break_duration avail_numbers every
opened s end k =
    opens "splice_event_id" (field 32 "splice_event_id") (field 1 "splice_event_cancel_indicator" ∷ reserved 7 ∷ []) _ refl refl refl [] (bit s) (8 * end) k

-- the list of events in the rows t of the schedule, which ends at byte `end`
record Schedule (s : List ℕ) (end : ℕ) (t : Trace) : Type 0 where
  count : look t "splice_count" ≡ num (bit s) 112 8
  from : 15 ≤ end
  list : Trace
  reads : again (num (bit s) 112 8) (one s end) 120 ≡ reached (8 * end) list
  parts : (n : ℕ) → part "splice_event_id" n (typed s t) ≡ part "splice_event_id" n (list ++ [])

schedule_lists : (s : List ℕ) (env : Env) (stop : ℕ) → Tells (λ j t. (end : ℕ) → j ≡ 8 * end → Schedule s end t) splice_schedule env (bit s) stop 112
unfolding splice_schedule schedule_event schedule_times avails break_duration avail_numbers values look typed scoped straight
schedule_lists s env stop =
    rows
    (λ m.
    loop (num (bit s) 112 8) refl
    (λ j e.
    over
    (λ end d.
    let all : Trace = trace_of (again (num (bit s) 112 8) (λ i. read schedule_event (("splice_count", num (bit s) 112 8) ∷ env) (bit s) stop i) 120) in
    let back : 120 ≤ j = onward schedule_event refl _ (bit s) stop (num (bit s) 112 8) 120 j all e in
    record {
      count = refl;
      from = omega arith;
      list = all;
      reads =
          anew schedule_event [] _ [] refl refl (λ n l. absurd (false≢true l)) (bit s) stop (8 * end) (num (bit s) 112 8) 120 j all e (omega arith)
          ∙ ap (λ (i : ℕ). reached i all) d;
      parts = λ n.
          part_past "splice_event_id" n (values (field 8 "splice_command_type" ∷ field 8 "splice_count" ∷ []) (bit s) 104) (all ++ [])
          (each_values (other "splice_event_id") (field 8 "splice_command_type" ∷ field 8 "splice_count" ∷ []) (bit s) 104 refl);
    })))

module _ (s : List ℕ) (end n : ℕ) (t : Trace) (e : command_reading s ≡ reached (8 * end) t) where
  pub not_schedule : (num (bit s) 104 8 ≡ 0x04 → ⊥) → EventIs s n None
  unfolding typed values look
  not_schedule h = rw (trace_is s end t e, ne_eqb _ 0x04 h)

  module _ (h : num (bit s) 104 8 ≡ 0x04) where
    told : Schedule s end t
    unfolding table_of
    told = given (schedule_lists s (known s) (came s end t e).stop).tells (by_table s end t e 0x04 h) end refl

    pub no_event : num (bit s) 112 8 ≤ n → EventIs s n None
    unfolding typed values look
    no_event l =
        let x = told in
        rw (trace_is s end t e, eq-eqb (num (bit s) 104 8) 0x04 h) (le-ltb n (look t "splice_count") (omega arith))

    -- where the first m events end
    place : (m : ℕ) → event_place s 15 end m ≡ end_of (again m (one s end) 120)
    unfolding event_place
    place m =
        let x = told in
        let b = bounds s end t e in
        rw (le-leb 15 end x.from, le-leb end (length s) (omega arith))

    pub somewhere : {A : Type 0} (m : ℕ) → m ≤ num (bit s) 112 8 → event_place s 15 end m ≡ breach 0 → A
    somewhere m l q =
        let x = first_end (one s end) (num (bit s) 112 8) m 120 (8 * end) told.list l told.reads in
        let never : breach 0 ≡ ends x.0 = sym q ∙ place m ∙ x.1 in
        let z : ◌≡◌ {A = ℕ} 0 1 = cc in
        absurd (omega arith)

    module _ (l : n < num (bit s) 112 8) where
      there : (eqb (look (command_trace s) "splice_command_type") 0x04 && ltb n (look (command_trace s) "splice_count")) ≡ true
      unfolding typed values look
      there =
          let x = told in
          rw (trace_is s end t e) (ap₂ ◌&&◌ (eq-eqb (num (bit s) 104 8) 0x04 h) (lt-ltb n (look t "splice_count") (omega arith)))

      module _ (at to : ℕ) (p : event_place s 15 end n ≡ ends (8 * at)) (q : event_place s 15 end (n + 1) ≡ ends (8 * to)) where
        found : Nth "splice_event_id" (one s end) (opened s end) n (8 * at) told.list []
        found = nth "splice_event_id" (one s end) (opened s end) (num (bit s) 112 8) n 120 (8 * at) (8 * end) told.list [] l told.reads (sym (place n) ∙ p)

        rows_are : event_rows (command_trace s) n ≡ trace_of (one s end (8 * at))
        rows_are =
            ap (λ (b : Bool). cond b (part "splice_event_id" n (command_trace s)) []) there
            ∙ ap (part "splice_event_id" n) (trace_is s end t e)
            ∙ told.parts n
            ∙ found.is
            ∙ ap (λ (u : Trace). trace_of (one s end (8 * at)) ++ u) (found.alone refl)
            ∙ append-nil (trace_of (one s end (8 * at)))

        -- it ends where one event more does
        ends_there : found.stop ≡ 8 * to
        ends_there =
            let last = one_more (one s end) n 120 (8 * at) found.stop (trace_of (one s end (8 * at))) (sym (place n) ∙ p) found.reaches in
            let same : ends found.stop ≡ ends (8 * to) =
            sym last ∙ ap (λ (m : ℕ). end_of (again m (one s end) 120)) (sym (add-one n)) ∙ sym (place (n + 1)) ∙ q in
            cc

        starts : 15 ≤ at
        unfolding schedule_event schedule_times avails break_duration avail_numbers straight
        starts =
            let far = onward schedule_event refl [] (bit s) (8 * end) n 120 (8 * at) _ (reached_at (again n (one s end) 120) (8 * at) (sym (place n) ∙ p)) in
            omega arith

        pub event_at_lem : EventIs s n (Some (at, to))
        event_at_lem =
            let b = bounds s end t e in
            let told = given (event_tells s at end (omega arith)).tells found.reaches in
            let inner = ends_within schedule_event [] (bit s) (8 * end) (8 * at) found.stop _ found.reaches (omega arith) in
            let says = told.1 to ends_there (omega (arith, ends_there)) in (
              there,
              omega arith,
              omega (arith, starts, ends_there),
              omega (arith, ends_there),
              ap scheduled_of rows_are ∙ says.said,
              λ m. ap (λ (u : Trace). event_component_in u m) rows_are ∙ says.component m,
            )
