-- The component of an insert by its number: what its rows say is what stands where the components before it end.
-- Assumes nothing.
use mathlib.Core.Path.{◌≡◌, refl, sym, ap, ap₂, ◌∙◌}
use mathlib.Core.Bool.{Bool, true, false, cond, ◌&&◌}
use mathlib.Core.List.{List, [], ◌++◌}
use mathlib.Core.Logic.{⊎_elim}
use Prim.Native.Nat.{ℕ, ◌+◌, ◌*◌, ◌≤◌, ◌<◌}
use native.Mathlib.Omega.{arith}
use Rattle.std.specs.Prelude.{Ok, Err}
use lib.ListN.{length}
use lib.Dec.{eqb, ltb}
use borrow.Author.Tests.{le-leb, eq-eqb, ne_eqb, eqb-false, le-ltb, lt-ltb}
use Rattle.bits.specs.Bits.{bit, num, field_of, flag_of}
use Rattle.bits.proofs.Cases.{by_cases}
use Rattle.bits.proofs.Fields.{field_lt}
use Rattle.units.specs.declared.refusals.Refusal.{Refusal}
use Rattle.grammar.specs.Syntax.{field, is, done, branch}
use Rattle.grammar.specs.Meaning.{values, reached, again, breach, ends, end_of}
use Rattle.grammar.specs.Tables.{splice_time, insert_component}
use Rattle.grammar.specs.Traces.{Trace, trace_of}
use Rattle.grammar.specs.Names.{look, is_set, part}
use Rattle.grammar.proofs.Ends.{Gives, given}
use Rattle.grammar.proofs.Each.{every}
use Rattle.grammar.proofs.Names.{Opens, opens, nth}
use Rattle.commands.specs.Command.{known, table_of, component_place}
use Rattle.command_reading.specs.declared.answers.SpliceTime.{SpliceTime}
use Rattle.command_reading.specs.Command.{command_reading, typed, command_trace, time_of}
use Rattle.command_lists.specs.Lists.{insert_component_of}
use Rattle.command_reading.specs.Places.{time_at}
use Rattle.command_lists.specs.Places.{insert_component_at}
use Rattle.command_reading.proofs.Said.{came, bounds, fits, by_table, trace_is}
use Rattle.command_reading.proofs.Nothing.{none_of, type_alone}
use Rattle.grammar.proofs.Firsts.{first_end}
use Rattle.command_lists.proofs.Component.{knowing, component_tells}
use Rattle.command_lists.proofs.Components.{counted, one, Listed, Insert, insert_lists}

-- where there is no command
pub no_component : (s : List ℕ) (n : ℕ) → end_of (command_reading s) ≡ breach 0 → Err Refusal.NotHere ≡ insert_component_of (command_trace s) n
unfolding insert_component_of typed values look
no_component s n e =
    sym (ap (λ (t : Trace). insert_component_of t n) (type_alone s e) ∙ rw (none_of (eqb (num (bit s) 104 8) 0x05) n))

-- a component opens with its tag
opened : (s : List ℕ) (end k : ℕ) → Gives (λ j t. Opens "component_tag" t) (one s end k)
unfolding insert_component splice_time every
opened s end k =
    opens "component_tag" (field 8 "component_tag") [] (branch (is "splice_immediate_flag" 0) splice_time done done) refl refl refl
    (knowing (field_of s 155 1)) (bit s) (8 * end) k

module _ (s : List ℕ) (end n : ℕ) (t : Trace) (e : command_reading s ≡ reached (8 * end) t) where
  pub not_insert : (num (bit s) 104 8 ≡ 0x05 → ⊥) → Err Refusal.NotHere ≡ insert_component_of (command_trace s) n
  unfolding insert_component_of typed values look
  not_insert h = sym (ap (λ (u : Trace). insert_component_of u n) (trace_is s end t e) ∙ rw (ne_eqb _ 0x05 h))

  module _ (h : num (bit s) 104 8 ≡ 0x05) where
    told : Insert s end t
    unfolding table_of
    told = given (insert_lists s (known s) (came s end t e).stop (fits s end t e)).tells (by_table s end t e 0x05 h) end refl

    pub absent : counted s ≤ n → Err Refusal.NotHere ≡ insert_component_of (command_trace s) n
    unfolding insert_component_of typed values look
    absent l =
        let x = told in
        sym (ap (λ (u : Trace). insert_component_of u n) (trace_is s end t e) ∙ rw (h, le-ltb n (look t "component_count") (omega arith)))

    module _ (goes : flag_of s 144 ≡ false) (apart : flag_of s 153 ≡ false) (l : n < field_of s 160 8) where
      list : Listed s end t
      list = told.components goes apart

      -- when it is spliced
      time : (at : ℕ) (u : Trace) → (field_of s 155 1 ≡ 0 → time_of u ≡ time_at s (at + 1))
          → cond (is_set t "splice_immediate_flag") SpliceTime.Immediate (time_of u) ≡ cond (flag_of s 155) SpliceTime.Immediate (time_at s (at + 1))
      time at u k =
          ap (λ (b : Bool). cond b SpliceTime.Immediate (time_of u)) (told.immediate goes)
          ∙ ⊎_elim (λ b. rw b) (λ b. rw b (k (omega (arith, field_lt s 155 1, eqb-false (field_of s 155 1) 1 b)))) (by_cases (flag_of s 155))

      -- where it starts
      pub start : component_place s 21 end n (field_of s 155 1) ≡ end_of (again n (one s end) 168)
      unfolding component_place
      start =
          let x = list in
          let b = bounds s end t e in
          rw (le-leb 21 end x.from, le-leb end (length s) (omega arith))

      pub somewhere : {A : Type 0} → component_place s 21 end n (field_of s 155 1) ≡ breach 0 → A
      somewhere q =
          let x = first_end (one s end) (field_of s 160 8) n 168 list.last list.list (omega arith) list.reads in
          let never : breach 0 ≡ ends x.0 = sym q ∙ start ∙ x.1 in
          let z : ◌≡◌ {A = ℕ} 0 1 = cc in
          absurd (omega arith)

      pub at_place : (at : ℕ) → component_place s 21 end n (field_of s 155 1) ≡ ends (8 * at)
          → (at < length s) × (Ok (insert_component_at s at (flag_of s 155)) ≡ insert_component_of (command_trace s) n)
      unfolding insert_component_of insert_component_at typed values look
      at_place at q =
          let x = list in
          let y = nth "component_tag" (one s end) (opened s end) (field_of s 160 8) n 168 (8 * at) x.last x.list x.rest l x.reads (sym start ∙ q) in
          let b = bounds s end t e in
          let c = given (component_tells s end at (field_of s 155 1) (omega arith)).tells y.reaches in
          let is : part "component_tag" n (typed s t) ≡ trace_of (one s end (8 * at)) ++ y.rest = x.parts n ∙ y.is in
          let tag : look (part "component_tag" n (typed s t)) "component_tag" ≡ field_of s (8 * at) 8 =
          ap (λ (u : Trace). look u "component_tag") is ∙ c.tag y.rest in
          let count : look t "component_count" ≡ field_of s 160 8 = told.count ∙ rw (goes, apart) in
          let test : (eqb (num (bit s) 104 8) 0x05 && ltb n (look t "component_count")) ≡ true =
          ap₂ ◌&&◌ (eq-eqb (num (bit s) 104 8) 0x05 h) (lt-ltb n (look t "component_count") (omega arith)) in
          let later = time at (part "component_tag" n (typed s t)) (λ g. ap time_of is ∙ c.time g y.rest) in (
            omega arith,
            sym
                (ap (λ (u : Trace). insert_component_of u n) (trace_is s end t e)
                ∙ rw test (λ i. Ok (record { component_tag = tag i; time = later i }))),
          )
