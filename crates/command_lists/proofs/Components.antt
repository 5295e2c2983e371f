-- The components of splice_insert() (Table 10): how many there are, and what was read of them.
-- Assumes nothing.
use mathlib.Core.Path.{◌≡◌, refl, sym, ap, ◌∙◌}
use mathlib.Core.Bool.{true, false, cond, false≢true}
use mathlib.Core.List.{List, [], ◌∷◌, ◌++◌, append-nil}
use mathlib.Core.Logic.{⊎_elim}
use Prim.Native.Nat.{ℕ, ◌*◌, ◌≤◌}
use native.Mathlib.Omega.{arith}
use lib.ListN.{length}
use lib.Dec.{eqb}
use Rattle.bits.specs.Bits.{bit, num, field_of, flag_of}
use Rattle.bits.proofs.Within.{there}
use Rattle.grammar.specs.Syntax.{Item, field, reserved, is, done, branch}
use Rattle.grammar.specs.Meaning.{Env, value_of, values, bind, Reading, reached, again, read}
use Rattle.grammar.specs.Tables.{splice_time, break_duration, avail_numbers, avails, insert_component, insert_times, splice_insert}
use Rattle.grammar.specs.Traces.{Trace, trace_of}
use Rattle.grammar.specs.Names.{look, is_set, part}
use Rattle.grammar.proofs.Ends.{covers}
use Rattle.grammar.proofs.Each.{every, each_append, each_values, read_each}
use Rattle.grammar.proofs.Names.{other, look_none, part_past}
use Rattle.grammar.proofs.Scope.{scoped}
use Rattle.grammar.proofs.Telling.{Tells, rows, arm_last, sub, sub_last, some, loop, over}
use Rattle.command_reading.specs.Command.{typed}
use Rattle.command_reading.proofs.Rows.{zero_or_one}
use Rattle.grammar.proofs.Shorter.{straight, onward}
use Rattle.grammar.proofs.Firsts.{agree_one, anew}
use Rattle.command_lists.proofs.Component.{knowing}

-- how many components the insert from byte 14 on has
abbrev pub counted : List ℕ → ℕ
counted s = cond (flag_of s 144) 0 (cond (flag_of s 153) 0 (field_of s 160 8))

-- one component, up to byte `end`, from place i on
abbrev pub one : List ℕ → ℕ → ℕ → Reading
one s end i = read insert_component (knowing (field_of s 155 1)) (bit s) (8 * end) i

-- the list of components in the rows t of the insert, which ends at byte `end`
pub record Listed (s : List ℕ) (end : ℕ) (t : Trace) : Type 0 where
  pub from : 21 ≤ end
  pub last : ℕ
  pub list : Trace
  pub rest : Trace
  pub reads : again (field_of s 160 8) (one s end) 168 ≡ reached last list
  pub parts : (n : ℕ) → part "component_tag" n (typed s t) ≡ part "component_tag" n (list ++ rest)

-- what the rows t of the insert say of them
pub record Insert (s : List ℕ) (end : ℕ) (t : Trace) : Type 0 where
  pub count : look t "component_count" ≡ counted s
  pub immediate : flag_of s 144 ≡ false → is_set t "splice_immediate_flag" ≡ flag_of s 155
  pub components : flag_of s 144 ≡ false → flag_of s 153 ≡ false → Listed s end t

-- the rows of an insert up to its flags, and up to its components
abbrev flagged : List Item → List Item
flagged rest =
    field 32 "splice_event_id" ∷ field 1 "splice_event_cancel_indicator" ∷ reserved 7
    ∷ field 1 "out_of_network_indicator" ∷ field 1 "program_splice_flag" ∷ field 1 "duration_flag" ∷ field 1 "splice_immediate_flag" ∷ reserved 4
    ∷ rest

abbrev front : List Item
front = flagged (field 8 "component_count" ∷ [])

-- an insert of a whole program has no count
uncounted : (env : Env) (f : ℕ → ℕ) (stop j : ℕ)
    → look (trace_of (read (branch (is "splice_immediate_flag" 0) splice_time done done) env f stop 160) ++ trace_of (read avails env f stop j)) "component_count" ≡ 0
unfolding every splice_time avails break_duration avail_numbers
uncounted env f stop j =
    look_none "component_count" _
    (each_append (other "component_count")
    (trace_of (read (branch (is "splice_immediate_flag" 0) splice_time done done) env f stop 160)) (trace_of (read avails env f stop j))
    (read_each (other "component_count") (branch (is "splice_immediate_flag" 0) splice_time done done) refl env f stop 160)
    (read_each (other "component_count") avails refl env f stop j))

-- what was read of the list, and of the end of the event after it
listed : (s : List ℕ) (env : Env) (stop end j : ℕ) (list rest : Trace) → value_of env "splice_immediate_flag" ≡ num (bit s) 155 1 → 168 ≤ 8 * length s
    → again (num (bit s) 160 8) (λ i. read insert_component env (bit s) stop i) 168 ≡ reached j list → j ≤ 8 * end
    → Listed s end (values front (bit s) 112 ++ ((list ++ []) ++ rest))
unfolding typed values insert_component splice_time scoped straight
listed s env stop end j list rest h fits e l =
    record {
      from = omega (arith, onward insert_component refl env (bit s) stop (num (bit s) 160 8) 168 j list e);
      last = j;
      list = list;
      rest = rest;
      reads =
          ap (λ (c : ℕ). again c (one s end) 168) (sym (there s 160 160 8 refl (omega arith) (omega arith)))
          ∙ anew insert_component ("splice_immediate_flag" ∷ []) env (knowing (field_of s 155 1)) refl refl
          (agree_one "splice_immediate_flag" (knowing (field_of s 155 1)) env (sym (h ∙ there s 155 155 1 refl (omega arith) (omega arith))))
          (bit s) stop (8 * end) (num (bit s) 160 8) 168 j list e l;
      parts = λ n.
          part_past "component_tag" n (values (field 8 "splice_command_type" ∷ front) (bit s) 104) ((list ++ []) ++ rest)
          (each_values (other "component_tag") (field 8 "splice_command_type" ∷ front) (bit s) 104 refl)
          ∙ ap (λ (t : Trace). part "component_tag" n (t ++ rest)) (append-nil list);
    }

pub insert_lists : (s : List ℕ) (env : Env) (stop : ℕ) → stop ≤ 8 * length s
    → Tells (λ j t. (end : ℕ) → j ≡ 8 * end → Insert s end t) splice_insert env (bit s) stop 112
unfolding splice_insert insert_times insert_component splice_time avails break_duration avail_numbers values look every scoped straight typed
insert_lists s env stop fits =
    rows
    (λ m.
    let cancels = there s 144 144 1 refl (omega arith) (omega arith) in
    ⊎_elim
    (λ (h : num (bit s) 144 1 ≡ 0).
    arm_last true (ap (λ (v : ℕ). eqb v 0) h)
    (rows
    (λ l.
    let program = there s 153 153 1 refl (omega arith) (omega arith) in
    let soon = there s 155 155 1 refl (omega arith) (omega arith) in
    ⊎_elim
    (λ (p : num (bit s) 153 1 ≡ 0).
    sub
    (arm_last false (ap (λ (v : ℕ). eqb v 1) p)
    (rows
    (λ x.
    let count = there s 160 160 8 refl (omega arith) (omega arith) in
    loop (num (bit s) 160 8) refl
    (λ j e.
    over
    (sub_last
    (some
    (λ i q end d.
    record {
      count = count ∙ rw (sym cancels ∙ h, sym program ∙ p);
      immediate = λ g. ap (λ (v : ℕ). eqb v 1) soon;
      components = λ g b.
          listed s _ stop end j _ (trace_of (read avails _ (bit s) stop j)) refl (omega arith) e
          (omega (arith, covers avails _ (bit s) stop j i (trace_of (read avails _ (bit s) stop j)) q));
    }))))))))
    (λ (p : num (bit s) 153 1 ≡ 1).
    sub
    (arm_last true (ap (λ (v : ℕ). eqb v 1) p)
    (some
    (λ j e.
    sub_last
    (some
    (λ i q end d.
    record {
      count = uncounted (bind (flagged []) (bit s) 112 env) (bit s) stop j ∙ rw (sym cancels ∙ h, sym program ∙ p);
      immediate = λ g. ap (λ (v : ℕ). eqb v 1) soon;
      components = λ g b. absurd (false≢true (sym b ∙ ap (λ (v : ℕ). eqb v 1) (sym program ∙ p)));
    }))))))
    (zero_or_one s 153))))
    (λ (h : num (bit s) 144 1 ≡ 1).
    arm_last false (ap (λ (v : ℕ). eqb v 0) h)
    (over
    (λ end d.
    record {
      count = rw (sym cancels ∙ h);
      immediate = λ g. absurd (false≢true (sym g ∙ ap (λ (v : ℕ). eqb v 1) (sym cancels ∙ h)));
      components = λ g. absurd (false≢true (sym g ∙ ap (λ (v : ℕ). eqb v 1) (sym cancels ∙ h)));
    })))
    (zero_or_one s 144))
