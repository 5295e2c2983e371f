-- What the end of an event tells (Tables 9 and 10): its values by their rows are its values by their places, counted back from where
-- it ends.
-- Assumes nothing.
use mathlib.Core.Path.{◌≡◌, refl, ap, ◌∙◌}
use mathlib.Core.Bool.{Bool, true, false, cond, ◌&&◌}
use mathlib.Core.List.{List, ◌++◌}
use Prim.Native.Nat.{ℕ, ◌+◌, ◌-◌, ◌*◌, ◌≤◌}
use Rattle.std.specs.Prelude.{Option, Some, None}
use native.Mathlib.Omega.{arith}
use lib.ListN.{length}
use lib.Dec.{eqb}
use Rattle.bits.specs.Bits.{bit, field_of}
use Rattle.bits.proofs.Cases.{and_left, and_right}
use Rattle.bits.proofs.Within.{there}
use Rattle.units.specs.Clock.{ticks}
use Rattle.grammar.specs.Syntax.{Item}
use Rattle.grammar.specs.Meaning.{Env, value_of, values}
use Rattle.grammar.specs.Tables.{break_duration, avail_numbers, avails}
use Rattle.grammar.specs.Traces.{Trace}
use Rattle.grammar.specs.Names.{Name, look, is_set}
use Rattle.grammar.proofs.Each.{Each}
use Rattle.grammar.proofs.Names.{other, look_past}
use Rattle.grammar.proofs.Telling.{Tells, rows, arm, over}
use Rattle.command_reading.specs.declared.answers.BreakDuration.{BreakDuration}
use Rattle.command_reading.specs.Command.{avails_of}
use Rattle.command_reading.specs.Places.{break_at, avails_at}
use Rattle.command_reading.proofs.Rows.{from, field_from, each_weaker}

-- the break of the rows t, where there is one
abbrev break_in : Trace → Bool → Option BreakDuration
break_in t flag = cond flag (Some (record { auto_return = is_set t "auto_return"; duration = ticks (look t "duration") })) None

-- the rows t of an event's end have the values that stand before byte `end`
pub record Before (s : List ℕ) (end : ℕ) (flag : Bool) (t : Trace) : Type 0 where
  pub break : break_in t flag ≡ break_at s (end - 9) flag
  pub program : look t "unique_program_id" ≡ field_of s (8 * (end - 4)) 16
  pub number : look t "avail_num" ≡ field_of s (8 * (end - 2)) 8
  pub expected : look t "avails_expected" ≡ field_of s (8 * (end - 1)) 8

-- where duration_flag was read before
pub avails_tell : (s : List ℕ) (env : Env) (stop k : ℕ) (flag : Bool) → stop ≤ 8 * length s → eqb (value_of env "duration_flag") 1 ≡ flag
    → Tells (λ j t. (end : ℕ) → j ≡ 8 * end → Before s end flag t) avails env (bit s) stop k
unfolding avails break_duration avail_numbers break_at values look
avails_tell s env stop k true fits e =
    arm true e
    (rows
    (λ m.
    over
    (rows
    (λ l.
    over
    (λ end q.
    let auto = there s k (8 * (end - 9)) 1 (omega arith) (omega arith) (omega arith) in
    let lasts = there s (k + 1 + 6) (8 * (end - 9) + 7) 33 (omega arith) (omega arith) (omega arith) in
    record {
      break = λ i. Some (record { auto_return = eqb (auto i) 1; duration = ticks (lasts i) });
      program = there s (k + 40) (8 * (end - 4)) 16 (omega arith) (omega arith) (omega arith);
      number = there s (k + 40 + 16) (8 * (end - 2)) 8 (omega arith) (omega arith) (omega arith);
      expected = there s (k + 40 + 16 + 8) (8 * (end - 1)) 8 (omega arith) (omega arith) (omega arith);
    })))))
avails_tell s env stop k false fits e =
    arm false e
    (over
    (rows
    (λ l.
    over
    (λ end q.
    record {
      break = refl;
      program = there s k (8 * (end - 4)) 16 (omega arith) (omega arith) (omega arith);
      number = there s (k + 16) (8 * (end - 2)) 8 (omega arith) (omega arith) (omega arith);
      expected = there s (k + 16 + 8) (8 * (end - 1)) 8 (omega arith) (omega arith) (omega arith);
    }))))

-- by the bytes from the ninth before the end on
pub avails_from : (s : List ℕ) (end : ℕ) (flag : Bool) → 9 ≤ end → end ≤ length s → avails_at (from s (end - 9)) 9 flag ≡ avails_at s end flag
unfolding avails_at break_at
avails_from s end flag h l = λ i.
    record {
      break_duration = cond flag (Some (record { auto_return = eqb (at 0 (8 * (end - 9)) 1 (omega arith) i) 1; duration = ticks (at 7 (8 * (end - 9) + 7) 33 refl i) })) None;
      unique_program_id = at 40 (8 * (end - 4)) 16 (omega arith) i;
      avail_num = at 56 (8 * (end - 2)) 8 (omega arith) i;
      avails_expected = at 64 (8 * (end - 1)) 8 (omega arith) i;
    }
  where
    at : (k p w : ℕ) → 8 * (end - 9) + k ≡ p → field_of (from s (end - 9)) k w ≡ field_of s p w
    at k p w e = field_from s (end - 9) k p w (omega arith) e

-- ---- with the event's rows before it

-- the row is none of an event's end
abbrev pub early : Item → Bool
early i =
    (other "auto_return" i && other "duration" i) && (other "unique_program_id" i && (other "avail_num" i && other "avails_expected" i))

pub avails_said : (s : List ℕ) (end : ℕ) (flag : Bool) (u t : Trace) → Each early u → is_set (u ++ t) "duration_flag" ≡ flag → Before s end flag t
    → avails_of (u ++ t) ≡ avails_at s end flag
unfolding avails_at
avails_said s end flag u t h d b =
    let auto = passed "auto_return" (λ i e. and_left (other "auto_return" i) _ (and_left (other "auto_return" i && other "duration" i) _ e)) in
    let lasts = passed "duration" (λ i e. and_right (other "auto_return" i) _ (and_left (other "auto_return" i && other "duration" i) _ e)) in
    λ i.
    record {
      break_duration =
          (ap (λ (x : Bool). break_in (u ++ t) x) d
          ∙ (λ j. cond flag (Some (record { auto_return = eqb (auto j) 1; duration = ticks (lasts j) })) None)
          ∙ b.break)
          i;
      unique_program_id = (passed "unique_program_id" (λ x e. and_left (other "unique_program_id" x) _ (last x e)) ∙ b.program) i;
      avail_num = (passed "avail_num" (λ x e. and_left (other "avail_num" x) _ (and_right (other "unique_program_id" x) _ (last x e))) ∙ b.number) i;
      avails_expected =
          (passed "avails_expected" (λ x e. and_right (other "avail_num" x) _ (and_right (other "unique_program_id" x) _ (last x e))) ∙ b.expected) i;
    }
  where
    -- what is looked for at the end is not found before
    passed : (n : Name) → ((i : Item) → early i ≡ true → other n i ≡ true) → look (u ++ t) n ≡ look t n
    passed n l = look_past n u t (each_weaker early (other n) l u h)

    last : (x : Item) → early x ≡ true → (other "unique_program_id" x && (other "avail_num" x && other "avails_expected" x)) ≡ true
    last x e = and_right (other "auto_return" x && other "duration" x) _ e
