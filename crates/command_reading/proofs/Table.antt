-- What was read of a section's command is what the table of its type reads.
-- Assumes nothing.
use mathlib.Core.Path.{◌≡◌, refl, ap}
use mathlib.Core.Bool.{Bool, true, false, cond}
use mathlib.Core.List.{List}
use Prim.Native.Nat.{ℕ, ◌+◌, ◌-◌, ◌*◌, ◌≤◌}
use native.Mathlib.Omega.{arith}
use lib.ListN.{length}
use lib.Dec.{leb, eqb}
use borrow.Author.Tests.{leb-true}
use Rattle.bits.specs.Bits.{bit, num}
use Rattle.bits.proofs.Cases.{and_left, and_right}
use Rattle.grammar.specs.Syntax.{Test, Prog, done, stop, branch}
use Rattle.grammar.specs.Meaning.{Env, value_of, holds, Reading, broken, reached, read}
use Rattle.grammar.specs.Tables.{bytes, private_command, command, sized_command, splice_schedule, splice_insert, splice_time}
use Rattle.grammar.specs.Traces.{Trace}
use Rattle.grammar.proofs.Readings.{Reads, arm_parts, frame_parts}
use Rattle.commands.specs.Command.{known, table_of}
use Rattle.command_reading.specs.Command.{is_of_size, command_reading}

module _ (env : Env) (f : ℕ → ℕ) (end k j : ℕ) (t : Trace) where
  -- a reading by p
  abbrev By : Prog → Type 0
  By p = Reads p env f end k j t

  -- nothing is read where nothing is allowed
  never : {A : Type 0} → By stop → A
  unfolding read
  never q = let e : ◌≡◌ {A = Reading} (broken 0) (reached j t) = q.reads in let z : ◌≡◌ {A = ℕ} 0 1 = cc in absurd (omega arith)

  -- a choice of tables, as the branch picks it
  pick : {c : Test} {a b x : Prog} (u : Bool) → By (branch c a b done) → holds c env end k ≡ u → (By b → By x) → By (cond u a x)
  pick true q e h = arm_parts true q e
  pick false q e h = h (arm_parts false q e)

  -- another table in the last place
  instead : (a : Prog) {x y : Prog} (u : Bool) → (By x → By y) → By (cond u a x) → By (cond u a y)
  instead a true h q = q
  instead a false h q = h q

  by_type : (private_one otherwise : Prog) (v : ℕ) → value_of env "splice_command_type" ≡ v → By (command private_one otherwise)
      → By (table_of v private_one otherwise)
  unfolding command table_of
  by_type private_one otherwise v e q =
      let is-it : (w : ℕ) → eqb (value_of env "splice_command_type") w ≡ eqb v w = λ w. ap (λ (x : ℕ). eqb x w) e in
      pick (eqb v 0x00) q (is-it 0x00)
      (λ q. pick (eqb v 0x04) q (is-it 0x04)
      (λ q. pick (eqb v 0x05) q (is-it 0x05)
      (λ q. pick (eqb v 0x06) q (is-it 0x06)
      (λ q. pick (eqb v 0x07) q (is-it 0x07)
      (λ q. pick (eqb v 0xFF) q (is-it 0xFF) (λ q. q))))))

  -- a type whose end the table finds has the same table either way
  found : (v : ℕ) → By (table_of v stop stop) → By (table_of v private_command (bytes "command_byte"))
  unfolding table_of
  found v q =
      instead done (eqb v 0x00)
      (λ q. instead splice_schedule (eqb v 0x04)
      (λ q. instead splice_insert (eqb v 0x05)
      (λ q. instead splice_time (eqb v 0x06)
      (λ q. instead done (eqb v 0x07) (λ q. none private_command (bytes "command_byte") (eqb v 0xFF) q) q) q) q) q) q
    where
      none : (x y : Prog) (u : Bool) → By (cond u stop stop) → By (cond u x y)
      none x y true q = never q
      none x y false q = never q

-- how the command of a section was read, up to place j
pub record Read (s : List ℕ) (j : ℕ) (t : Trace) : Type 0 where
  pub stop : ℕ
  pub long : 20 ≤ length s
  pub fits : length s ≤ 4096
  pub starts : 112 ≤ stop
  pub inside : stop ≤ 8 * (length s - 4)
  pub octets : ℕ
  pub whole : stop ≡ 8 * octets
  pub reads : read (table_of (num (bit s) 104 8) private_command (bytes "command_byte")) (known s) (bit s) stop 112 ≡ reached j t

of_size : (s : List ℕ) → is_of_size s ≡ true → (20 ≤ length s) × (length s ≤ 4096)
of_size s h = (
  leb-true 20 (length s) (and_left (leb 20 (length s)) (leb (length s) 4096) h),
  leb-true (length s) 4096 (and_right (leb 20 (length s)) (leb (length s) 4096) h),
)

pub table_read : (s : List ℕ) (j : ℕ) (t : Trace) → command_reading s ≡ reached j t → Read s j t
unfolding command_reading sized_command known
table_read s j t e = go (is_of_size s) refl e
  where
    type : ℕ
    type = num (bit s) 104 8

    of : (20 ≤ length s) × (length s ≤ 4096) → (u : Bool) → eqb (value_of (known s) "splice_command_length") 0xFFF ≡ u
        → Reads sized_command (known s) (bit s) (8 * (length s - 4)) 112 j t → Read s j t
    of size true h q =
        record {
          stop = 8 * (length s - 4);
          long = size.0;
          fits = size.1;
          starts = omega arith;
          inside = omega arith;
          octets = length s - 4;
          whole = refl;
          reads =
              (found (known s) (bit s) (8 * (length s - 4)) 112 j t type
              (by_type (known s) (bit s) (8 * (length s - 4)) 112 j t stop stop type refl (arm_parts true q h))).reads;
        }
    of size false h q =
        let part = frame_parts (arm_parts false q h) in
        record {
          stop = 112 + 8 * value_of (known s) "splice_command_length";
          long = size.0;
          fits = size.1;
          starts = omega arith;
          inside = part.2;
          octets = 14 + value_of (known s) "splice_command_length";
          whole = omega arith;
          reads =
              (by_type (known s) (bit s) (112 + 8 * value_of (known s) "splice_command_length") 112 j t private_command (bytes "command_byte") type refl
              part.0).reads;
        }

    go : (b : Bool) → is_of_size s ≡ b → cond b (read sized_command (known s) (bit s) (8 * (length s - 4)) (8 * 14)) (broken 0) ≡ reached j t → Read s j t
    go true h q = of (of_size s h) (eqb (value_of (known s) "splice_command_length") 0xFFF) refl (record { reads = q })
    go false h q = let z : ◌≡◌ {A = ℕ} 0 1 = cc in absurd (omega arith)
