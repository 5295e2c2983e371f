-- A run of values in lent memory whose last ones are stored first: then the values before them fill the front.
-- Assumes nothing.
use mathlib.Core.Path.{◌≡◌}
use mathlib.Core.List.{List, ◌++◌, append_assoc}
use Prim.Native.Nat.{ℕ, zero, suc, ◌+◌, ◌≤◌}
use native.Mathlib.Nat.{add-zero, zero-add, suc-add}
use native.Mathlib.Omega.{arith}
use lib.ListN.{length, take, drop, set}
use lib.Seq.{sets, sets-eq, length-take-le, drop_at}
use Rattle.bits.specs.Bits.{run}
use Rattle.bits.proofs.Bytes.{length_run}
use Rattle.units.specs.Answers.{memory}

module _ (g : ℕ → ℕ) where
  -- four stores, one after another
  pub four_stored : (lent : List ℕ) (n a b c d : ℕ) → a ≡ g n → b ≡ g (n + 1) → c ≡ g (n + 2) → d ≡ g (n + 3)
      → set (set (set (set lent n a) (n + 1) b) (n + 2) c) (n + 3) d ≡ sets lent n (run g n 4)
  unfolding run
  four_stored lent n a b c d ea eb ec ed =
      let one : n + 1 ≡ suc n = omega arith in
      let two : n + 2 ≡ suc (suc n) = omega arith in
      let three : n + 3 ≡ suc (suc (suc n)) = omega arith in
      rw (ea, eb, ec, ed, one, two, three)

  -- a run, and the one that follows it
  run_append : (i n m : ℕ) → run g i (n + m) ≡ run g i n ++ run g (i + n) m
  unfolding run
  run_append i zero m = rw (zero-add, add-zero)
  run_append i (suc n) m =
      let next : i + suc n ≡ suc i + n = omega arith in
      rw (suc-add, next, run_append (suc i) n m)

  -- the front is filled up to what was stored
  pub front_filled : (lent : List ℕ) (n k : ℕ) → n + k ≤ length lent
      → memory 0 (run g 0 n) (sets lent n (run g n k)) ≡ memory 0 (run g 0 (n + k)) lent
  front_filled lent n k h =
      let short : n + length (run g n k) ≤ length lent = omega (arith, length_run g n k) in
      let after = drop (n + k) lent in
      rw (
        length_run g 0 n,
        length_run g 0 (n + k),
        run_append 0 n k,
        zero-add n,
        sets-eq (run g n k) lent n short,
        length_run g n k,
        append_assoc (take n lent) (run g n k) after,
        append_assoc (run g 0 n) (run g n k) after,
        drop_at (take n lent) (run g n k ++ after) n (length-take-le n lent (omega arith)),
      )
