-- Where the first parts of a list end, as the code finds it: the bytes are there, and the parts were run through one by one.
-- Assumes nothing.
use mathlib.Core.Path.{◌≡◌, sym, ap, ap₂, ◌∙◌}
use mathlib.Core.Bool.{Bool, cond, ◌&&◌}
use mathlib.Core.List.{List}
use Prim.Native.Nat.{ℕ, ◌+◌, ◌-◌, ◌*◌, ◌≤◌, ◌<◌}
use native.Mathlib.Omega.{arith}
use lib.ListN.{length}
use lib.Dec.{leb}
use borrow.Author.Tests.{le-leb, lt-leb}
use Rattle.bits.specs.Bits.{bit}
use Rattle.std.specs.Prelude.{Some}
use Rattle.grammar.specs.declared.Part.{Part}
use Rattle.grammar.specs.Syntax.{Prog}
use Rattle.grammar.specs.Meaning.{Env, again, read, run, Outcome, breach, ends, end_of}
use Rattle.grammar.proofs.Within.{byte_within}
use Rattle.grammar.proofs.Ending.{Ends}
use Rattle.grammar.proofs.Run.{times, times_on_lem, times_off, end_again}
use Rattle.commands.specs.Command.{in_bytes}

module _ (p : Prog) (env : Env) (s : List ℕ) (at end n : ℕ) where
  -- where they end, if the bytes are there
  abbrev placed : Bool → Outcome
  placed there = cond there (end_of (again n (λ j. read p env (bit s) (8 * end) j) (8 * at))) (breach 0)

  pub listed : {o : Outcome} → at ≤ end → end ≤ length s → times n (run p env (bit s) (8 * end)) (8 * at) ≡ o → o ≡ placed (in_bytes s at end)
  unfolding run
  listed h l e =
      sym
      (ap placed (ap₂ ◌&&◌ (le-leb at end h) (le-leb end (length s) l))
      ∙ end_again n (λ j. read p env (bit s) (8 * end) j) (8 * at)
      ∙ e)

  pub crossed : end < at → breach 0 ≡ placed (in_bytes s at end)
  crossed h = sym (ap (λ (t : Bool). placed (t && leb end (length s))) (lt-leb at end h))

  pub too_long : at ≤ end → length s < end → breach 0 ≡ placed (in_bytes s at end)
  too_long h l = sym (ap placed (ap₂ ◌&&◌ (le-leb at end h) (lt-leb end (length s) l)))

-- of n parts the first i were run through, up to place k, and the others are still to run: one more of them, or it breaks a rule
module _ (n i : ℕ) (g : ℕ → Outcome) {o : Outcome} (k : ℕ) (so_far : o ≡ times (n - i) g k) (below : i < n) where
  pub one_more : {j : ℕ} → g k ≡ ends j → o ≡ times (n - (i + 1)) g j
  one_more {j} e =
      let fewer : n - i - 1 ≡ n - (i + 1) = omega arith in
      so_far ∙ times_on_lem (n - i) g k (omega arith) e ∙ ap (λ (m : ℕ). times m g j) fewer

  pub one_broken : {m : ℕ} → g k ≡ breach m → o ≡ breach m
  one_broken e = so_far ∙ times_off (n - i) g k (omega arith) e

-- a part that ends, ends within its bytes
pub ends_inside : (p : Prog) (env : Env) (part : Part) (n : ℕ) → Ends p env part (Some n) → n ≤ part.end
ends_inside p env part n r = (byte_within p env (bit part.s.now) part.end part.at n r.runs part.in_order).1
