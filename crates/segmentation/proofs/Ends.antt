-- Where a segmentation descriptor ends: the run of Table 20 where the part lies within the bytes, and a breach elsewhere.
-- Assumes nothing.
use mathlib.Core.Path.{◌≡◌, refl, sym, ◌∙◌}
use mathlib.Core.List.{List, []}
use Prim.Native.Nat.{ℕ, ◌*◌, ◌≤◌, ◌<◌}
use lib.ListN.{length}
use borrow.Author.Tests.{le-leb, lt-leb}
use Rattle.bits.specs.Bits.{bit}
use Rattle.grammar.specs.Meaning.{Env, Outcome, breach, run}
use Rattle.grammar.specs.Tables.{delivery, segmentation_components, segmentation_end, segmentation_descriptor}
use Rattle.grammar.proofs.Run.{Runs}
use Rattle.grammar.proofs.Scope.{scoped, same_run}
use Rattle.segmentation.specs.Segmentation.{segmentation_end_at}

module _ (s : List ℕ) (at end : ℕ) where
  pub crossed : end < at → segmentation_end_at s at end ≡ breach 0
  unfolding segmentation_end_at
  crossed h = rw (lt-leb at end h)

  pub too_long : at ≤ end → length s < end → segmentation_end_at s at end ≡ breach 0
  unfolding segmentation_end_at
  too_long h l = rw (le-leb at end h, lt-leb end (length s) l)

  pub in_bytes : at ≤ end → end ≤ length s → segmentation_end_at s at end ≡ run segmentation_descriptor [] (bit s) (8 * end) (8 * at)
  unfolding segmentation_end_at
  in_bytes h l = rw (le-leb at end h, le-leb end (length s) l)

  -- whatever was read before
  pub runs : {o : Outcome} → at ≤ end → end ≤ length s → o ≡ segmentation_end_at s at end → (env : Env) → Runs segmentation_descriptor env (bit s) (8 * end) (8 * at) o
  unfolding scoped delivery segmentation_components segmentation_end segmentation_descriptor
  runs h l e env = record { runs = sym (e ∙ in_bytes h l ∙ same_run segmentation_descriptor refl [] env (bit s) (8 * end) (8 * at)) }
