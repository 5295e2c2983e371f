-- `crc::turn` meets its contract. The loop's invariant: y is what the words passed have come to.
-- Assumes nothing.
use mathlib.Core.Path.{ap, ◌∙◌}
use mathlib.Core.List.{[], ◌∷◌}
use Prim.Native.Nat.{ℕ, ◌%◌, ◌^◌}
use native.Mathlib.Omega.{arith}
use Rattle.crc.proofs.Ahead.{come, come_none, come_more, come_two}
use Rattle.crc.proofs.turn.Goals as goal

pub loop-w-init : goal.loop-w-init
loop-w-init c = come_none _

pub loop-w-preserved : goal.loop-w-preserved
loop-w-preserved c =
    come_more (c.args.a ∷ c.args.b ∷ []) c.loop-w.w-index _ _ _ _ _ c.loop-w-test.element_fits.fits c.loop-w.invariant
    c.ahead.ensures c.ahead-in-loop-w.ensures c.ahead-in-loop-w-2.ensures c.ahead-in-loop-w-3.ensures

pub returns : goal.returns
returns c =
    c.low.ensures ∙ ap (λ (y : ℕ). y % 2 ^ 32) (c.loop-w.invariant ∙ ap (come _) (omega arith))
    ∙ come_two c.args.a c.args.b c.ranges.a.fits c.ranges.b.fits
