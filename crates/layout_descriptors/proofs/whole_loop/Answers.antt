-- `layout_descriptors::whole_loop` meets its contract: the part that descriptor_loop_length gives, full of descriptors.
-- Assumes nothing.
use mathlib.Core.Path.{refl, sym, ap}
use Prim.Native.Nat.{ℕ, ◌+◌, ◌*◌}
use native.Mathlib.Omega.{arith}
use Rattle.grammar.specs.Tables.{descriptor_loop}
use Rattle.fields.proofs.Below.{below}
use Rattle.fields.proofs.Lays.{finished, pass, ruled, framed, filled}
use Rattle.layout_descriptors.proofs.whole_loop.Goals as goal

pub overflow_mul-end : goal.overflow_mul-end
overflow_mul-end c = omega (arith, below _ _ _ _ _ c.value-descriptor_loop_length.ensures)

pub overflow_add-end : goal.overflow_add-end
overflow_add-end c = omega (arith, below _ _ _ _ _ c.value-descriptor_loop_length.ensures)

pub returns-clause-lays : goal.returns-clause-lays
unfolding descriptor_loop
returns-clause-lays c =
    λ env end.
    pass c.lay.ensures.plan
    (framed _ (ap (λ (n : ℕ). c.lay.new.self.at + 8 * n) (sym c.value-descriptor_loop_length.ensures))
    (ruled (filled (c.splice_descriptors.ensures.lays _) (finished refl)) (finished refl)) (finished refl))
