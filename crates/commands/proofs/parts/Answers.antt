-- `commands::parts` meets its contract. The loop's invariant: whatever the parts left end in, all of them end in.
-- Assumes nothing.
use Prim.Native.Nat.{◌*◌}
use Rattle.std.specs.Prelude.{Some, None}
use Rattle.bits.specs.Bits.{bit}
use Rattle.grammar.specs.Meaning.{run}
use Rattle.grammar.proofs.Run.{times}
use Rattle.commands.proofs.Lists.{one_more, one_broken}
use Rattle.commands.proofs.parts.Goals as goal

pub returns-in_err-next : goal.returns-in_err-next
returns-in_err-next g c p env said =
    let l = c.loop in
    let a = c.args.part in
    rw c.from_residual.ensures
    (one_broken c.args.count l.counter (run p env (bit a.s.now) (8 * a.end)) {o = times c.args.count (run p env (bit a.s.now) (8 * a.end)) (8 * a.at)} (8 * l.next)
    (l.invariant.1 p env said) c.loop-test.true (said _ None c.in_err-next.ensures).runs)

pub loop-preserved : goal.loop-preserved
loop-preserved g c =
    let l = c.loop in
    let a = c.args.part in (
      c.requires.within _ c.in_ok-next.next c.in_ok-next.ensures,
      λ p env said.
          one_more c.args.count l.counter (run p env (bit a.s.now) (8 * a.end)) {o = times c.args.count (run p env (bit a.s.now) (8 * a.end)) (8 * a.at)} (8 * l.next)
          (l.invariant.1 p env said) c.loop-test.true (said _ (Some c.in_ok-next.next) c.in_ok-next.ensures).runs,
    )
