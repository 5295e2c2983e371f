-- `descriptors::audio_descriptor` meets its contract: a byte, and five bytes for each component that its upper four bits count.
-- Assumes nothing.
use mathlib.Core.Path.{refl}
use Prim.Native.Nat.{◌+◌, ◌*◌, ◌/◌, ◌<◌}
use native.Mathlib.Omega.{arith}
use lib.ListN.{get_or}
use Rattle.std.proofs.Common.{rules}
use Rattle.grammar.specs.Tables.{audio_descriptor}
use Rattle.grammar.proofs.Ending.{last_repeat}
use Rattle.grammar.proofs.Run.{pass, short}
use Rattle.grammar.proofs.Places.{upper}
use Rattle.descriptors.proofs.audio_descriptor.Goals as goal

pub returns-in_err-after : goal.returns-in_err-after
unfolding audio_descriptor
returns-in_err-after c env = rw c.from_residual.ensures (short (omega (arith, c.in_err-after.ensures.too_few)))

pub returns : goal.returns
unfolding audio_descriptor
returns c env =
    let a = c.args.part in
    let count = c.in_ok-after.ensures.there in
    let byte : get_or a.s.now a.at 0 < 256 = search rules in
    pass (omega (arith, count.0, count.1))
    (last_repeat a.at a.end (1 + 5 * (get_or a.s.now a.at 0 / 16)) (get_or a.s.now a.at 0 / 16) c.after-2.result c.after-2.ensures.there c.after-2.ensures.too_few
    (upper a.s.now a.at (8 * a.at) 4 4 byte refl refl) (omega (arith, count.0, count.1)) (omega arith))
