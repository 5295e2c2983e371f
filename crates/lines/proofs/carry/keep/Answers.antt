-- `lines::carry::keep` meets its contract: a part that fits is copied.
-- Assumes nothing.
use mathlib.Core.Path.{◌∙◌}
use Prim.Native.Nat.{◌+◌}
use native.Mathlib.Omega.{arith}
use lib.ListN.{length}
use borrow.Author.Tests.{le-leb}
use Rattle.units.proofs.Put.{put_between}
use Rattle.lines.proofs.Holding.{fit, no_fit}
use Rattle.lines.proofs.carry.keep.Goals as goal

pub returns-then-n-gt-MOST_TEXT : goal.returns-then-n-gt-MOST_TEXT
returns-then-n-gt-MOST_TEXT c =
    let a = c.args in
    no_fit a.held c.in-Characters.n c.in-Characters.is a.carry.now a.part.now (omega arith)

pub returns-then-n-part : goal.returns-then-n-part
returns-then-n-part c =
    let a = c.args in
    no_fit a.held c.in-Characters.n c.in-Characters.is a.carry.now a.part.now (omega arith)

pub returns : goal.returns
returns c =
    let a = c.args in
    let kept = fit a.held c.in-Characters.n c.in-Characters.is a.carry.now a.part.now (omega arith) in
    let room = le-leb (c.in-Characters.n + length a.part.now) (length a.carry.now) (omega arith) in
    (kept.0, c.put.ensures.1 ∙ put_between a.carry.now c.in-Characters.n a.part.now room ∙ kept.1)
