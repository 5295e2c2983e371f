-- `descriptors::kind_of` meets its contract: where the identifier is not there, no kind is known.
-- Assumes nothing.
use mathlib.Core.Path.{sym}
use native.Mathlib.Omega.{arith}
use Rattle.descriptors.proofs.ByKind.{too_few}
use Rattle.descriptors.proofs.kind_of.Goals as goal

pub returns-then-s-lt6 : goal.returns-then-s-lt6
returns-then-s-lt6 c = sym (too_few _ _ (omega arith))

pub returns-then-s-at : goal.returns-then-s-at
returns-then-s-at c = sym (too_few _ _ (omega arith))

pub returns : goal.returns
returns c = c.kind_at.ensures
