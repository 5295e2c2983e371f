-- `sheet_matching::lay_out` meets its contract: the plan of an accepted section is that of its sheet.
-- Assumes nothing.
use Rattle.sheet_reading.proofs.Plans.{laid_out}
use Rattle.sheet_matching.proofs.lay_out.Goals as goal

pub returns : goal.returns
returns c = laid_out _ _ c.requires.0 c.requires.1 c.requires.2 c.plan.ensures
