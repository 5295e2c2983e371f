-- `crc::spill` meets its contract. Assumes nothing.
use mathlib.Core.Path.{◌∙◌}
use Rattle.crc.proofs.Begun.{left}
use Rattle.crc.proofs.spill.Goals as goal

pub returns : goal.returns
returns c = c.low.ensures ∙ left c.args.m c.requires
