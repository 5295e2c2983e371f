-- `descriptor_lists::parts::component_count` meets its contract: none where the descriptor is cancelled or the program is segmented.
-- Assumes nothing.
use mathlib.Core.Path.{sym, ◌∙◌}
use Rattle.descriptor_lists.proofs.parts.component_count.Goals as goal

pub returns-then-flag : goal.returns-then-flag
returns-then-flag c = rw (sym c.flag.ensures ∙ c.if-flag.true)

pub returns-then-flag-2 : goal.returns-then-flag-2
returns-then-flag-2 c = rw (sym c.flag.ensures ∙ c.if-flag.false, sym c.flag-2.ensures ∙ c.if-flag-2.true)

pub returns-else-flag-2 : goal.returns-else-flag-2
returns-else-flag-2 c =
    rw (sym c.flag.ensures ∙ c.if-flag.false, sym c.flag-2.ensures ∙ c.if-flag-2.false)
    c.octet.ensures
