-- What contracts say of the numbers that are given and of the fields so far.
-- Assumes nothing.
use Rattle.std.specs.Prelude.{◌≡◌}
use Rattle.fields.specs.declared.Place.{Place}
use Rattle.fields.specs.declared.Numbers.{Numbers}
use Rattle.fields.specs.declared.Fields.{Fields}
use Rattle.fields.specs.Fields.{Source, Plan, source}

-- the numbers that stand there
abbrev pub given : Numbers → Source
given n = source n.section.now n.sheet.now

-- the plan of the fields so far
abbrev pub so_far : Fields → Plan
so_far f = record { at = f.at; number = f.number; widths = f.widths.now }

-- the place after them
abbrev pub after : Fields → Place
after f = record { at = f.at; number = f.number }

-- the widths stand in the memory that was lent
abbrev pub SameMemory : Fields → Fields → Type 0
SameMemory old new = new.widths.ghost_name ≡ old.widths.ghost_name
