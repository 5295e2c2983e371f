-- `fields::has_room` meets its contract: each test is one of the definition's.
-- Assumes nothing.
use mathlib.Core.Path.{◌≡◌}
use mathlib.Core.Bool.{false}
use Prim.Native.Nat.{◌+◌, ◌*◌, ◌≤◌, ◌<◌}
use lib.ListN.{length}
use lib.Dec.{leb}
use borrow.Author.Tests.{le-leb, lt-leb}
use Rattle.fields.specs.Fields.{Plan, roomy}
use Rattle.fields.proofs.has_room.Goals as goal

-- too long; past its end; by the place
long : (π : Plan) → 32768 < length π.widths → false ≡ roomy π
unfolding roomy
long π h = rw (lt-leb (length π.widths) 32768 h)

past : (π : Plan) → length π.widths ≤ 32768 → length π.widths < π.number → false ≡ roomy π
unfolding roomy
past π h l = rw (le-leb (length π.widths) 32768 h, lt-leb π.number (length π.widths) l)

inside : (π : Plan) → length π.widths ≤ 32768 → π.number ≤ length π.widths → leb π.at (104 + 255 * π.number) ≡ roomy π
unfolding roomy
inside π h l = rw (le-leb (length π.widths) 32768 h, le-leb π.number (length π.widths) l)

pub returns-then-widths-gt-MOST_FIELDS : goal.returns-then-widths-gt-MOST_FIELDS
returns-then-widths-gt-MOST_FIELDS c = long _ c.if-widths-gt-MOST_FIELDS.true

pub returns-then-widths-p : goal.returns-then-widths-p
returns-then-widths-p c = past _ c.if-widths-gt-MOST_FIELDS.false c.if-widths-p.true

pub returns : goal.returns
returns c = inside _ c.if-widths-gt-MOST_FIELDS.false c.if-widths-p.false
