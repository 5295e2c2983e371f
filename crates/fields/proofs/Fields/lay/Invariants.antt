use mathlib.Core.Path.{◌≡◌}
use Prim.Native.Nat.{◌+◌, ◌*◌, ◌≤◌}
use lib.ListN.{take}
use Rattle.fields.specs.Fields.{total}
use Rattle.fields.proofs.Fields.lay.Given as goal

abbrev pub invariant-loop-width : goal.invariant-loop-width
invariant-loop-width l =
    (l.at ≡ l.initial.at + total (take l.width-index l.more)) × (l.at ≤ l.initial.at + 255 * l.width-index)
