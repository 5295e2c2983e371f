use Rattle.std.proofs.Common.{◌≡◌, ◌+◌, ◌*◌, ◌≤◌, length, drop}
use Rattle.bits.specs.Bits.{write_all}
use Rattle.sheet.specs.Sheet.{pairs}
use Rattle.sheet.proofs.write_fields.Given as goal

abbrev pub invariant-loop-number : goal.invariant-loop-number
invariant-loop-number l =
    (goal.iterator-loop-number).can_next l.number-iterator ×
    (goal.iterator-loop-number).is_finite l.number-iterator
    × (l.place ≤ l.at + 255 * length l.yielded)
    × (write_all l.section l.place (pairs (drop (length l.yielded) l.widths) (drop (length l.yielded) l.sheet)) ≡ write_all l.initial.section l.at (pairs l.widths l.sheet))
