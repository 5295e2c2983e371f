use Rattle.std.proofs.Common.{◌≡◌, ◌+◌, ◌*◌, ◌≤◌, length, drop}
use Rattle.bits.specs.Bits.{read_all}
use Rattle.sheet_matching.specs.Matching.{same}
use Rattle.sheet_matching.proofs.same_fields.Given as goal

abbrev pub invariant-loop-number : goal.invariant-loop-number
invariant-loop-number l =
    (goal.iterator-loop-number).can_next l.number-iterator ×
    (goal.iterator-loop-number).is_finite l.number-iterator
    × (l.place ≤ l.at + 255 * length l.yielded)
    × (same (read_all l.section l.place (drop (length l.yielded) l.widths)) (drop (length l.yielded) l.sheet) ≡ same (read_all l.section l.at l.widths) l.sheet)
