use Rattle.std.proofs.Common.{◌≡◌, ◌+◌, ◌*◌, ◌≤◌, length, drop, take, ◌++◌}
use Rattle.bits.specs.Bits.{read_all}
use Rattle.sheet_reading.proofs.read_fields.Given as goal

abbrev pub invariant-loop-i : goal.invariant-loop-i
invariant-loop-i l =
    (l.place ≤ l.at + 255 * l.i) × (length l.out ≡ length l.initial.out)
    × (take l.i l.out ++ read_all l.section l.place (drop l.i l.widths) ≡ read_all l.section l.at l.widths)
