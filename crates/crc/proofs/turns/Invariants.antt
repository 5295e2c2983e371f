use mathlib.Core.Path.{◌≡◌}
use Prim.Native.Nat.{◌-◌, ◌*◌, ◌%◌, ◌≤◌}
use lib.ListN.{length}
use lib.Bits.{bit_xor}
use Rattle.bits.specs.Bits.{bit}
use Rattle.crc_steps.specs.Steps.{zeros}
use Rattle.crc.specs.Crc.{register}
use Rattle.crc.proofs.turns.Given as goal

abbrev pub invariant-loop-i : goal.invariant-loop-i
invariant-loop-i l =
    (l.i ≤ length l.s) × ((length l.s - l.i) % 8 ≡ 0)
    × (bit_xor (bit_xor (zeros 64 l.a) (zeros 32 l.b)) l.more ≡ register (bit l.s) (8 * l.i))

abbrev pub decreases-loop-i : goal.decreases-loop-i
decreases-loop-i l = length l.s - l.i
