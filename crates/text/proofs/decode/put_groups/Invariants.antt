use mathlib.Core.Path.{◌≡◌}
use Prim.Native.Nat.{ℕ, ◌*◌, ◌<◌}
use lib.ListN.{get_or}
use Rattle.bits.specs.Bits.{run, byte_of}
use Rattle.units.specs.Answers.{memory}
use Rattle.base64_rules.specs.Base64.{sextet}
use Rattle.text.specs.Text.{text_bit}
use Rattle.text.proofs.decode.put_groups.Given as goal

abbrev pub invariant-loop-q : goal.invariant-loop-q
invariant-loop-q l =
    ((i : ℕ) → i < 4 * l.q → i < l.n → sextet (get_or l.text i 0) < 64)
    × (l.own ≡ memory 0 (run (byte_of (text_bit l.text)) 0 (3 * l.q)) l.initial.own)
