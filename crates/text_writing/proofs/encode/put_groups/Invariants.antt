use mathlib.Core.Path.{◌≡◌}
use Prim.Native.Nat.{◌*◌}
use Rattle.bits.specs.Bits.{run}
use Rattle.units.specs.Answers.{memory}
use Rattle.base64_rules.specs.Base64.{character_at}
use Rattle.text_writing.proofs.encode.put_groups.Given as goal

abbrev pub invariant-loop-q : goal.invariant-loop-q
invariant-loop-q l = l.out ≡ memory 0 (run (character_at l.section) 0 (4 * l.q)) l.initial.out
