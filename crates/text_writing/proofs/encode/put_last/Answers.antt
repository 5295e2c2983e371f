-- `text_writing::encode::put_last` meets its contract: each of the four stores is of the character that the definition has there.
-- Assumes nothing.
use mathlib.Core.Path.{refl, sym, ap, ◌∙◌}
use mathlib.Core.Bool.{cond}
use Prim.Native.Nat.{ℕ, ◌+◌, ◌*◌, ◌<◌}
use native.Mathlib.Omega.{arith}
use lib.Dec.{ltb}
use lib.ListN.{get_or}
use Rattle.base64_rules.specs.Base64.{character_at}
use Rattle.base64_rules.proofs.TextBits.{character_at_past}
use Rattle.text_writing.proofs.LastFirst.{four_stored}
use Rattle.text_writing.proofs.Letters.{first_letter, second_letter, last_letter}
use Rattle.text_writing.proofs.encode.put_last.Goals as goal

pub returns : goal.returns
returns c =
    let start = c.args in
    let s = start.section.now in
    let q = start.whole in
    let a_lt : get_or s (3 * q) 0 < 256 = omega (arith, (c.type_inv.section (3 * q)).fits) in
    let b = c.byte-b.ensures in
    four_stored (character_at s) _ (4 * q) _ _ _ _
    (c.character-first.ensures ∙ first_letter s q _ refl a_lt (omega arith))
    (c.character-second.ensures ∙ second_letter s q _ _ refl b.0 a_lt b.1 (omega arith))
    (c.padded.ensures ∙ ap (λ (x : ℕ). cond (ltb 1 start.left) x 61) c.character-third.ensures
    ∙ last_letter s q _ start.left b.0 b.1 (omega arith) (omega arith))
    (sym (character_at_past s (4 * q + 3) (omega arith)))
