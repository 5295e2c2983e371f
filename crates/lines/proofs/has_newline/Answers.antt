-- `lines::has_newline` meets its contract. The loop's invariant: `found` says whether the characters passed have a newline.
-- Assumes nothing.
use Rattle.std.proofs.Common.{Bool, ◌||◌, eqb, get_or, ap, ◌∙◌, arith}
use Rattle.lines.proofs.Turning.{newline_among}
use Rattle.lines.proofs.has_newline.Goals as goal

pub loop-character-preserved : goal.loop-character-preserved
loop-character-preserved c =
    let characters = c.args.characters.now in
    let k = c.loop-character.character-index in
    ap (λ (b : Bool). b || eqb (get_or characters k 0) 10) c.loop-character.invariant ∙ newline_among characters k (omega arith)
