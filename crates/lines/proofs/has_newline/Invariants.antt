use mathlib.Core.Path.{◌≡◌}
use lib.Dec.{ltb}
use Rattle.lines.specs.Turns.{line_length}
use Rattle.lines.proofs.has_newline.Given as goal

abbrev pub invariant-loop-character : goal.invariant-loop-character
invariant-loop-character l = l.found ≡ ltb (line_length l.characters) l.character-index
