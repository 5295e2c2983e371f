-- `segmentation::is_sub_segmented` meets its contract: the arm's keys are the list's numbers.
-- Assumes nothing.
use mathlib.Core.Path.{refl, sym}
use mathlib.Core.List.{List, [], ◌∷◌}
use Prim.Native.Nat.{ℕ}
use Rattle.grammar.specs.Meaning.{is_among}
use Rattle.grammar.specs.Tables.{sub_segmented}
use Rattle.grammar.proofs.Keys.{one_of, none_of}
use Rattle.segmentation.proofs.is_sub_segmented.Goals as goal

abbrev keys : List ℕ
keys = 0x30 ∷ 0x32 ∷ 0x34 ∷ 0x36 ∷ 0x38 ∷ 0x3A ∷ 0x44 ∷ 0x46 ∷ []

pub returns-in-52 : goal.returns-in-52
returns-in-52 c =
    sym (one_of (λ (x : ℕ). is_among x sub_segmented) keys c.args.segmentation_type_id refl c.in-52.is)

pub returns-in_default : goal.returns-in_default
returns-in_default c =
    sym (none_of sub_segmented keys c.args.segmentation_type_id refl c.in_default.in_default-own.rest.1)
