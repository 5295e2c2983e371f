-- The other arm of a test on a descriptor's kind: what the definition says of it.
-- Assumes nothing.
use mathlib.Core.Path.{◌≡◌, refl}
use mathlib.Core.Bool.{false}
use Rattle.descriptors.specs.declared.Kind.{Kind}
use Rattle.breaks.specs.Signals.{is_segmentation}

pub no_segmentation : (k : Kind) → (k ≡ Kind.Segmentation → ⊥) → false ≡ is_segmentation k
no_segmentation Kind.Avail h = refl
no_segmentation Kind.Dtmf h = refl
no_segmentation Kind.Segmentation h = absurd (h refl)
no_segmentation Kind.Time h = refl
no_segmentation Kind.Audio h = refl
no_segmentation Kind.Unknown h = refl
