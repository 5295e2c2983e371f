-- `layout_descriptors::audio_descriptor` meets its contract: a group, then as many components as its count says.
-- Assumes nothing.
use mathlib.Core.Path.{refl, sym}
use Rattle.grammar.specs.Tables.{audio_descriptor}
use Rattle.fields.proofs.Lays.{finished, pass, many}
use Rattle.layout_descriptors.proofs.audio_descriptor.Goals as goal

pub returns-clause-lays : goal.returns-clause-lays
unfolding audio_descriptor
returns-clause-lays c =
    λ env end. pass c.lay.ensures.plan (many _ (sym c.value-audio_count.ensures) c.groups.ensures.plan (finished refl))
