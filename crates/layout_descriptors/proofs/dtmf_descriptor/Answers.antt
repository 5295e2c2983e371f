-- `layout_descriptors::dtmf_descriptor` meets its contract: a group, then as many characters as its count says.
-- Assumes nothing.
use mathlib.Core.Path.{refl, sym}
use Rattle.grammar.specs.Tables.{dtmf_descriptor}
use Rattle.fields.proofs.Lays.{finished, pass, many}
use Rattle.layout_descriptors.proofs.dtmf_descriptor.Goals as goal

pub returns-clause-lays : goal.returns-clause-lays
unfolding dtmf_descriptor
returns-clause-lays c =
    λ env end. pass c.lay.ensures.plan (many _ (sym c.value-dtmf_count.ensures) c.groups.ensures.plan (finished refl))
