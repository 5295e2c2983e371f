-- `breaks::signal::opens` meets its contract: the type at its place is one that opens a break.
-- Assumes nothing.
use mathlib.Core.Path.{ap, ◌∙◌}
use Prim.Native.Nat.{ℕ, ◌*◌}
use Rattle.bits.specs.Bits.{field_of}
use Rattle.grammar.specs.Meaning.{is_among}
use Rattle.breaks.specs.Signals.{break_types}
use Rattle.breaks.proofs.signal.opens.Goals as goal

pub returns : goal.returns
returns c =
    let a = c.args in
    c.opens_break.ensures
    ∙ ap (λ (x : ℕ). is_among x break_types) (c.octet.ensures ∙ ap (λ (x : ℕ). field_of a.s.now (8 * x) 8) c.type_place.ensures)
