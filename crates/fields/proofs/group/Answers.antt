-- `fields::group` meets its contract: where there is room for the place, the fields there lay the group out.
-- Assumes nothing.
use mathlib.Core.Path.{sym, ◌∙◌}
use borrow.Author.Rules.{rules}
use Rattle.fields.specs.Fields.{plan}
use Rattle.fields.proofs.Room.{has_room, kept_out}
use Rattle.fields.proofs.Entry.{entered}
use Rattle.fields.proofs.group.Goals as goal

pub returns-then-not-has_room : goal.returns-then-not-has_room
returns-then-not-has_room c = sym (kept_out _ _ (sym c.has_room.ensures ∙ c.if-not-has_room.true))

pub invariant_of-fields : goal.invariant_of-fields
invariant_of-fields c =
    let there = has_room (plan c.args.p c.args.widths.now) (sym c.has_room.ensures ∙ c.if-not-has_room.false) in
    record { fits = there.0; reached = there.1; short = there.2 }

pub returns : goal.returns
returns c =
    let same = sym c.lay.ensures.memory in
    entered _ _ c.lay.new.self (sym c.has_room.ensures ∙ c.if-not-has_room.false) c.place.ensures (search rules) c.lay.ensures.plan
