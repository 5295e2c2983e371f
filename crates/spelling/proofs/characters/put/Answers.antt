-- `spelling::characters::put` meets its contract.
-- Assumes nothing.
use mathlib.Core.Path.{sym, ap, ◌∙◌}
use Rattle.spelling.specs.Spelling.{numbered, spelled}
use Rattle.units.proofs.Put.{told}
use Rattle.spelling.proofs.characters.put.Goals as goal

pub returns-in-Measured : goal.returns-in-Measured
returns-in-Measured c = told (sym (ap spelled c.in-Measured.is)) c.number.ensures

pub returns-in-Unmeasured : goal.returns-in-Unmeasured
returns-in-Unmeasured c = told (sym (ap spelled c.in-Unmeasured.is)) c.letter.ensures

pub returns-in-None : goal.returns-in-None
returns-in-None c = told (sym (ap spelled c.in-None.is)) c.letter-in-None.ensures

pub returns-in-Unread : goal.returns-in-Unread
returns-in-Unread c = told (sym (ap spelled c.in-Unread.is)) c.letter-in-Unread.ensures

pub returns-in-Refused : goal.returns-in-Refused
returns-in-Refused c =
    told (ap (numbered 82) c.number-in-Refused.ensures ∙ sym (ap spelled c.in-Refused.is)) c.number-in-Refused-2.ensures
