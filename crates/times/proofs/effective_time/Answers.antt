-- `times::effective_time` meets its contract.
-- Assumes nothing.
use Rattle.std.proofs.Common.{ℕ, sym, ap, ◌∙◌}
use Rattle.std.proofs.lemmas.Result.{err_from_is_err_and}
use Rattle.command_reading.specs.Command.{command}
use Rattle.opening.proofs.Asked.{when_open, when_refused}
use Rattle.times.specs.Times.{effective_by, effective_time}
use Rattle.times.proofs.Header.{adjustment_there}
use Rattle.times.proofs.effective_time.Goals as goal

pub returns-in_err-open : goal.returns-in_err-open
unfolding effective_time
returns-in_err-open c =
    let gone = err_from_is_err_and c.from_residual.result c.from_residual.ensures.1 in
    rw (gone.1, gone.2) (sym (when_refused _ _ _ (sym c.in_err-open.ensures)))

pub returns : goal.returns
unfolding effective_time
returns c =
    let s = c.args.section.now in
    let opened = sym c.in_ok-open.ensures in
    c.open_time.ensures
    ∙ ap (λ (n : ℕ). effective_by n (command s)) (c.read.ensures ∙ adjustment_there s c.in_ok-open.field-0 opened)
    ∙ sym (when_open _ _ _ opened)
