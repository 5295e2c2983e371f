-- `text::decode::group` meets its contract. The loop's invariant: v is what the characters passed make.
-- Assumes nothing.
use mathlib.Core.Path.{refl, sym, ap, ◌∙◌}
use Prim.Native.Nat.{◌+◌}
use native.Mathlib.Omega.{arith}
use Rattle.base64_rules.specs.Base64.{six}
use Rattle.text.specs.Groups.{plain, worth}
use Rattle.text.proofs.Groups.{worth_none, worth_more, room, laid, plain_in}
use Rattle.text.proofs.decode.group.Goals as goal

pub loop-c-init : goal.loop-c-init
loop-c-init c = worth_none _ _

pub overflow_mul-v : goal.overflow_mul-v
overflow_mul-v c =
    let start = c.args in
    omega
    (arith, room (plain start.text.now start.n) start.at c.loop-c.c-index _ _ 65 (omega arith) c.loop-c.invariant refl)

pub overflow_add-v : goal.overflow_add-v
overflow_add-v c =
    let start = c.args in
    omega
    (arith, room (plain start.text.now start.n) start.at c.loop-c.c-index _ _ _ (omega arith) c.loop-c.invariant c.six.ensures)

pub loop-c-preserved : goal.loop-c-preserved
loop-c-preserved c =
    let start = c.args in
    let in-text = plain_in start.text.now start.n in
    let here =
    laid (plain start.text.now start.n) start.at _ _ _ _ (sym (in-text start.at (omega arith))) (sym (in-text (start.at + 1) (omega arith)))
    c.plain.ensures c.plain-2.ensures
    c.loop-c.c-index (omega arith) in
    worth_more _ _ _ _ _ c.loop-c.invariant (c.six.ensures ∙ ap six here)

pub returns : goal.returns
returns c = c.loop-c.invariant ∙ ap (worth _ _) (omega arith)
