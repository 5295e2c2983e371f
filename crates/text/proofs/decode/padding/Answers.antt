-- `text::decode::padding` meets its contract: each answer is a case of the text's last two characters.
-- Assumes nothing.
use mathlib.Core.Path.{sym}
use native.Mathlib.Omega.{arith}
use Rattle.base64_rules.proofs.Padding.{padding_empty, padding_none, padding_one, padding_two}
use Rattle.text.proofs.decode.padding.Goals as goal

pub returns-then-n-lt4 : goal.returns-then-n-lt4
returns-then-n-lt4 c = sym (padding_empty c.args.text.now (omega arith))

pub returns-then-text-n-ne61 : goal.returns-then-text-n-ne61
returns-then-text-n-ne61 c = sym (padding_none c.args.text.now c.if-text-n-ne61.true)

pub returns-then-text-n-ne61-2 : goal.returns-then-text-n-ne61-2
returns-then-text-n-ne61-2 c = sym (padding_one c.args.text.now c.if-text-n-ne61.false c.if-text-n-ne61-2.true)

pub returns : goal.returns
returns c = sym (padding_two c.args.text.now c.if-text-n-ne61.false c.if-text-n-ne61-2.false)
