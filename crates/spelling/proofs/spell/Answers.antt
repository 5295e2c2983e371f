-- `spelling::spell` meets its contract, by whether the line's characters fit.
-- Assumes nothing.
use mathlib.Core.Path.{sym, ap, ◌∙◌}
use Rattle.std.specs.Prelude.{Ok}
use Rattle.units.proofs.Put.{all, front, front_inside, front_count}
use Rattle.spelling.proofs.Spelled.{short, put_there, put_nowhere}
use Rattle.spelling.proofs.spell.Goals as goal

pub slice_bounds-characters-end : goal.slice_bounds-characters-end
slice_bounds-characters-end c = front_inside c.put-n.ensures (short c.args.line)

pub slice_bounds-put-end-2 : goal.slice_bounds-put-end-2
slice_bounds-put-end-2 c = front_count c.put-n.ensures (short c.args.line)

pub returns-then-put : goal.returns-then-put
returns-then-put c =
    let put2 = c.put in
    let put = c.put-n in
    let a = c.args in
    let few = short a.line in
    let is = put_there a.line a.out.now _ (front put.ensures few) (sym put2.ensures.0 ∙ c.if-put.true) in
    (ap Ok (all put.ensures few) ∙ is.0, put2.ensures.1 ∙ is.1)

pub returns-else-put : goal.returns-else-put
returns-else-put c =
    let put2 = c.put in
    let put = c.put-n in
    let a = c.args in
    let is = put_nowhere a.line a.out.now _ (front put.ensures (short a.line)) (sym put2.ensures.0 ∙ c.if-put.false) in
    (is.0, put2.ensures.1 ∙ is.1)
