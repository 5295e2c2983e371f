-- `spelling::characters::number` meets its contract.
-- Assumes nothing.
use mathlib.Core.Path.{◌≡◌, ◌∙◌}
use native.Mathlib.Omega.{arith}
use Prim.Native.Nat.{◌<◌}
use lib.ListN.{length, set, length-set}
use Rattle.spelling.proofs.Digits.{few}
use Rattle.units.proofs.Put.{one_more, after_two, as_long}
use Rattle.spelling.proofs.characters.number.Goals as goal

pub bounds-characters-1 : goal.bounds-characters-1
bounds-characters-1 c = omega (arith, length-set c.args.characters.now 0 c.args.letter)

pub decimal-end-requires : goal.decimal-end-requires
decimal-end-requires c =
    let a = c.args in
    omega (arith, length-set (set a.characters.now 0 a.letter) 1 32, length-set a.characters.now 0 a.letter)

pub bounds-characters-end : goal.bounds-characters-end
bounds-characters-end c =
    let same : length c.decimal-end.new.characters ≡ length c.args.characters.now = let a = c.args in
    as_long c.decimal-end.ensures ∙ length-set (set a.characters.now 0 a.letter) 1 32 ∙ length-set a.characters.now 0 a.letter in
    let inside : c.decimal-end.result < length c.decimal-end.new.characters = omega (arith, same, c.decimal-end.ensures.place, few 20 c.args.n) in
    inside

pub overflow_add-result : goal.overflow_add-result
overflow_add-result c =
    let same : length c.decimal-end.new.characters ≡ length c.args.characters.now = let a = c.args in
    as_long c.decimal-end.ensures ∙ length-set (set a.characters.now 0 a.letter) 1 32 ∙ length-set a.characters.now 0 a.letter in
    let inside : c.decimal-end.result < length c.decimal-end.new.characters = omega (arith, same, c.decimal-end.ensures.place, few 20 c.args.n) in
    omega (arith, inside, same)

pub shape_of-characters : goal.shape_of-characters
shape_of-characters c =
    let same : length c.decimal-end.new.characters ≡ length c.args.characters.now = let a = c.args in
    as_long c.decimal-end.ensures ∙ length-set (set a.characters.now 0 a.letter) 1 32 ∙ length-set a.characters.now 0 a.letter in
    length-set c.decimal-end.new.characters c.decimal-end.result 10 ∙ same

pub returns : goal.returns
returns c = after_two c.args.letter 32 (one_more 10 c.decimal-end.ensures)
