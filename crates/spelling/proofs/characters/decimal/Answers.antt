-- `spelling::characters::decimal` meets its contract. The invariant: the digits from place i on are written.
-- Assumes nothing.
use mathlib.Core.Path.{refl, sym, ap, ◌∙◌}
use mathlib.Core.List.{List, [], append-nil}
use Prim.Native.Nat.{ℕ, ◌+◌, ◌-◌, ◌%◌}
use native.Mathlib.Omega.{arith}
use lib.ListN.{length-set, take-append-drop}
use Rattle.spelling.proofs.Digits.{few, final, write_down, written}
use Rattle.spelling.proofs.characters.decimal.Goals as goal

pub loop-i-init : goal.loop-i-init
loop-i-init c =
    let a = c.args in
    let m : List ℕ = a.characters.now in
    let n : ℕ = c.places-count.result in (
      omega (arith, c.places-count.ensures, few 20 a.n),
      refl,
      record { done = []; all = sym (append-nil (final n a.n)); list = sym (take-append-drop (a.at + n) m) },
    )

pub loop-i-preserved : goal.loop-i-preserved
loop-i-preserved c =
    let loop = c.loop-i in
    let a = c.args in (
      loop.invariant.0,
      length-set loop.characters (a.at + (loop.i - 1)) (loop.rest % 10 + 48) ∙ loop.invariant.1,
      write_down loop.i (omega arith) (omega arith) loop.invariant.2,
    )

pub shape_of-characters : goal.shape_of-characters
shape_of-characters c = c.loop-i.invariant.1

pub returns : goal.returns
returns c =
    let loop = c.loop-i in
    let places = c.places-count in
    let a = c.args in
    record {
      place = ap (λ (k : ℕ). a.at + k) places.ensures;
      list = written (omega arith) places.ensures c.requires loop.invariant.2;
    }
