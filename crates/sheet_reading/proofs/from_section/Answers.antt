-- `sheet_reading::from_section` meets its contract: an accepted section has memory for its fields.
-- Assumes nothing.
use mathlib.Core.Path.{◌≡◌}
use native.Mathlib.Omega.{arith}
use Rattle.std.specs.Prelude.{Ok}
use Rattle.section.specs.Accept.{accept_of}
use Rattle.section.proofs.Accepted.{accepted}
use Rattle.sheet_reading.proofs.from_section.Goals as goal

pub numbers-requires : goal.numbers-requires
numbers-requires c =
    let if1 = c.if-section-le256 in
    let e : accept_of c.args.section.now ≡ Ok tt = grind arith in
    (e, omega (arith, if1.true, (accepted _ e).fits), omega arith)

pub numbers-requires-2 : goal.numbers-requires-2
numbers-requires-2 c =
    let if1 = c.if-section-le256 in
    let e : accept_of c.args.section.now ≡ Ok tt = grind arith in
    (e, omega (arith, if1.false, (accepted _ e).fits), omega arith)
