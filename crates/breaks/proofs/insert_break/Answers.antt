-- `breaks::insert_break` meets its contract: each flag at its place says what the insert says.
-- Assumes nothing.
use mathlib.Core.Path.{◌≡◌, sym, ap, ◌∙◌}
use mathlib.Core.Bool.{true, false}
use Prim.Native.Nat.{ℕ}
use Rattle.std.specs.Prelude.{Ok}
use Rattle.bits.specs.Bits.{flag_of}
use Rattle.units.specs.Clock.{ticks}
use Rattle.command_reading.specs.Places.{break_at, avails_at, insert_at}
use Rattle.breaks.specs.declared.Break.{Break}
use Rattle.breaks.proofs.insert_break.Goals as goal

pub returns-then-flag : goal.returns-then-flag
unfolding insert_at
returns-then-flag c ds = rw (sym c.flag.ensures ∙ c.if-flag.true)

pub returns-then-not-flag : goal.returns-then-not-flag
unfolding insert_at
returns-then-not-flag c ds =
    let kept : flag_of c.args.s.now 144 ≡ false = sym c.flag.ensures ∙ c.if-flag.false in
    rw (kept, sym c.flag-2.ensures ∙ c.if-not-flag.true)

pub returns-then-not-flag-2 : goal.returns-then-not-flag-2
unfolding avails_at break_at insert_at
returns-then-not-flag-2 c ds =
    let kept : flag_of c.args.s.now 144 ≡ false = sym c.flag.ensures ∙ c.if-flag.false in
    let out : flag_of c.args.s.now 152 ≡ true = sym c.flag-2.ensures ∙ c.if-not-flag.false in
    rw (kept, out, sym c.flag-3.ensures ∙ c.if-not-flag-2.true)

pub returns : goal.returns
unfolding avails_at break_at insert_at
returns c ds =
    let kept : flag_of c.args.s.now 144 ≡ false = sym c.flag.ensures ∙ c.if-flag.false in
    let out : flag_of c.args.s.now 152 ≡ true = sym c.flag-2.ensures ∙ c.if-not-flag.false in
    rw (kept, out, sym c.flag-3.ensures ∙ c.if-not-flag-2.false)
    (ap (λ (n : ℕ). Ok (Break.Measured (ticks n))) c.read.ensures)
