-- `sheet::to_section` meets its contract: too few or too many numbers are refused, and others have memory for a width a number.
-- Assumes nothing.
use mathlib.Core.Path.{sym, ap}
use mathlib.Core.Bool.{Bool, cond}
use native.Mathlib.Omega.{arith}
use lib.ListN.{length, replicate}
use borrow.Author.Tests.{le-leb, lt-leb}
use Rattle.sheet.proofs.Rows.{no_fit}
use Rattle.sheet.proofs.to_section.Goals as goal

pub returns-then-sheet-lt11 : goal.returns-then-sheet-lt11
returns-then-sheet-lt11 c =
    let a = c.args in
    no_fit a.sheet.now a.out.now (λ few many at number. omega (arith, few, c.if-sheet-lt11.true))

pub returns-then-sheet-gt-MOST_FIELDS : goal.returns-then-sheet-gt-MOST_FIELDS
returns-then-sheet-gt-MOST_FIELDS c =
    let a = c.args in
    no_fit a.sheet.now a.out.now (λ few many at number. omega (arith, many, c.if-sheet-gt-MOST_FIELDS.true))

pub bytes-requires : goal.bytes-requires
bytes-requires c =
    let if3 = c.if-sheet-le256 in
    let if2 = c.if-sheet-gt-MOST_FIELDS in
    let if1 = c.if-sheet-lt11 in
    let a = c.args in
    (if1.false, if2.false, sym (ap (λ (b : Bool). replicate (cond b 256 32768) 0) (le-leb (length a.sheet.now) 256 if3.true)))

pub bytes-requires-2 : goal.bytes-requires-2
bytes-requires-2 c =
    let if3 = c.if-sheet-le256 in
    let if2 = c.if-sheet-gt-MOST_FIELDS in
    let if1 = c.if-sheet-lt11 in
    let a = c.args in
    (if1.false, if2.false, sym (ap (λ (b : Bool). replicate (cond b 256 32768) 0) (lt-leb (length a.sheet.now) 256 if3.false)))
