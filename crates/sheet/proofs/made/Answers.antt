-- `sheet::made` meets its contract: the bytes that the numbers make count if they are a section with that sheet.
-- Assumes nothing.
use mathlib.Core.Path.{◌≡◌, sym, ap, ◌∙◌}
use mathlib.Core.Bool.{true}
use mathlib.Core.List.{List}
use Prim.Native.Nat.{ℕ}
use native.Mathlib.Omega.{arith}
use lib.ListN.{length, take}
use lib.Seq.{length-take-le}
use Rattle.std.specs.Prelude.{Ok}
use Rattle.sheet.specs.Sheet.{filled, summed, is_sheet_of}
use Rattle.sheet.proofs.Rows.{not_it, put_there, put_nowhere}
use Rattle.sheet.proofs.made.Goals as goal

pub slice_bounds-is_sheet_of-end-2 : goal.slice_bounds-is_sheet_of-end-2
slice_bounds-is_sheet_of-end-2 c =
    let made : List ℕ = take c.args.n c.compose.new.memory in
    let long : length (made) ≡ c.args.n = length-take-le c.args.n c.compose.new.memory (omega (arith, c.requires.2)) in
    sym (long)

pub returns-then-not-is_sheet_of : goal.returns-then-not-is_sheet_of
returns-then-not-is_sheet_of c =
    let defined : List ℕ = let a = c.args in
    take a.n (summed a.n (filled a.sheet.now a.n a.widths.now a.memory.now)) in
    let made : List ℕ = take c.args.n c.compose.new.memory in
    let same_bytes : made ≡ defined = ap (take c.args.n) c.compose.ensures in
    let a = c.args in
    not_it a.sheet.now (defined) a.out.now
    (ap (is_sheet_of a.sheet.now) (sym (same_bytes)) ∙ sym c.is_sheet_of.ensures ∙ c.if-not-is_sheet_of.true)

pub slice_bounds-put-end-2 : goal.slice_bounds-put-end-2
slice_bounds-put-end-2 c =
    let made : List ℕ = take c.args.n c.compose.new.memory in
    let long : length (made) ≡ c.args.n = length-take-le c.args.n c.compose.new.memory (omega (arith, c.requires.2)) in
    sym (long)

pub returns-then-put : goal.returns-then-put
returns-then-put c =
    let made : List ℕ = take c.args.n c.compose.new.memory in
    let defined : List ℕ = let a = c.args in
    take a.n (summed a.n (filled a.sheet.now a.n a.widths.now a.memory.now)) in
    let same_bytes : made ≡ defined = ap (take c.args.n) c.compose.ensures in
    let long : length (made) ≡ c.args.n = length-take-le c.args.n c.compose.new.memory (omega (arith, c.requires.2)) in
    let it-is : is_sheet_of c.args.sheet.now (defined) ≡ true = let a = c.args in
    let is-sheet-of = c.is_sheet_of in
    ap (is_sheet_of a.sheet.now) (sym (same_bytes))
    ∙ sym is-sheet-of.ensures
    ∙ c.if-not-is_sheet_of.false in
    let put = c.put in
    let a = c.args in
    let size : length (defined) ≡ a.n = sym (ap length (same_bytes)) ∙ long in
    let is = put_there a.sheet.now (defined) a.out.now (it-is) (made) (same_bytes) (sym put.ensures.0 ∙ c.if-put.true) in
    record { answers = ap Ok (sym size) ∙ is.answers; holds = put.ensures.1 ∙ is.holds }

pub returns-else-put : goal.returns-else-put
returns-else-put c =
    let made : List ℕ = take c.args.n c.compose.new.memory in
    let defined : List ℕ = let a = c.args in
    take a.n (summed a.n (filled a.sheet.now a.n a.widths.now a.memory.now)) in
    let same_bytes : made ≡ defined = ap (take c.args.n) c.compose.ensures in
    let it-is : is_sheet_of c.args.sheet.now (defined) ≡ true = let a = c.args in
    let is-sheet-of = c.is_sheet_of in
    ap (is_sheet_of a.sheet.now) (sym (same_bytes))
    ∙ sym is-sheet-of.ensures
    ∙ c.if-not-is_sheet_of.false in
    let put = c.put in
    let a = c.args in
    let is = put_nowhere a.sheet.now (defined) a.out.now (it-is) (made) (same_bytes) (sym put.ensures.0 ∙ c.if-put.false) in
    record { answers = is.answers; holds = put.ensures.1 ∙ is.holds }
