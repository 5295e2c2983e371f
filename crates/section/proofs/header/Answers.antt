-- `section::header` meets its contract: each test rules its row out.
-- Assumes nothing.
use mathlib.Core.Path.{◌≡◌, refl, sym, ap, ap₂, ◌∙◌}
use mathlib.Core.Bool.{Bool, not, ◌&&◌}
use mathlib.Core.List.{List}
use Prim.Native.Nat.{ℕ}
use native.Mathlib.Omega.{arith}
use lib.ListN.{length, take}
use Rattle.bits.proofs.Within.{field_there}
use lib.Dec.{ltb, eqb}
use borrow.Author.Tests.{lt-ltb, le-ltb, ne_eqb}
use Rattle.bits.proofs.Bytes.{AreBytes}
use Rattle.crc.specs.Crc.{crc32}
use Rattle.units.proofs.Rows.{Row, none, miss, hit}
use Rattle.std.specs.Prelude.{Result}
use Rattle.units.specs.declared.refusals.Refusal.{Refusal}
use Rattle.section.specs.Accept.{accept_rows, the, verdict}
use Rattle.section.specs.Judge.{header_row, header_of}
use Rattle.section.proofs.Rows.{table, no_table, syntax_clear, syntax_set, size, too_long, other_length, version_0, other_version, clear, sealed}
use Rattle.section.proofs.header.Goals as goal

-- a verdict is the one for the first row that applies
decide : (s : List ℕ) {r : Result (Unit {0}) Refusal} (n : ℕ) → Row (take 7 (accept_rows s)) n → r ≡ verdict n → r ≡ header_of s
unfolding header_of header_row
decide s n row e = e ∙ ap verdict (sym row.row)

pub returns-then-s-lt20 : goal.returns-then-s-lt20
unfolding verdict
returns-then-s-lt20 c =
    let s = c.args.s.now in
    let hs : AreBytes s = λ i. (c.type_inv.s i).fits in
    decide s 1 (hit (lt-ltb (length s) 20 c.if-s-lt20.true)) refl

pub returns-then-s : goal.returns-then-s
unfolding verdict
returns-then-s c =
    let s = c.args.s.now in
    let hs : AreBytes s = λ i. (c.type_inv.s i).fits in
    decide s 2 (miss (le-ltb (length s) 20 c.if-s-lt20.false)
    (hit (no_table s hs c.if-s.true))) refl

pub returns-then-s-ge64 : goal.returns-then-s-ge64
unfolding verdict
returns-then-s-ge64 c =
    let s = c.args.s.now in
    let hs : AreBytes s = λ i. (c.type_inv.s i).fits in
    decide s 3 (miss (le-ltb (length s) 20 c.if-s-lt20.false)
    (miss (table s hs c.if-s.false)
    (hit (syntax_set s hs c.if-s-ge64.true)))) refl

pub returns-then-section_length-gt4093 : goal.returns-then-section_length-gt4093
unfolding the verdict
returns-then-section_length-gt4093 c =
    let given-length : the c.args.s.now "section_length" ≡ c.twelve-section_length.result = let s = c.args.s.now in
    sym (c.twelve-section_length.ensures ∙ field_there s 12 12 (omega arith) (omega arith)) in
    let s = c.args.s.now in
    let hs : AreBytes s = λ i. (c.type_inv.s i).fits in
    decide s 4 (miss (le-ltb (length s) 20 c.if-s-lt20.false)
    (miss (table s hs c.if-s.false)
    (miss (syntax_clear s hs c.if-s-ge64.false)
    (hit (too_long s hs (omega (arith, given-length))))))) refl

pub returns-then-section_length-s : goal.returns-then-section_length-s
unfolding the verdict
returns-then-section_length-s c =
    let given-length : the c.args.s.now "section_length" ≡ c.twelve-section_length.result = let s = c.args.s.now in
    sym (c.twelve-section_length.ensures ∙ field_there s 12 12 (omega arith) (omega arith)) in
    let s = c.args.s.now in
    let hs : AreBytes s = λ i. (c.type_inv.s i).fits in
    decide s 4 (miss (le-ltb (length s) 20 c.if-s-lt20.false)
    (miss (table s hs c.if-s.false)
    (miss (syntax_clear s hs c.if-s-ge64.false)
    (hit (other_length s hs (omega (arith, given-length)) (λ q. c.if-section_length-s.true (omega (arith, q, given-length)))))))) refl

pub returns-then-crc-ne0 : goal.returns-then-crc-ne0
unfolding the verdict
returns-then-crc-ne0 c =
    let given-length : the c.args.s.now "section_length" ≡ c.twelve-section_length.result = let s = c.args.s.now in
    sym (c.twelve-section_length.ensures ∙ field_there s 12 12 (omega arith) (omega arith)) in
    let s = c.args.s.now in
    let hs : AreBytes s = λ i. (c.type_inv.s i).fits in
    decide s 5 (miss (le-ltb (length s) 20 c.if-s-lt20.false)
    (miss (table s hs c.if-s.false)
    (miss (syntax_clear s hs c.if-s-ge64.false)
    (miss (size s (omega (arith, given-length)) (omega (arith, given-length)))
    (hit (ap not (ne_eqb (crc32 s) 0 (λ q. c.if-crc-ne0.true (c.crc.ensures ∙ q))))))))) refl

pub returns-then-s-ne0 : goal.returns-then-s-ne0
unfolding the verdict
returns-then-s-ne0 c =
    let given-length : the c.args.s.now "section_length" ≡ c.twelve-section_length.result = let s = c.args.s.now in
    sym (c.twelve-section_length.ensures ∙ field_there s 12 12 (omega arith) (omega arith)) in
    let s = c.args.s.now in
    let hs : AreBytes s = λ i. (c.type_inv.s i).fits in
    decide s 6 (miss (le-ltb (length s) 20 c.if-s-lt20.false)
    (miss (table s hs c.if-s.false)
    (miss (syntax_clear s hs c.if-s-ge64.false)
    (miss (size s (omega (arith, given-length)) (omega (arith, given-length)))
    (miss (ap (λ (x : ℕ). not (eqb x 0)) (sym c.crc.ensures ∙ c.if-crc-ne0.false))
    (hit (other_version s hs c.if-s-ne0.true))))))) refl

pub returns-then-s-lt128 : goal.returns-then-s-lt128
unfolding the verdict
returns-then-s-lt128 c =
    let given-length : the c.args.s.now "section_length" ≡ c.twelve-section_length.result = let s = c.args.s.now in
    sym (c.twelve-section_length.ensures ∙ field_there s 12 12 (omega arith) (omega arith)) in
    let s = c.args.s.now in
    let hs : AreBytes s = λ i. (c.type_inv.s i).fits in
    decide s 0 (miss (le-ltb (length s) 20 c.if-s-lt20.false)
    (miss (table s hs c.if-s.false)
    (miss (syntax_clear s hs c.if-s-ge64.false)
    (miss (size s (omega (arith, given-length)) (omega (arith, given-length)))
    (miss (ap (λ (x : ℕ). not (eqb x 0)) (sym c.crc.ensures ∙ c.if-crc-ne0.false))
    (miss (version_0 s hs c.if-s-ne0.false)
    (miss (ap (λ (t : Bool). t && ltb (length s) 24) (clear s hs c.if-s-lt128.true))
    none))))))) refl

pub returns-then-s-lt24 : goal.returns-then-s-lt24
unfolding the verdict
returns-then-s-lt24 c =
    let given-length : the c.args.s.now "section_length" ≡ c.twelve-section_length.result = let s = c.args.s.now in
    sym (c.twelve-section_length.ensures ∙ field_there s 12 12 (omega arith) (omega arith)) in
    let s = c.args.s.now in
    let hs : AreBytes s = λ i. (c.type_inv.s i).fits in
    decide s 7 (miss (le-ltb (length s) 20 c.if-s-lt20.false)
    (miss (table s hs c.if-s.false)
    (miss (syntax_clear s hs c.if-s-ge64.false)
    (miss (size s (omega (arith, given-length)) (omega (arith, given-length)))
    (miss (ap (λ (x : ℕ). not (eqb x 0)) (sym c.crc.ensures ∙ c.if-crc-ne0.false))
    (miss (version_0 s hs c.if-s-ne0.false)
    (hit (ap₂ (λ (t u : Bool). t && u) (sealed s hs c.if-s-lt128.false) (lt-ltb (length s) 24 c.if-s-lt24.true))))))))) refl

pub returns : goal.returns
unfolding the verdict
returns c =
    let given-length : the c.args.s.now "section_length" ≡ c.twelve-section_length.result = let s = c.args.s.now in
    sym (c.twelve-section_length.ensures ∙ field_there s 12 12 (omega arith) (omega arith)) in
    let s = c.args.s.now in
    let hs : AreBytes s = λ i. (c.type_inv.s i).fits in
    decide s 0 (miss (le-ltb (length s) 20 c.if-s-lt20.false)
    (miss (table s hs c.if-s.false)
    (miss (syntax_clear s hs c.if-s-ge64.false)
    (miss (size s (omega (arith, given-length)) (omega (arith, given-length)))
    (miss (ap (λ (x : ℕ). not (eqb x 0)) (sym c.crc.ensures ∙ c.if-crc-ne0.false))
    (miss (version_0 s hs c.if-s-ne0.false)
    (miss (ap₂ (λ (t u : Bool). t && u) (sealed s hs c.if-s-lt128.false) (le-ltb (length s) 24 c.if-s-lt24.false))
    none))))))) refl
