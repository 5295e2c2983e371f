-- `section::descriptor_loop` meets its contract: the loop's length, the descriptors in that part, and stuffing up to the CRC.
-- Assumes nothing.
use mathlib.Core.Path.{◌≡◌, refl, sym, ap, ◌∙◌}
use mathlib.Core.Bool.{cond}
use mathlib.Core.List.{List}
use Prim.Native.Nat.{ℕ, ◌+◌, ◌-◌, ◌*◌, ◌≤◌}
use native.Mathlib.Omega.{arith}
use lib.ListN.{length}
use Rattle.std.specs.Prelude.{Result, Ok, Err, is_ok, IfErr}
use Rattle.units.specs.declared.refusals.Refusal.{Refusal}
use Rattle.units.specs.Refusals.{number_of}
use Rattle.bits.specs.Bits.{bit, num}
use Rattle.bits.proofs.Within.{field_there}
use Rattle.grammar.specs.Syntax.{under}
use Rattle.grammar.specs.Meaning.{Env, ends, breach, run}
use Rattle.grammar.specs.Tables.{descriptor_loop, bytes, splice_descriptor}
use Rattle.section.specs.Accept.{judged, IsGrammatical}
use Rattle.grammar.proofs.Run.{Runs, swept, pass, short, ruled, framed_all, framed_off, frame_short, filled_last, swept_bytes, finished, at_place}
use Rattle.section.proofs.descriptor_loop.Goals as goal

-- the loop's length and what the walk over that part comes to
module _ (s : List ℕ) (at n : ℕ) (inside : at + 2 + n ≤ length s - 4) (given-length : num (bit s) (8 * at) 16 ≡ n) where
  abbrev e : ℕ
  e = at + 2 + n

  after-length : 8 * at + 16 ≡ 8 * (at + 2)
  after-length = omega arith

  part_end : 8 * at + 16 + 8 * num (bit s) (8 * at) 16 ≡ 8 * e
  part_end = omega (arith, given-length)

  abbrev Walked : Result (Unit {0}) Refusal → Type 0
  Walked r = (env : Env) → swept (run splice_descriptor env (bit s) (8 * e)) (8 * e) (8 * (at + 2)) ≡ cond (is_ok r) (ends (8 * e)) (breach 0)

  walked : (r : Result (Unit {0}) Refusal) → IfErr r (λ x. x ≡ Refusal.Descriptor) → Walked r
      → ((env : Env) → Runs (under 9 descriptor_loop (bytes "alignment_stuffing")) env (bit s) (8 * (length s - 4)) (8 * at) (judged (length s - 4) r)) × IsGrammatical r
  unfolding descriptor_loop
  walked (Ok u) same walk =
      let stuffing : 8 * e + 8 * (length s - 4 - e) ≡ 8 * (length s - 4) = omega arith in (
        λ env.
            ruled
            (pass (omega arith)
            (framed_all (part_end) (omega arith)
            (ruled (at_place (after-length) (filled_last (walk _))) (finished refl).runs)
            (finished refl)))
            (filled_last (swept_bytes "alignment_stuffing" env (bit s) (8 * (length s - 4)) (length s - 4 - e) (8 * e) stuffing)).runs,
        tt,
      )
  walked (Err x) same walk =
      let own : number_of x ≡ 10 = ap number_of same in (
        λ env.
            rw own
            (ruled
            (pass (omega arith)
            (framed_off (part_end) (omega arith)
            (ruled (at_place (after-length) (filled_last (walk _))) refl)))
            refl),
        omega (arith, own),
      )

pub returns-then-end-at-lt2 : goal.returns-then-end-at-lt2
unfolding descriptor_loop
returns-then-end-at-lt2 c = (λ env. ruled (short (omega arith)) refl, omega arith)

pub returns-then-end-at : goal.returns-then-end-at
unfolding descriptor_loop
returns-then-end-at c =
    let given-length : num (bit c.args.s.now) (8 * c.args.at) 16 ≡ c.pair-descriptor_loop_length.result = let a = c.args in
    let s = a.s.now in
    sym (c.pair-descriptor_loop_length.ensures ∙ field_there s (8 * a.at) 16 (omega arith) (omega arith)) in
    (λ env. ruled (pass (omega arith) (frame_short (omega (arith, given-length)))) refl, omega arith)

pub returns : goal.returns
returns c =
    let a = c.args in
    let s = a.s.now in
    let given-length : num (bit s) (8 * a.at) 16 ≡ c.pair-descriptor_loop_length.result =
    sym (c.pair-descriptor_loop_length.ensures ∙ field_there s (8 * a.at) 16 (omega arith) (omega arith)) in
    walked s a.at c.pair-descriptor_loop_length.result (omega arith) given-length c.fills.result c.fills.ensures.refusal c.fills.ensures.walk
