-- `text_writing::encode::put_groups` meets its contract. The loop's invariant: the characters of the groups passed fill the front
-- of `out`, and the rest is as it was.
-- Assumes nothing.
use mathlib.Core.Path.{◌≡◌, refl, ap, ◌∙◌}
use mathlib.Core.List.{List, []}
use Prim.Native.Nat.{ℕ, ◌+◌, ◌*◌, ◌/◌, ◌<◌}
use native.Mathlib.Omega.{arith}
use lib.ListN.{length, get_or}
use Rattle.base64_rules.specs.Base64.{character_at}
use Rattle.base64_rules.proofs.Chunks.{chunk_at}
use Rattle.base64_rules.proofs.Fill.{fill_none, fill_same, fill_more}
use Rattle.text_writing.proofs.Letters.{first_letter, second_letter, third_letter, fourth_letter}
use Rattle.text_writing.proofs.encode.put_groups.Goals as goal

pub loop-q-init : goal.loop-q-init
loop-q-init c = fill_none (character_at c.args.section.now) c.args.out.now

pub loop-q-preserved : goal.loop-q-preserved
loop-q-preserved c =
    let s = c.args.section.now in
    let q = c.loop-q.q in
    let within : q < length s / 3 = omega (arith, c.as_chunks.ensures.front_len) in
    -- byte j of the group is that of the section
    let at : (j i : ℕ) → j < 3 → 3 * q + j ≡ i → get_or (get_or c.as_chunks.result.0.now q []) j 0 ≡ get_or s i 0 =
    λ j i h e.
    ap (λ (g : List (List ℕ)). get_or (get_or g q []) j 0) c.as_chunks.ensures.front
    ∙ chunk_at 3 (length s / 3) s q j within h
    ∙ ap (λ (k : ℕ). get_or s k 0) e in
    let a = at 0 (3 * q) (omega arith) (omega arith) in
    let b = at 1 (3 * q + 1) (omega arith) refl in
    let d = at 2 (3 * q + 2) (omega arith) refl in
    let a_lt : get_or (get_or c.as_chunks.result.0.now q []) 0 0 < 256 = omega (arith, (c.type_inv.section (3 * q)).fits, a) in
    let b_lt : get_or (get_or c.as_chunks.result.0.now q []) 1 0 < 256 = omega (arith, (c.type_inv.section (3 * q + 1)).fits, b) in
    let d_lt : get_or (get_or c.as_chunks.result.0.now q []) 2 0 < 256 = omega (arith, (c.type_inv.section (3 * q + 2)).fits, d) in
    let fill = fill_more (character_at s) c.args.out.now in
    let first =
    fill _ (4 * q) (4 * q + 1) _ refl (omega arith) c.loop-q.invariant
    (c.character-first.ensures ∙ first_letter s q _ a a_lt (omega arith)) in
    let second =
    fill _ (4 * q + 1) (4 * q + 2) _ (omega arith) (omega arith) first
    (c.character-second.ensures ∙ second_letter s q _ _ a b a_lt b_lt (omega arith)) in
    let third =
    fill _ (4 * q + 2) (4 * q + 3) _ (omega arith) (omega arith) second
    (c.character-third.ensures ∙ third_letter s q _ _ b d b_lt d_lt (omega arith)) in
    fill _ (4 * q + 3) (4 * (q + 1)) _ (omega arith) (omega arith) third
    (c.character-fourth.ensures ∙ fourth_letter s q _ d d_lt (omega arith))

pub returns : goal.returns
returns c = fill_same (character_at c.args.section.now) _ _ _ _ (omega (arith, c.as_chunks.ensures.front_len)) c.loop-q.invariant
