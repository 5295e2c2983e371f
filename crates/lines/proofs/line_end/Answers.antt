-- `lines::line_end` meets its contract. The loop's invariant: the line goes on to here, a whole number of chunks.
-- Assumes nothing.
use Rattle.std.proofs.Common.{◌≡◌, ◌≤◌, ℕ, ◌-◌, ◌/◌, ◌<◌, ◌+◌, List, [], eqb, ltb, false, length, get_or, take, drop, ap, ◌∙◌, unwrap_or, arith, rules, tests, length-drop}
use Rattle.std.proofs.lemmas.Iterator.{YieldsList-from_slice}
use Rattle.std.proofs.lemmas.Iterator.Search.{position_from_yields_List}
use Rattle.lines.specs.Turns.{line_length}
use Rattle.lines.proofs.Turning.{tail_is, chunk_at, chunk_passed, first_newline}
use Rattle.lines.proofs.line_end.Goals as goal

pub loop-chunk-preserved : goal.loop-chunk-preserved
loop-chunk-preserved c =
    let a = c.args in
    let l = c.loop-chunk in
    let input = a.input.now in
    let rest : List ℕ = take (length input - a.from) (drop a.from input) in
    let left : length rest ≡ length input - a.from = ap length (tail_is a.from input) ∙ length-drop a.from input in
    let within : l.chunk-index < length rest / 32 = omega (arith, c.as_chunks.ensures.front_len) in
    let chunk : List ℕ = get_or c.as_chunks.result.0.now l.chunk-index [] in
    let is = ap (λ (chunks : List (List ℕ)). get_or chunks l.chunk-index []) c.as_chunks.ensures.front ∙ chunk_at input a.from l.at l.chunk-index l.invariant.0 within in
    let none : ltb (line_length chunk) (length chunk) ≡ false = cc in
    let inside : l.at + 32 ≤ length input = omega arith in
    (omega arith, (inside, omega (arith, chunk_passed input chunk l.at is inside none)))

pub returns : goal.returns
returns c =
    let rest : List ℕ = take (length c.args.input.now - c.loop-chunk.at) (drop c.loop-chunk.at c.args.input.now) in
    let found = position_from_yields_List (λ (x : ℕ). eqb x 10) _ _ c.position.result c.position.ensures.ran (YieldsList-from_slice rest cc) (λ x b q k. search (rules, tests)) in
    let ends : c.unwrap_or.result ≡ line_length (drop c.loop-chunk.at c.args.input.now) =
    c.unwrap_or.ensures ∙ ap (λ o. unwrap_or o (length rest)) found ∙ first_newline rest ∙ ap line_length (tail_is c.loop-chunk.at c.args.input.now) in
    omega (arith, ends)
