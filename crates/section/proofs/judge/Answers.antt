-- `section::judge` meets its contract: rows 1 to 7, and then the grammar's own, by its command and the loop after it.
-- Assumes nothing.
use mathlib.Core.Path.{◌≡◌, refl, sym, ap, ◌∙◌}
use mathlib.Core.Bool.{Bool, true, false}
use mathlib.Core.List.{List}
use Prim.Native.Nat.{ℕ, ◌+◌, ◌-◌, ◌*◌, ◌≤◌}
use native.Mathlib.Omega.{arith}
use lib.Dec.{eqb}
use lib.ListN.{length}
use Rattle.std.specs.Prelude.{Option, Some, None, Result, Ok, Err, ok_or}
use Rattle.std.proofs.lemmas.Result.{err_from_is_err_and}
use Rattle.bits.specs.Bits.{bit, num, field_of}
use Rattle.bits.proofs.Bytes.{num_room}
use Rattle.bits.proofs.Within.{field_there}
use Rattle.units.specs.declared.refusals.Refusal.{Refusal}
use Rattle.grammar.specs.Syntax.{under}
use Rattle.grammar.specs.Meaning.{Env, breach, ends}
use Rattle.grammar.specs.Tables.{descriptor_loop, bytes}
use Rattle.grammar.proofs.Run.{Runs}
use Rattle.grammar.specs.Ended.{outcome}
use Rattle.commands.specs.Command.{command_end}
use Rattle.descriptors.specs.declared.Cursor.{Cursor}
use Rattle.section.specs.Accept.{the, accept_row, verdict, accept_of, grammar_of, judged, IsGrammatical}
use Rattle.section.specs.Judge.{loop_from, judgement, judge_of}
use Rattle.section.proofs.Rows.{clear, sealed, whole, sealed_whole, last_row}
use Rattle.section.proofs.Judged.{Headed, headed, refused_header, loop_after, command_inside, broken_command, whole_command}
use Rattle.section.proofs.judge.Goals as goal

-- the judgement is that of its verdict, of the seal and of the loop
decide : (s : List ℕ) {v : Result (Unit {0}) Refusal} (closed : Bool) {c : Cursor} → accept_of s ≡ v → eqb (the s "encrypted_packet") 1 ≡ closed
    → loop_from s (command_end s) ≡ c → judgement v closed c ≡ judge_of s
unfolding judge_of
decide s closed e q l = λ i. judgement (sym e i) (sym q i) (sym l i)

refuse : (s : List ℕ) (r : Refusal) → accept_of s ≡ Err r → Err r ≡ judge_of s
refuse s r e = decide s (eqb (the s "encrypted_packet") 1) {c = loop_from s (command_end s)} e refl refl

-- a verdict of the grammar's own, where none of rows 1 to 7 applies
by_grammar : (s : List ℕ) → Headed s → (v : Result (Unit {0}) Refusal) → IsGrammatical v → grammar_of s ≡ judged (length s - 4) v → accept_of s ≡ v
unfolding accept_of accept_row
by_grammar s h v own o =
    let came = last_row v (length s - 4) own in
    ap verdict (h.left (rw o came.1)).row ∙ sym came.2

-- where the command's place is none
no_command : {r : Refusal} (s : List ℕ) → Headed s → eqb (the s "encrypted_packet") 1 ≡ false → (o : Option ℕ) → outcome o ≡ command_end s
    → Err r ≡ ok_or o Refusal.Command → Err r ≡ judge_of s
no_command {r} s heads opens None e q =
    let same : r ≡ Refusal.Command = cc in
    ap Err same
    ∙ refuse s Refusal.Command
    (by_grammar s heads (Err Refusal.Command) (omega arith, omega arith) (whole s (breach 8) heads.long opens (broken_command s heads.long (sym e))))
no_command s heads opens (Some n) e q = cc

-- where it is byte n: the section's bytes go on past it, and the loop after it decides
module _ (s : List ℕ) (heads : Headed s) (n : ℕ) (ended : command_end s ≡ ends (8 * n)) where
  inside : (n + 4 ≤ length s) × (length s ≤ 4096)
  inside = (command_inside s heads.long n ended, heads.fits)

  loop_length : {w : ℕ} → w ≡ field_of s (8 * n) 16 → num (bit s) (8 * n) 16 ≡ w
  loop_length e = let l = inside in sym (e ∙ field_there s (8 * n) 16 (omega arith) (omega arith))

  looped : (v : Result (Unit {0}) Refusal) → eqb (the s "encrypted_packet") 1 ≡ false
      → ((env : Env) → Runs (under 9 descriptor_loop (bytes "alignment_stuffing")) env (bit s) (8 * (length s - 4)) (8 * n) (judged (length s - 4) v)) × IsGrammatical v
      → accept_of s ≡ v
  looped v opens r =
      by_grammar s heads v r.1
      (whole s (judged (length s - 4) v) heads.long opens (whole_command s heads.long n ended r.0))

pub returns-in_err-header : goal.returns-in_err-header
returns-in_err-header c =
    let gone = err_from_is_err_and c.from_residual.result c.from_residual.ensures.1 in
    rw (gone.1, gone.2) (refuse _ _ (refused_header _ _ (sym c.in_err-header.ensures)))

pub bounds-s-4 : goal.bounds-s-4
bounds-s-4 c =
    let heads : Headed c.args.s.now = headed _ (sym c.in_ok-header.ensures) in
    omega (arith, heads.long)

pub returns-then-s-ge128 : goal.returns-then-s-ge128
returns-then-s-ge128 c =
    let s = c.args.s.now in
    let heads : Headed s = headed _ (sym c.in_ok-header.ensures) in
    let closed = sealed s (λ i. (c.type_inv.s i).fits) c.if-s-ge128.true in
    decide s true {c = loop_from s (command_end s)} (by_grammar s heads (Ok tt) tt (sealed_whole s heads.long closed)) closed refl

pub returns-in_err-at : goal.returns-in_err-at
returns-in_err-at c =
    let opens = clear _ (λ i. (c.type_inv.s i).fits) c.if-s-ge128.false in
    let gone = err_from_is_err_and c.from_residual-in_err-at.result c.from_residual-in_err-at.ensures.1 in
    rw (gone.1, gone.2) (no_command _ (headed _ (sym c.in_ok-header.ensures)) opens _ c.command_end.ensures c.in_err-at.ensures.value)

pub descriptor_loop-requires : goal.descriptor_loop-requires
descriptor_loop-requires c =
    inside _ (headed _ (sym c.in_ok-header.ensures)) _ (sym c.command_end.ensures ∙ ap outcome c.in_ok-at.ensures.ok_part)

pub returns-in_err-descriptor_loop : goal.returns-in_err-descriptor_loop
returns-in_err-descriptor_loop c =
    let opens = clear _ (λ i. (c.type_inv.s i).fits) c.if-s-ge128.false in
    let ended = sym c.command_end.ensures ∙ ap outcome c.in_ok-at.ensures.ok_part in
    let gone = err_from_is_err_and c.from_residual-in_err-descriptor_loop.result c.from_residual-in_err-descriptor_loop.ensures.1 in
    rw (gone.1, gone.2)
    (refuse _ _
    (looped c.args.s.now (headed _ (sym c.in_ok-header.ensures)) _ ended _ opens c.descriptor_loop.ensures
    ∙ c.in_err-descriptor_loop.was))

pub overflow_add-result : goal.overflow_add-result
overflow_add-result c =
    omega (arith, inside c.args.s.now (headed _ (sym c.in_ok-header.ensures)) c.in_ok-at.at (sym c.command_end.ensures ∙ ap outcome c.in_ok-at.ensures.ok_part))

pub overflow_add-result-2 : goal.overflow_add-result-2
overflow_add-result-2 c =
    omega (arith, inside c.args.s.now (headed _ (sym c.in_ok-header.ensures)) c.in_ok-at.at (sym c.command_end.ensures ∙ ap outcome c.in_ok-at.ensures.ok_part))

pub overflow_add-result-3 : goal.overflow_add-result-3
overflow_add-result-3 c =
    let s = c.args.s.now in
    let n : ℕ = c.in_ok-at.at in
    let heads : Headed s = headed _ (sym c.in_ok-header.ensures) in
    let ended : command_end s ≡ ends (8 * n) = sym c.command_end.ensures ∙ ap outcome c.in_ok-at.ensures.ok_part in
    omega (arith, inside s heads n ended, loop_length s heads n ended c.pair-descriptor_loop_length.ensures, num_room s (8 * n) 2 (omega arith))

pub returns : goal.returns
returns c =
    let s = c.args.s.now in
    let n : ℕ = c.in_ok-at.at in
    let heads : Headed s = headed _ (sym c.in_ok-header.ensures) in
    let opens = clear _ (λ i. (c.type_inv.s i).fits) c.if-s-ge128.false in
    let ended : command_end s ≡ ends (8 * n) = sym c.command_end.ensures ∙ ap outcome c.in_ok-at.ensures.ok_part in
    ap (λ (w : ℕ). Ok (Some (record { at = n + 2; end = n + 2 + w }))) (sym (loop_length s heads n ended c.pair-descriptor_loop_length.ensures))
    ∙ decide s false (looped s heads n ended _ opens c.descriptor_loop.ensures ∙ c.in_ok-descriptor_loop.was) opens (loop_after s n ended)
