-- `sheet::bytes` meets its contract: numbers that do not fit are refused, and those that do are judged by the bytes that they make.
-- Assumes nothing.
use mathlib.Core.Path.{◌≡◌, sym, ap, ap₂, ◌∙◌}
use mathlib.Core.Bool.{Bool, cond}
use mathlib.Core.List.{List, []}
use Prim.Native.Nat.{ℕ, ◌+◌, ◌/◌, ◌≤◌}
use native.Mathlib.Omega.{arith}
use lib.ListN.{length, take, replicate, length-replicate}
use borrow.Author.Tests.{le-leb, lt-leb}
use Rattle.fields.specs.Fields.{Plan, plan}
use Rattle.layout.specs.Layout.{plan_of}
use Rattle.sheet.specs.Sheet.{room_for, plan_for, length_for, filled, summed, section_of}
use Rattle.sheet.proofs.Back.{room_enough}
use Rattle.sheet.proofs.Rows.{no_fit, fit_made, judged_as}
use Rattle.sheet.proofs.bytes.Goals as goal

pub returns-then-fields-gt32736 : goal.returns-then-fields-gt32736
unfolding plan_for
returns-then-fields-gt32736 c =
    let sheet : List ℕ = c.args.sheet.now in
    let plan_for_lem : plan c.plan-fields.result c.plan-fields.new.widths ≡ plan_for (sheet) = c.plan-fields.ensures ∙ ap (plan_of [] (sheet)) c.requires.2 in
    let plan_at : c.plan-fields.result.at ≡ (plan_for (sheet)).at = ap (λ (π : Plan). π.at) (plan_for_lem) in
    no_fit (sheet) c.args.out.now (λ few many at number. omega (arith, at, c.if-fields-gt32736.true, plan_at))

pub returns-then-fields-sheet : goal.returns-then-fields-sheet
unfolding plan_for
returns-then-fields-sheet c =
    let sheet : List ℕ = c.args.sheet.now in
    let plan_for_lem : plan c.plan-fields.result c.plan-fields.new.widths ≡ plan_for (sheet) = c.plan-fields.ensures ∙ ap (plan_of [] (sheet)) c.requires.2 in
    let plan_number : c.plan-fields.result.number ≡ (plan_for (sheet)).number = ap (λ (π : Plan). π.number) (plan_for_lem) in
    no_fit (sheet) c.args.out.now (λ few many at number. c.if-fields-sheet.true (plan_number ∙ number))

pub made-requires : goal.made-requires
made-requires c =
    let sheet : List ℕ = c.args.sheet.now in
    let long : length (sheet) ≤ length c.args.widths.now = omega (
      arith,
      ap length c.requires.2,
      length-replicate {A = ℕ} (room_for (length (sheet)) 256 32768) 0,
      room_enough (length (sheet)) 256 32768 c.requires.1,
    ) in
    let if3 = c.if-n-le256 in
    let if1 = c.if-fields-gt32736 in (
      omega arith,
      omega (arith, if1.false),
      omega (arith, if3.true, if1.false),
      omega (arith, c.requires.0),
      c.requires.1,
      omega (arith, long),
    )

pub returns-then-n-le256 : goal.returns-then-n-le256
unfolding length_for plan_for
returns-then-n-le256 c =
    let sheet : List ℕ = c.args.sheet.now in
    let count : ℕ = c.plan-fields.result.at / 8 + 4 in
    let plan_for_lem : plan c.plan-fields.result c.plan-fields.new.widths ≡ plan_for (sheet) = c.plan-fields.ensures ∙ ap (plan_of [] (sheet)) c.requires.2 in
    let plan_at : c.plan-fields.result.at ≡ (plan_for (sheet)).at = ap (λ (π : Plan). π.at) (plan_for_lem) in
    let plan_number : c.plan-fields.result.number ≡ (plan_for (sheet)).number = ap (λ (π : Plan). π.number) (plan_for_lem) in
    let fits : (z : ℕ) → z ≡ room_for (count) 256 4096 → take (count) (summed (count) (filled (sheet) (count) c.plan-fields.new.widths (replicate z 0))) ≡ section_of (sheet) = λ z e. let n : ℕ = count in
    let at = plan_at in
    ap₂ (λ (π : Plan) (k : ℕ). take n (summed n (filled (sheet) n π.widths (replicate k 0)))) (plan_for_lem) e
    ∙ fit_made (sheet) n c.requires.0 c.requires.1 (omega (arith, at, c.if-fields-gt32736.false)) (sym (plan_number) ∙ c.if-fields-sheet.false)
    (ap (λ (k : ℕ). k / 8 + 4) at) in
    let if3 = c.if-n-le256 in
    judged_as (sheet) c.args.out.now
    (fits 256 (sym (ap (λ (b : Bool). cond b 256 4096) (le-leb (count) 256 if3.true)))) c.made.ensures

pub made-requires-2 : goal.made-requires-2
made-requires-2 c =
    let sheet : List ℕ = c.args.sheet.now in
    let long : length (sheet) ≤ length c.args.widths.now = omega (
      arith,
      ap length c.requires.2,
      length-replicate {A = ℕ} (room_for (length (sheet)) 256 32768) 0,
      room_enough (length (sheet)) 256 32768 c.requires.1,
    ) in
    let if3 = c.if-n-le256 in
    let if1 = c.if-fields-gt32736 in (
      omega arith,
      omega (arith, if1.false),
      omega (arith, if3.false, if1.false),
      omega (arith, c.requires.0),
      c.requires.1,
      omega (arith, long),
    )

pub returns : goal.returns
unfolding length_for plan_for
returns c =
    let sheet : List ℕ = c.args.sheet.now in
    let count : ℕ = c.plan-fields.result.at / 8 + 4 in
    let plan_for_lem : plan c.plan-fields.result c.plan-fields.new.widths ≡ plan_for (sheet) = c.plan-fields.ensures ∙ ap (plan_of [] (sheet)) c.requires.2 in
    let plan_at : c.plan-fields.result.at ≡ (plan_for (sheet)).at = ap (λ (π : Plan). π.at) (plan_for_lem) in
    let plan_number : c.plan-fields.result.number ≡ (plan_for (sheet)).number = ap (λ (π : Plan). π.number) (plan_for_lem) in
    let fits : (z : ℕ) → z ≡ room_for (count) 256 4096 → take (count) (summed (count) (filled (sheet) (count) c.plan-fields.new.widths (replicate z 0))) ≡ section_of (sheet) = λ z e. let n : ℕ = count in
    let at = plan_at in
    ap₂ (λ (π : Plan) (k : ℕ). take n (summed n (filled (sheet) n π.widths (replicate k 0)))) (plan_for_lem) e
    ∙ fit_made (sheet) n c.requires.0 c.requires.1 (omega (arith, at, c.if-fields-gt32736.false)) (sym (plan_number) ∙ c.if-fields-sheet.false)
    (ap (λ (k : ℕ). k / 8 + 4) at) in
    let if3 = c.if-n-le256 in
    judged_as (sheet) c.args.out.now
    (fits 4096 (sym (ap (λ (b : Bool). cond b 256 4096) (lt-leb (count) 256 if3.false)))) c.made-2.ensures
