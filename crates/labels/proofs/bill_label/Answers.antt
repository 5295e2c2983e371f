-- `labels::bill_label` meets its contract: the part lies inside the section.
-- Assumes nothing.
use mathlib.Core.Path.{◌≡◌, sym, ap, ◌∙◌}
use Prim.Native.Nat.{ℕ, ◌+◌, ◌-◌, ◌≤◌}
use native.Mathlib.Omega.{arith}
use lib.ListN.{length, take, drop}
use Rattle.descriptor_reading.specs.declared.answers.Part.{Part}
use Rattle.labels.specs.Labels.{label_of, label_bytes}
use Rattle.labels.proofs.LabelPart.{label_within}
use Rattle.labels.proofs.bill_label.Goals as goal

pub returns-in_default : goal.returns-in_default
unfolding label_bytes
returns-in_default c =
    let a = c.args in
    ap (label_of a.section.now a.house.now) c.in_default.ensures

pub overflow_add-end : goal.overflow_add-end
overflow_add-end c =
    let part : Part = c.in-Some.field-0 in
    let within : part.at + part.length ≤ length c.args.section.now = label_within _ part (sym c.in-Some.ensures) in
    omega (arith, within)

pub slice_bounds-result-end : goal.slice_bounds-result-end
slice_bounds-result-end c = label_within _ c.in-Some.field-0 (sym c.in-Some.ensures)

pub returns : goal.returns
unfolding label_bytes
returns c =
    let a = c.args in
    let part : Part = c.in-Some.field-0 in
    let as_long : part.at + part.length - part.at ≡ part.length = omega arith in
    ap (λ (n : ℕ). take n (drop part.at a.section.now)) as_long ∙ ap (label_of a.section.now a.house.now) c.in-Some.ensures
