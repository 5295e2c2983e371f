-- `reading::upid_bytes` meets its contract: the part that `upid` names lies in the section.
-- Assumes nothing.
use mathlib.Core.Path.{◌≡◌, sym, ap, ◌∙◌}
use Prim.Native.Nat.{ℕ, ◌+◌, ◌-◌, ◌≤◌}
use native.Mathlib.Omega.{arith}
use lib.ListN.{length, take, drop}
use Rattle.reading.specs.Reading.{part_of, upid_bytes}
use Rattle.reading.proofs.UpidBytes.{part_within}
use Rattle.reading.proofs.upid_bytes.Goals as goal

pub returns-in_default : goal.returns-in_default
unfolding part_of upid_bytes
returns-in_default c = sym (ap (part_of _) (sym c.upid.ensures ∙ c.in_default.is))

pub overflow_add-end : goal.overflow_add-end
overflow_add-end c =
    let part = c.in-Ok.part in
    let within : part.at + part.length ≤ length c.args.section.now = part_within _ _ _ _ (sym c.upid.ensures ∙ c.in-Ok.is) in
    omega (arith, within)

pub returns : goal.returns
unfolding part_of upid_bytes
returns c =
    let s = c.args.section.now in
    let part = c.in-Ok.part in
    let count : part.at + part.length - part.at ≡ part.length = omega arith in
    ap (λ (m : ℕ). take m (drop part.at s)) count
    ∙ sym (ap (part_of s) (sym c.upid.ensures ∙ c.in-Ok.is))

pub slice_bounds-result-end-2 : goal.slice_bounds-result-end-2
slice_bounds-result-end-2 c = part_within _ _ _ _ (sym c.upid.ensures ∙ c.in-Ok.is)
