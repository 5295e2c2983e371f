-- `segmentation::descriptor` meets its contract: the flags' byte is whole either way, and the flags say which parts follow.
-- Assumes nothing.
use mathlib.Core.Path.{ap}
use Prim.Native.Nat.{◌+◌, ◌*◌, ◌<◌, ◌≤◌}
use native.Mathlib.Omega.{arith}
use lib.ListN.{get_or}
use Rattle.grammar.specs.Ended.{outcome}
use Rattle.grammar.specs.Meaning.{ends}
use Rattle.grammar.proofs.Run.{becomes}
use Rattle.segmentation.proofs.FromId.{ComponentsRun, no_rows, cancelled, no_flags, components_off, within, no_duration, duration_cut, with_duration}
use Rattle.segmentation.proofs.descriptor.Goals as goal

pub returns-then-end-at-lt5 : goal.returns-then-end-at-lt5
returns-then-end-at-lt5 c env =
    let a = c.args.part in
    no_rows a.s.now a.at a.end env (omega arith) c.if-end-at-lt5.true

pub returns-then-s-at-ge128 : goal.returns-then-s-at-ge128
returns-then-s-at-ge128 c env =
    let a = c.args.part in
    cancelled a.s.now a.at a.end env c.if-end-at-lt5.false (omega (arith, c.shared_slice_known-1.given (a.at + 4))) c.if-s-at-ge128.true

pub returns-then-end-at-lt6 : goal.returns-then-end-at-lt6
returns-then-end-at-lt6 c env =
    let a = c.args.part in
    no_flags a.s.now a.at a.end env c.if-end-at-lt5.false c.if-s-at-ge128.false c.if-end-at-lt6.true

pub returns-in_err-n : goal.returns-in_err-n
returns-in_err-n c env =
    let flags-byte : let a = c.args.part in get_or a.s.now (a.at + 5) 0 < 256 = omega (arith, c.shared_slice_known-2-1.given (c.args.part.at + 5)) in
    let a = c.args.part in
    rw c.from_residual.ensures
    (components_off a.s.now a.at a.end env c.if-end-at-lt5.false c.if-s-at-ge128.false c.if-end-at-lt6.false (flags-byte)
    (λ v h. becomes (c.segmentation_components.ensures v h) (ap outcome c.in_err-n.was)))

pub invariant_of-segmentation_end-clause-in_order : goal.invariant_of-segmentation_end-clause-in_order
invariant_of-segmentation_end-clause-in_order c =
    let a = c.args.part in
    (within a.s.now a.at a.end c.in_ok-n.n c.if-end-at-lt6.false (λ v h. becomes (c.segmentation_components.ensures v h) (ap outcome c.in_ok-n.was))).1

pub returns-then-segmentation_duration_flag-eq0 : goal.returns-then-segmentation_duration_flag-eq0
returns-then-segmentation_duration_flag-eq0 c env =
    let flags-byte : let a = c.args.part in get_or a.s.now (a.at + 5) 0 < 256 = omega (arith, c.shared_slice_known-2-1.given (c.args.part.at + 5)) in
    let components : let a = c.args.part in ComponentsRun a.s.now a.at a.end (ends (8 * c.in_ok-n.n)) = λ v h. becomes (c.segmentation_components.ensures v h) (ap outcome c.in_ok-n.was) in
    let a = c.args.part in
    no_duration a.s.now a.at a.end env c.if-end-at-lt5.false c.if-s-at-ge128.false c.if-end-at-lt6.false (flags-byte)
    c.in_ok-n.n (components) c.if-segmentation_duration_flag-eq0.true c.segmentation_end.ensures

pub overflow_sub-end-3 : goal.overflow_sub-end-3
overflow_sub-end-3 c =
    let components : let a = c.args.part in ComponentsRun a.s.now a.at a.end (ends (8 * c.in_ok-n.n)) = λ v h. becomes (c.segmentation_components.ensures v h) (ap outcome c.in_ok-n.was) in
    let inside : let a = c.args.part in (a.at + 6 ≤ c.in_ok-n.n) × (c.in_ok-n.n ≤ a.end) = let a = c.args.part in
    within a.s.now a.at a.end c.in_ok-n.n c.if-end-at-lt6.false (components) in
    (inside).1

pub returns-then-end-n-lt5 : goal.returns-then-end-n-lt5
returns-then-end-n-lt5 c env =
    let flags-byte : let a = c.args.part in get_or a.s.now (a.at + 5) 0 < 256 = omega (arith, c.shared_slice_known-2-1.given (c.args.part.at + 5)) in
    let components : let a = c.args.part in ComponentsRun a.s.now a.at a.end (ends (8 * c.in_ok-n.n)) = λ v h. becomes (c.segmentation_components.ensures v h) (ap outcome c.in_ok-n.was) in
    let a = c.args.part in
    duration_cut a.s.now a.at a.end env c.if-end-at-lt5.false c.if-s-at-ge128.false c.if-end-at-lt6.false (flags-byte)
    c.in_ok-n.n (components) c.if-segmentation_duration_flag-eq0.false c.if-end-n-lt5.true

pub returns : goal.returns
returns c env =
    let flags-byte : let a = c.args.part in get_or a.s.now (a.at + 5) 0 < 256 = omega (arith, c.shared_slice_known-2-1.given (c.args.part.at + 5)) in
    let components : let a = c.args.part in ComponentsRun a.s.now a.at a.end (ends (8 * c.in_ok-n.n)) = λ v h. becomes (c.segmentation_components.ensures v h) (ap outcome c.in_ok-n.was) in
    let a = c.args.part in
    with_duration a.s.now a.at a.end env c.if-end-at-lt5.false c.if-s-at-ge128.false c.if-end-at-lt6.false (flags-byte)
    c.in_ok-n.n (components) c.if-segmentation_duration_flag-eq0.false c.if-end-n-lt5.false c.segmentation_end-2.ensures
