-- `descriptors::Cursor::step` meets its contract: the tests on the way follow Table 17, and the body has to use up descriptor_length.
-- Assumes nothing.
use mathlib.Core.Path.{◌≡◌, sym, ap}
use Prim.Native.Nat.{ℕ, ◌+◌, ◌<◌}
use native.Mathlib.Omega.{arith}
use lib.ListN.{get_or}
use Rattle.std.specs.Prelude.{Option, Some, None}
use Rattle.units.specs.declared.refusals.Refusal.{Refusal}
use Rattle.std.proofs.lemmas.Result.{err_from_is_err_and}
use Rattle.grammar.specs.Ended.{outcome}
use Rattle.grammar.proofs.Run.{becomes}
use Rattle.descriptors.proofs.Walk.{nothing_left, past_bytes}
use Rattle.descriptors.proofs.Ways.{BodyRun, no_rows, body_cut, no_identifier, used_up, left_over, body_breaks}
use Rattle.descriptors.proofs.Cursor.step.Goals as goal

pub returns-then-end-at : goal.returns-then-end-at
returns-then-end-at c = sym (nothing_left _ _ c.if-end-at.true)

pub returns-then-s-end : goal.returns-then-s-end
returns-then-s-end c = sym (past_bytes _ _ c.if-end-at.false c.if-s-end.true)

pub returns-then-end-at-lt2 : goal.returns-then-end-at-lt2
returns-then-end-at-lt2 c =
    let a = c.args in
    sym (no_rows a.s.now a.self c.if-end-at.false c.if-s-end.false c.if-end-at-lt2.true)

pub overflow_cast-descriptor_length : goal.overflow_cast-descriptor_length
overflow_cast-descriptor_length c =
    let length_byte : let a = c.args in get_or a.s.now (a.self.at + 1) 0 < 256 = omega (arith, c.shared_slice_known-2-1.given (c.args.self.at + 1)) in
    omega (arith, length_byte)

pub returns-then-end-at-2 : goal.returns-then-end-at-2
returns-then-end-at-2 c =
    let length_byte : let a = c.args in get_or a.s.now (a.self.at + 1) 0 < 256 = omega (arith, c.shared_slice_known-2-1.given (c.args.self.at + 1)) in
    let a = c.args in
    sym (body_cut a.s.now a.self c.if-end-at.false c.if-s-end.false c.if-end-at-lt2.false (length_byte) c.if-end-at-2.true)

pub returns-then-descriptor_length-lt4 : goal.returns-then-descriptor_length-lt4
returns-then-descriptor_length-lt4 c =
    let length_byte : let a = c.args in get_or a.s.now (a.self.at + 1) 0 < 256 = omega (arith, c.shared_slice_known-2-1.given (c.args.self.at + 1)) in
    let a = c.args in
    sym
    (no_identifier a.s.now a.self c.if-end-at.false c.if-s-end.false c.if-end-at-lt2.false (length_byte) c.if-end-at-2.false c.if-descriptor_length-lt4.true)

pub returns-in_err-n : goal.returns-in_err-n
returns-in_err-n c =
    let length_byte : let a = c.args in get_or a.s.now (a.self.at + 1) 0 < 256 = omega (arith, c.shared_slice_known-2-1.given (c.args.self.at + 1)) in
    let body : (r : Option ℕ) → c.descriptor.result ≡ r → let a = c.args in BodyRun a.s.now a.self c.kind_at-kind.result (outcome r) = λ r e env. becomes (c.descriptor.ensures env) (ap outcome e) in
    let a = c.args in
    let none : c.descriptor.result ≡ None = grind arith in
    let refused = err_from_is_err_and c.from_residual.result c.from_residual.ensures.1 in
    let h = body_breaks a.s.now a.self c.if-end-at.false c.if-s-end.false c.if-end-at-lt2.false (length_byte) c.if-end-at-2.false
    c.if-descriptor_length-lt4.false _ c.kind_at-kind.ensures (body None none) in
    let told : c.in_err-n.field-0.0 ≡ Refusal.Descriptor = grind arith in
    rw (refused.1, refused.2, told) (sym h)

pub returns-then-n-next : goal.returns-then-n-next
returns-then-n-next c =
    let length_byte : let a = c.args in get_or a.s.now (a.self.at + 1) 0 < 256 = omega (arith, c.shared_slice_known-2-1.given (c.args.self.at + 1)) in
    let body : (r : Option ℕ) → c.descriptor.result ≡ r → let a = c.args in BodyRun a.s.now a.self c.kind_at-kind.result (outcome r) = λ r e env. becomes (c.descriptor.ensures env) (ap outcome e) in
    let a = c.args in
    let some : c.descriptor.result ≡ Some c.in_ok-n.n = grind arith in
    sym
    (left_over a.s.now a.self c.if-end-at.false c.if-s-end.false c.if-end-at-lt2.false (length_byte) c.if-end-at-2.false
    c.if-descriptor_length-lt4.false _ c.kind_at-kind.ensures _ (body (Some c.in_ok-n.n) some) c.if-n-next.true)

pub returns : goal.returns
returns c =
    let length_byte : let a = c.args in get_or a.s.now (a.self.at + 1) 0 < 256 = omega (arith, c.shared_slice_known-2-1.given (c.args.self.at + 1)) in
    let body : (r : Option ℕ) → c.descriptor.result ≡ r → let a = c.args in BodyRun a.s.now a.self c.kind_at-kind.result (outcome r) = λ r e env. becomes (c.descriptor.ensures env) (ap outcome e) in
    let a = c.args in
    let some : c.descriptor.result ≡ Some c.in_ok-n.n = grind arith in
    sym
    (used_up a.s.now a.self c.if-end-at.false c.if-s-end.false c.if-end-at-lt2.false (length_byte) c.if-end-at-2.false
    c.if-descriptor_length-lt4.false _ c.kind_at-kind.ensures _ (body (Some c.in_ok-n.n) some) c.if-n-next.false)
