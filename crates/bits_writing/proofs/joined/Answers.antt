-- `bits_writing::joined` meets its contract: what is moved up keeps all its bits.
-- Assumes nothing.
use mathlib.Core.Path.{◌≡◌, ap, ap₂, ◌∙◌}
use Prim.Native.Nat.{ℕ, ◌+◌, ◌-◌, ◌*◌, ◌/◌, ◌%◌, ◌^◌}
use native.Mathlib.Nat.{lt_of_lt_of_le}
use native.Mathlib.Omega.{arith}
use lib.Pow.{pow_pos, pow_mono}
use Rattle.bits_writing.proofs.Word.{first_kept, two_lt, two_kept, three_lt, one_kept}
use Rattle.bits_writing.proofs.joined.Goals as goal

pub overflow_add-result : goal.overflow_add-result
overflow_add-result c =
    let first : c.args.first / 2 ^ (8 - c.args.before) * 2 ^ c.args.width % 2 ^ 64 ≡ c.args.first / 2 ^ (8 - c.args.before) * 2 ^ c.args.width = let a = c.args in
    first_kept a.first a.before a.value a.width c.ranges.first.fits c.requires.0 c.requires.1 (omega arith) in
    let a = c.args in
    record {
      fits =
          rw (first)
          (lt_of_lt_of_le (two_lt a.first a.before a.value a.width c.ranges.first.fits c.requires.0 c.requires.1) (pow_mono {j = 64} (omega arith)));
    }

pub nonzero_rem-result : goal.nonzero_rem-result
nonzero_rem-result c = rw (one_kept c.args.after (omega arith)) (pow_pos c.args.after)

pub overflow_add-result-2 : goal.overflow_add-result-2
overflow_add-result-2 c =
    let first : c.args.first / 2 ^ (8 - c.args.before) * 2 ^ c.args.width % 2 ^ 64 ≡ c.args.first / 2 ^ (8 - c.args.before) * 2 ^ c.args.width = let a = c.args in
    first_kept a.first a.before a.value a.width c.ranges.first.fits c.requires.0 c.requires.1 (omega arith) in
    let two : (c.args.first / 2 ^ (8 - c.args.before) * 2 ^ c.args.width % 2 ^ 64 + c.args.value) * 2 ^ c.args.after % 2 ^ 64 ≡ (c.args.first / 2 ^ (8 - c.args.before) * 2 ^ c.args.width + c.args.value) * 2 ^ c.args.after = let a = c.args in
    ap (λ (x : ℕ). (x + a.value) * 2 ^ a.after % 2 ^ 64) (first)
    ∙ two_kept a.first a.before a.value a.width c.ranges.first.fits c.requires.0 c.requires.1 a.after (omega arith) in
    let all : (c.args.first / 2 ^ (8 - c.args.before) * 2 ^ c.args.width % 2 ^ 64 + c.args.value) * 2 ^ c.args.after % 2 ^ 64 + c.args.last % (1 * 2 ^ c.args.after % 2 ^ 64) ≡ (c.args.first / 2 ^ (8 - c.args.before) * 2 ^ c.args.width + c.args.value) * 2 ^ c.args.after + c.args.last % 2 ^ c.args.after = ap₂ (λ (x y : ℕ). x + c.args.last % y) (two) (one_kept c.args.after (omega arith)) in
    let a = c.args in
    record {
      fits =
          rw (all)
          (lt_of_lt_of_le
          (three_lt a.first a.before a.value a.width c.ranges.first.fits c.requires.0 c.requires.1 a.after a.last)
          (pow_mono {j = 64} (omega arith)));
    }

pub returns : goal.returns
returns c =
    let first : c.args.first / 2 ^ (8 - c.args.before) * 2 ^ c.args.width % 2 ^ 64 ≡ c.args.first / 2 ^ (8 - c.args.before) * 2 ^ c.args.width = let a = c.args in
    first_kept a.first a.before a.value a.width c.ranges.first.fits c.requires.0 c.requires.1 (omega arith) in
    let two : (c.args.first / 2 ^ (8 - c.args.before) * 2 ^ c.args.width % 2 ^ 64 + c.args.value) * 2 ^ c.args.after % 2 ^ 64 ≡ (c.args.first / 2 ^ (8 - c.args.before) * 2 ^ c.args.width + c.args.value) * 2 ^ c.args.after = let a = c.args in
    ap (λ (x : ℕ). (x + a.value) * 2 ^ a.after % 2 ^ 64) (first)
    ∙ two_kept a.first a.before a.value a.width c.ranges.first.fits c.requires.0 c.requires.1 a.after (omega arith) in
    let all : (c.args.first / 2 ^ (8 - c.args.before) * 2 ^ c.args.width % 2 ^ 64 + c.args.value) * 2 ^ c.args.after % 2 ^ 64 + c.args.last % (1 * 2 ^ c.args.after % 2 ^ 64) ≡ (c.args.first / 2 ^ (8 - c.args.before) * 2 ^ c.args.width + c.args.value) * 2 ^ c.args.after + c.args.last % 2 ^ c.args.after = ap₂ (λ (x y : ℕ). x + c.args.last % y) (two) (one_kept c.args.after (omega arith)) in
    all
