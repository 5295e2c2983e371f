-- `bits_writing::scatter` meets its contract: byte k of the last n of a word's eight is the word moved down by the bits behind it.
-- Assumes nothing.
use mathlib.Core.Path.{◌≡◌, refl, ap, ◌∙◌}
use mathlib.Core.List.{List}
use Prim.Native.Nat.{ℕ, zero, suc, ◌+◌, ◌-◌, ◌*◌, ◌/◌, ◌%◌, ◌^◌, ◌<◌}
use native.Mathlib.Nat.{pow-succ'}
use native.Mathlib.Omega.{arith}
use lib.Pow.{pow-add}
use lib.ListN.{get_or}
use Rattle.std.proofs.Common.{rules}
use Rattle.std.proofs.lemmas.List.{places}
use Rattle.std.specs.Int.{byte_at, bytes_high_first}
use Rattle.bits_writing.proofs.Stored.{none_stored, one_more}
use Rattle.bits_writing.proofs.scatter.Goals as goal

-- a byte is eight bits
byte_bits : (j : ℕ) → 256 ^ j ≡ 2 ^ (8 * j)
byte_bits zero = refl
byte_bits (suc j) =
    let eight : 2 ^ (8 * suc j) ≡ 2 ^ 8 * 2 ^ (8 * j) = ap (λ (k : ℕ). 2 ^ k) (omega arith) ∙ pow-add 2 8 (8 * j) in
    omega (arith, pow-succ' 256 j, byte_bits j, eight)

-- byte j of a number, the lowest of which is byte 0
shifted : (j x : ℕ) → byte_at j x ≡ x / 2 ^ (8 * j) % 256
shifted zero x = omega arith
shifted (suc j) x = ap (λ (d : ℕ). x / d % 256) (byte_bits (suc j))

-- byte k of the lowest n, the highest of them first
high : (n x k : ℕ) → k < n → get_or (bytes_high_first n x) k 0 ≡ byte_at (n - 1 - k) x
high zero x k h = absurd (omega arith)
high (suc n) x zero h = ap (λ (j : ℕ). byte_at j x) (omega arith)
high (suc n) x (suc k) h = high n x k (omega arith) ∙ ap (λ (j : ℕ). byte_at j x) (omega arith)

pub loop-k-init : goal.loop-k-init
loop-k-init c = none_stored _ _ _

pub loop-k-preserved : goal.loop-k-preserved
loop-k-preserved c = one_more _ _ _ _ _ _ (omega (arith, c.loop-k.invariant.long)) refl c.loop-k.invariant

pub shape_of-s : goal.shape_of-s
shape_of-s c = c.loop-k.invariant.long

pub returns : goal.returns
returns c =
    let n = c.args.n in
    let stored = c.loop-k.invariant in
    record {
      long = stored.long;
      here =
          λ k h.
          stored.here k (omega arith)
          ∙ search (rules, places)
          ∙ ap (λ (l : List ℕ). get_or l (8 - n + k) 0) c.to_be_bytes-bytes.ensures
          ∙ high 8 c.args.word (8 - n + k) (omega arith)
          ∙ ap (λ (j : ℕ). byte_at j c.args.word) (omega arith)
          ∙ shifted (n - 1 - k) c.args.word;
      before = λ k h. stored.before k h;
      after = λ k h. stored.after k (omega arith);
    }
