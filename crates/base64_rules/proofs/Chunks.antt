-- A list in chunks of n: what stands at a place of a chunk.
-- Assumes nothing.
use mathlib.Core.Path.{◌≡◌, ap, ◌∙◌}
use mathlib.Core.List.{List, []}
use Prim.Native.Nat.{ℕ, zero, suc, ◌+◌, ◌*◌, ◌<◌}
use native.Mathlib.Omega.{arith}
use lib.ListN.{get_or, drop}
use lib.Seq.{get_or-take, get_or-drop}
use Rattle.std.specs.Simd.{first_chunks}

pub chunk_at : (n k : ℕ) (xs : List ℕ) (q j : ℕ) → q < k → j < n → get_or (get_or (first_chunks n k xs) q []) j 0 ≡ get_or xs (n * q + j) 0
chunk_at n zero xs q j h l = absurd (omega arith)
chunk_at n (suc k) xs zero j h l = get_or-take n xs j 0 l ∙ ap (λ (i : ℕ). get_or xs i 0) {x = j} {y = n * 0 + j} (omega arith)
chunk_at n (suc k) xs (suc q) j h l =
    chunk_at n k (drop n xs) q j (omega arith) l ∙ get_or-drop n xs (n * q + j) 0
    ∙ ap (λ (i : ℕ). get_or xs i 0) {x = n + (n * q + j)} {y = n * suc q + j} (omega arith)
