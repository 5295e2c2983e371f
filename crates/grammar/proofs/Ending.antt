-- The run of a table over a part, as the table's function answers it.
-- Assumes nothing.
use mathlib.Core.Path.{◌≡◌}
use mathlib.Core.List.{List}
use Prim.Native.Nat.{ℕ, ◌+◌, ◌*◌, ◌≤◌, ◌<◌}
use Prim.Native.String.{String}
use native.Mathlib.Omega.{arith}
use Rattle.std.specs.Prelude.{Option, Some, None, IfSome, IfNone}
use Rattle.bits.specs.Bits.{bit}
use Rattle.grammar.specs.declared.Part.{Part}
use Rattle.grammar.specs.Syntax.{Item, Prog, done, fields, repeat}
use Rattle.grammar.specs.Meaning.{Env, width, value_of}
use Rattle.grammar.specs.Ended.{outcome}
use Rattle.grammar.proofs.Run.{Runs, pass, short, finished, all_there, not_all_there}

-- the table, run over the part after these values were read, ends where the answer says
abbrev pub Ends : Prog → Env → Part → Option ℕ → Type 0
Ends p env part r = Runs p env (bit part.s.now) (8 * part.end) (8 * part.at) (outcome r)

-- rows, the last of a table, of which as many bytes are asked as they take
pub last_rows : {rows : List Item} {env : Env} {f : ℕ → ℕ} {k : ℕ} (at end n : ℕ) (r : Option ℕ)
    → IfSome r (λ j. (j ≡ at + n) × (j ≤ end)) → IfNone r (end < at + n) → k + width rows ≡ 8 * (at + n)
    → Runs (fields rows done) env f (8 * end) k (outcome r)
last_rows at end n (Some j) there few e = pass (omega (arith, there.0, there.1, e)) (finished (omega (arith, there.0, e)))
last_rows at end n None there few e = short (omega (arith, few, e))

-- the same of so many of them, one after the other
pub last_repeat : {name : String} {rows : List Item} {env : Env} {f : ℕ → ℕ} {k : ℕ} (at end n m : ℕ) (r : Option ℕ)
    → IfSome r (λ j. (j ≡ at + n) × (j ≤ end)) → IfNone r (end < at + n) → value_of env name ≡ m → k ≤ 8 * end → k + m * width rows ≡ 8 * (at + n)
    → Runs (repeat name (fields rows done) done) env f (8 * end) k (outcome r)
last_repeat at end n m (Some j) there few v l e = all_there m v (omega (arith, there.0, there.1, e)) (finished (omega (arith, there.0, e)))
last_repeat at end n m None there few v l e = not_all_there m v l (omega (arith, few, e))
