-- The value of a reserved field moves nothing else, by any grammar.
-- Assumes nothing.
use mathlib.Core.Path.{◌≡◌, refl, sym}
use mathlib.Core.List.{[], ◌∷◌, ◌++◌}
use Prim.Native.Nat.{ℕ, ◌+◌}
use Rattle.bits.specs.Bits.{num}
use Rattle.bits.proofs.Num.{Bits}
use Rattle.grammar.specs.Syntax.{Item, Prog, field, reserved}
use Rattle.grammar.specs.Meaning.{Env, width_of, values, reached, read}
use Rattle.grammar.specs.Traces.{Trace, rows_of, numbers, Keeps, NamedSpans, Alike}
use Rattle.grammar.proofs.RoundTrip.{read_write, write_named}

-- bits that make the named values of a trace give one that is alike
pub named_alike : (g : ℕ → ℕ) (k : ℕ) (t : Trace) → NamedSpans g k t → Alike t (values (rows_of t) g k)
unfolding rows_of values
named_alike g k [] h = tt
named_alike g k (x ∷ t) h =
    (refl, back x.0 (num g k (width_of x.0)) x.1 h.0, named_alike g (k + width_of x.0) t h.1)
  where
    back : (i : Item) (v v' : ℕ) → Keeps i v v' → Keeps i v' v
    back (field w n) v v' e = sym e
    back (reserved w) v v' e = tt

-- where g makes the named values of what was read from f, reading from g ends at the same place with the same rows and the
-- same named values
pub reserved_moves_nothing : (p : Prog) (env : Env) (f g : ℕ → ℕ) → Bits f → (end k j : ℕ) (t : Trace) → read p env f end k ≡ reached j t
    → NamedSpans g k t → (t' : Trace) × (read p env g end k ≡ reached j t') × Alike t t'
reserved_moves_nothing p env f g b end k j t e h = (
  values (rows_of t) g k,
  write_named p env end k (numbers t ++ []) j t [] (read_write p env f b end k j t e []) g h,
  named_alike g k t h,
)
