-- What private_command() tells (Table 13): its identifier, and the bytes up to its end.
-- Assumes nothing.
use mathlib.Core.Path.{◌≡◌, refl, sym, ap, ◌∙◌}
use mathlib.Core.List.{List, [], ◌∷◌, append-nil}
use Prim.Native.Nat.{ℕ, ◌-◌, ◌*◌, ◌≤◌}
use native.Mathlib.Omega.{arith}
use lib.ListN.{length}
use Rattle.bits.specs.Bits.{bit, field_of}
use Rattle.bits.proofs.Within.{there}
use Rattle.grammar.specs.Syntax.{field}
use Rattle.grammar.specs.Meaning.{Env, values}
use Rattle.grammar.specs.Tables.{private_command}
use Rattle.grammar.specs.Traces.{Trace}
use Rattle.grammar.specs.Names.{look, all_of}
use Rattle.grammar.proofs.Names.{fields_from, all_many}
use Rattle.grammar.proofs.Telling.{Tells, many, rows, to_end}

-- the rows t of a private command up to byte `end`
pub record Private (s : List ℕ) (end : ℕ) (t : Trace) : Type 0 where
  pub long : 18 ≤ end
  pub identifier : look t "identifier" ≡ field_of s 112 32
  pub bytes : all_of t "private_byte" ≡ fields_from (bit s) 8 (end - 18) 144

pub private_tells : (s : List ℕ) (env : Env) (stop octets : ℕ) → stop ≡ 8 * octets → stop ≤ 8 * length s
    → Tells (λ j t. (end : ℕ) → j ≡ 8 * end → Private s end t) private_command env (bit s) stop 112
unfolding private_command values look all_of
private_tells s env stop octets whole fits =
    rows
    (λ m.
    to_end (octets - 18) (omega arith)
    (λ end q.
    let same : octets ≡ end = omega arith in
    let rest : Trace = many (octets - 18) (field 8 "private_byte" ∷ []) (bit s) 144 in
    record {
      long = omega arith;
      identifier = there s 112 112 32 refl (omega arith) (omega arith);
      bytes =
          ap (λ (t : Trace). all_of t "private_byte") (sym (append-nil rest))
          ∙ all_many "private_byte" 8 refl (bit s) (octets - 18) 144 []
          ∙ append-nil (fields_from (bit s) 8 (octets - 18) 144)
          ∙ ap (λ (n : ℕ). fields_from (bit s) 8 (n - 18) 144) same;
    }))
