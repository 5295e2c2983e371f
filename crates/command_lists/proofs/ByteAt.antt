-- The bytes of a private command by their number: after its identifier, up to its end.
-- Assumes nothing.
use mathlib.Core.Path.{◌≡◌, refl, sym, ap, ◌∙◌}
use mathlib.Core.Bool.{Bool, true, false, cond}
use mathlib.Core.List.{List, [], append-nil}
use Prim.Native.Nat.{ℕ, ◌+◌, ◌-◌, ◌*◌, ◌≤◌, ◌<◌}
use native.Mathlib.Omega.{arith}
use Rattle.std.specs.Prelude.{Result, Ok, Err}
use lib.ListN.{length, get_or}
use lib.Dec.{ltb, eqb}
use borrow.Author.Tests.{eq-eqb, ne_eqb, le-ltb, lt-ltb}
use Rattle.bits.specs.Bits.{bit, num}
use Rattle.units.specs.declared.refusals.Refusal.{Refusal}
use Rattle.grammar.specs.Meaning.{values, reached, breach, end_of}
use Rattle.grammar.specs.Traces.{Trace}
use Rattle.grammar.specs.Names.{look, all_of}
use Rattle.grammar.proofs.Names.{fields_from, fields_length, fields_at}
use Rattle.grammar.proofs.Places.{octet}
use Rattle.command_reading.specs.Command.{command_reading, typed, command_trace}
use Rattle.command_lists.specs.Lists.{private_byte_of}
use Rattle.command_reading.proofs.Said.{trace_is, private_rows}
use Rattle.command_reading.proofs.Nothing.{type_alone}

-- byte n of these
abbrev of : List ℕ → ℕ → Result ℕ Refusal
of bytes n = cond (ltb n (length bytes)) (Ok (get_or bytes n 0)) (Err Refusal.NotHere)

-- where there is no command
pub no_byte : (s : List ℕ) (n : ℕ) → end_of (command_reading s) ≡ breach 0 → Err Refusal.NotHere ≡ private_byte_of (command_trace s) n
unfolding private_byte_of typed values look all_of
no_byte s n e =
    sym
    (ap (λ (t : Trace). private_byte_of t n) (type_alone s e)
    ∙ rw (no_bytes (eqb (num (bit s) 104 8) 0xFF), le-ltb n 0 (omega arith)))
  where
    no_bytes : (b : Bool) → ◌≡◌ {A = List ℕ} (cond b [] []) []
    no_bytes true = refl
    no_bytes false = refl

module _ (s : List ℕ) (end n : ℕ) (t : Trace) (e : command_reading s ≡ reached (8 * end) t) where
  pub not_private : (num (bit s) 104 8 ≡ 0xFF → ⊥) → Err Refusal.NotHere ≡ private_byte_of (command_trace s) n
  unfolding private_byte_of typed values look
  not_private h =
      sym (ap (λ (u : Trace). private_byte_of u n) (trace_is s end t e) ∙ rw (ne_eqb _ 0xFF h, le-ltb n 0 (omega arith)))

  module _ (h : num (bit s) 104 8 ≡ 0xFF) where
    -- the bytes up to the end
    same : private_byte_of (command_trace s) n ≡ of (fields_from (bit s) 8 (end - 18) 144) n
    unfolding private_byte_of typed values look all_of
    same =
        ap (λ (u : Trace). private_byte_of u n) (trace_is s end t e)
        ∙ ap (λ (b : Bool). of (cond b (all_of t "private_byte") []) n) (eq-eqb _ 0xFF h)
        ∙ ap (λ (u : List ℕ). of u n) (private_rows s end t e h).bytes

    count : length (fields_from (bit s) 8 (end - 18) 144) ≡ end - 18
    count = fields_length (bit s) 8 (end - 18) 144

    pub no_more : end - 18 ≤ n → Err Refusal.NotHere ≡ private_byte_of (command_trace s) n
    no_more l = sym (same ∙ rw (le-ltb n (length (fields_from (bit s) 8 (end - 18) 144)) (omega (arith, count))))

    pub byte_at : n < end - 18 → get_or s (18 + n) 0 < 256 → Ok (get_or s (18 + n) 0) ≡ private_byte_of (command_trace s) n
    byte_at l small =
        let value : get_or (fields_from (bit s) 8 (end - 18) 144) n 0 ≡ get_or s (18 + n) 0 =
        ap (λ (u : List ℕ). get_or u n 0) (sym (append-nil (fields_from (bit s) 8 (end - 18) 144)))
        ∙ fields_at (bit s) 8 (end - 18) 144 n [] l
        ∙ octet s (18 + n) (144 + n * 8) small (omega arith) in
        sym (same ∙ rw (lt-ltb n (length (fields_from (bit s) 8 (end - 18) 144)) (omega (arith, count))) (ap Ok value))
