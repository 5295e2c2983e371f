-- A loop that descriptors fill: from each cursor in it a descriptor stands, and the next cursor is by its length.
-- Assumes nothing.
use mathlib.Core.Path.{◌≡◌, refl, sym, ap, ◌∙◌}
use mathlib.Core.List.{List, []}
use Prim.Native.Nat.{ℕ, ◌+◌, ◌*◌, ◌≤◌, ◌<◌}
use native.Mathlib.Omega.{arith}
use lib.ListN.{length, get_or}
use Rattle.bits.specs.Bits.{bit, num}
use Rattle.bits.proofs.Bytes.{AreBytes}
use Rattle.grammar.specs.Meaning.{Outcome, breach, ends, run}
use Rattle.grammar.specs.Tables.{splice_descriptor}
use Rattle.grammar.proofs.Run.{swept, swept_on, swept_off}
use Rattle.grammar.proofs.Places.{octet}
use Rattle.descriptors.specs.declared.Cursor.{Cursor}
use Rattle.descriptors.specs.declared.Kind.{Kind}
use Rattle.descriptors.specs.Walk.{Step, kind_of, step_of}
use Rattle.std.specs.Prelude.{Some, None, Ok, Err}
use Rattle.descriptors.proofs.Walk.{Stepped, stepped, stuck, at_end, descriptor_end}

-- descriptors fill the loop from its cursor on, and it lies within the bytes
abbrev pub Filled : List ℕ → Cursor → Type 0
Filled s c = (c.end ≤ length s) × (swept (run splice_descriptor [] (bit s) (8 * c.end)) (8 * c.end) (8 * c.at) ≡ ends (8 * c.end))

-- the cursor after the descriptor at c, by its length
abbrev pub following : List ℕ → Cursor → Cursor
following s c = record { at = c.at + 2 + get_or s (c.at + 1) 0; end = c.end }

-- what stands before the loop's end
pub record Going (s : List ℕ) (c : Cursor) : Type 0 where
  pub steps : step_of s c ≡ Ok (Some (kind_of s c.at, following s c))
  pub filled : Filled s (following s c)
  pub inside : (following s c).at ≤ c.end

module _ (s : List ℕ) (hs : AreBytes s) (c : Cursor) where
  -- an end is no breach
  no_breach : {A : Type 0} {k : ℕ} → breach 0 ≡ ends k → A
  no_breach e = let z : ◌≡◌ {A = ℕ} 0 1 = cc in absurd (omega arith)

  -- the cursor that a step goes to is the one by the length
  by_length : (kind : Kind) (next : Cursor) → Stepped s c kind next → next ≡ following s c
  by_length kind next step =
      let end = descriptor_end [] (bit s) (8 * c.end) (8 * c.at) (8 * next.at) (step.runs_to []) in
      let byte : num (bit s) (8 * c.at + 8) 8 ≡ get_or s (c.at + 1) 0 = octet s (c.at + 1) (8 * c.at + 8) (hs (c.at + 1)) (omega arith) in
      let place : next.at ≡ c.at + 2 + get_or s (c.at + 1) 0 = omega (arith, end.0, byte) in
      λ i. record { at = place i; end = step.same_end i }

  pub going : Filled s c → c.at < c.end → Going s c
  going h l = go (step_of s c) refl
    where
      g : ℕ → Outcome
      g = run splice_descriptor [] (bit s) (8 * c.end)

      go : (σ : Step) → step_of s c ≡ σ → Going s c
      go (Ok None) q = absurd (omega (arith, at_end s c q))
      go (Err refusal) q =
          let held = stuck s c refusal q h.0 in
          no_breach (sym (swept_off g (8 * c.end) (8 * c.at) 0 (omega arith) (held.breaks [])) ∙ h.1)
      go (Ok (Some (kind, next))) q =
          let step = stepped s c kind next q in
          let same = by_length kind next step in
          record {
            steps = q ∙ λ i. Ok (Some (step.kind_is i, same i));
            filled = (
              h.0,
              sym (swept_on g (8 * c.end) (8 * c.at) (8 * (following s c).at) (omega arith)
                  (step.runs_to [] ∙ ap (λ (x : Cursor). ends (8 * x.at)) same) (omega arith)) ∙ h.1,
            );
            inside = omega (arith, step.inside, ap (λ (x : Cursor). x.at) same);
          }
