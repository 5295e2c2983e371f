-- The walk over the descriptor loop as runs of Table 17: which run makes which step, and what a step says of the run.
-- Assumes nothing.
use mathlib.Core.Path.{◌≡◌, refl, sym, ap, ◌∙◌}
use mathlib.Core.List.{List, []}
use mathlib.Core.Logic.{⊎_elim}
use Prim.Native.Nat.{ℕ, ◌+◌, ◌*◌, ◌/◌, ◌≤◌, ◌<◌}
use native.Mathlib.Omega.{arith}
use lib.ListN.{length}
use borrow.Author.Tests.{le-leb, lt-leb, le-ltb, lt-ltb}
use Rattle.bits.specs.Bits.{bit, num}
use Rattle.bits.proofs.Cases.{le_or_lt}
use Rattle.grammar.specs.Meaning.{Env, Outcome, breach, ends, run}
use Rattle.grammar.specs.Tables.{avail_descriptor, dtmf_descriptor, delivery, segmentation_components, segmentation_end, segmentation_descriptor, time_descriptor, audio_descriptor, known_descriptor, splice_descriptor}
use Rattle.grammar.proofs.Run.{Runs}
use Rattle.descriptors.specs.declared.Cursor.{Cursor}
use Rattle.descriptors.specs.declared.Kind.{Kind}
use Rattle.descriptors.specs.Walk.{kind_of, found, step_of}
use Rattle.std.specs.Prelude.{Some, None, Ok, Err}
use Rattle.units.specs.declared.refusals.Refusal.{Refusal}
use Rattle.grammar.proofs.Scope.{scoped, same_run}
use Rattle.grammar.proofs.Plain.{giving, breach_bare}
use Rattle.grammar.proofs.Frames.{fields_end, frame_end}

-- ---- Table 17 itself

-- it runs the same in every environment
pub same_descriptor : (env env' : Env) (f : ℕ → ℕ) (end k : ℕ) → run splice_descriptor env f end k ≡ run splice_descriptor env' f end k
unfolding scoped avail_descriptor dtmf_descriptor delivery segmentation_components segmentation_end segmentation_descriptor time_descriptor audio_descriptor known_descriptor splice_descriptor
same_descriptor = same_run splice_descriptor refl

-- it breaks with no number of its own
pub bare_descriptor : (env : Env) (f : ℕ → ℕ) (end k n : ℕ) → run splice_descriptor env f end k ≡ breach n → n ≡ 0
unfolding giving avail_descriptor dtmf_descriptor delivery segmentation_components segmentation_end segmentation_descriptor time_descriptor audio_descriptor known_descriptor splice_descriptor
bare_descriptor = breach_bare splice_descriptor refl

-- it ends whole bytes after its tag and its length, within the part
pub descriptor_end : (env : Env) (f : ℕ → ℕ) (end k j : ℕ) → run splice_descriptor env f end k ≡ ends j
    → (j ≡ k + 16 + 8 * num f (k + 8) 8) × (j ≤ end)
unfolding splice_descriptor
descriptor_end env f end k j e = frame_end _ _ _ f end (k + 16) j (fields_end _ _ env f end k j e)

-- ---- a run makes a step

module _ (s : List ℕ) (c : Cursor) where
  pub nothing_left : c.end ≤ c.at → step_of s c ≡ Ok None
  unfolding step_of
  nothing_left h = rw (le-leb c.end c.at h)

  pub past_bytes : c.at < c.end → length s < c.end → step_of s c ≡ Err Refusal.Descriptor
  unfolding step_of
  past_bytes h l = rw (lt-leb c.end c.at h, lt-ltb (length s) c.end l)

  by_run : (o : Outcome) → c.at < c.end → c.end ≤ length s → run splice_descriptor [] (bit s) (8 * c.end) (8 * c.at) ≡ o
      → step_of s c ≡ found s c o
  unfolding step_of
  by_run o h l e = rw (lt-leb c.end c.at h, le-ltb (length s) c.end l, e)

  pub broken_off : c.at < c.end → c.end ≤ length s → Runs splice_descriptor [] (bit s) (8 * c.end) (8 * c.at) (breach 0) → step_of s c ≡ Err Refusal.Descriptor
  unfolding found
  broken_off h l r = by_run (breach 0) h l r.runs

  pub descriptor_at_lem : (n : ℕ) → c.at < c.end → c.end ≤ length s → Runs splice_descriptor [] (bit s) (8 * c.end) (8 * c.at) (ends (8 * n))
      → step_of s c ≡ Ok (Some (kind_of s c.at, record { at = n; end = c.end }))
  unfolding found
  descriptor_at_lem n h l r =
      let place : 8 * n / 8 ≡ n = omega arith in
      by_run (ends (8 * n)) h l r.runs ∙ ap (λ (x : ℕ). Ok (Some (kind_of s c.at, record { at = x; end = c.end }))) place

-- ---- what a step says

-- of a step to `next`
pub record Stepped (s : List ℕ) (c : Cursor) (kind : Kind) (next : Cursor) : Type 0 where
  -- the loop lies within the bytes
  pub within : c.end ≤ length s
  -- the walk goes on, and stays in the loop
  pub further : c.at < next.at
  pub inside : next.at ≤ c.end
  pub same_end : next.end ≡ c.end
  -- the kind is what the identifier and the tag say
  pub kind_is : kind ≡ kind_of s c.at
  -- Table 17 runs from the cursor to the next
  pub runs_to : (env : Env) → run splice_descriptor env (bit s) (8 * c.end) (8 * c.at) ≡ ends (8 * next.at)

-- of a broken one in a loop that lies within the bytes
pub record Stuck (s : List ℕ) (c : Cursor) : Type 0 where
  pub before_end : c.at < c.end
  pub breaks : (env : Env) → run splice_descriptor env (bit s) (8 * c.end) (8 * c.at) ≡ breach 0

-- nothing is left, or the loop reaches past the bytes, or the run at the cursor makes the step
cases : {A : Type 0} (s : List ℕ) (c : Cursor) → (c.end ≤ c.at → step_of s c ≡ Ok None → A) → (length s < c.end → step_of s c ≡ Err Refusal.Descriptor → A)
    → (c.at < c.end → c.end ≤ length s → (o : Outcome) → run splice_descriptor [] (bit s) (8 * c.end) (8 * c.at) ≡ o → step_of s c ≡ found s c o → A)
    → A
cases {A} s c none past there =
    ⊎_elim (λ h. none h (nothing_left s c h))
    (λ h. ⊎_elim (λ l. there h l _ refl (by_run s c _ h l refl)) (λ l. past l (past_bytes s c h l)) (le_or_lt c.end (length s)))
    (le_or_lt c.end c.at)

pub stepped : (s : List ℕ) (c : Cursor) (kind : Kind) (next : Cursor) → step_of s c ≡ Ok (Some (kind, next)) → Stepped s c kind next
unfolding found
stepped s c kind next e = cases s c (λ h q. cc) (λ h q. cc) go
  where
    go : c.at < c.end → c.end ≤ length s → (o : Outcome) → run splice_descriptor [] (bit s) (8 * c.end) (8 * c.at) ≡ o
        → step_of s c ≡ found s c o → Stepped s c kind next
    go h l (breach n) r q = cc
    go h l (ends j) r q =
        let end = descriptor_end [] (bit s) (8 * c.end) (8 * c.at) j r in
        let found-is : ◌≡◌ {A = Kind × Cursor} (kind_of s c.at, record { at = j / 8; end = c.end }) (kind, next) = cc in
        let place : j / 8 ≡ next.at = ap (λ (p : Kind × Cursor). p.1.at) found-is in
        let whole : j ≡ 8 * next.at = omega arith in
        record {
          within = l;
          further = omega arith;
          inside = omega arith;
          same_end = sym (ap (λ (p : Kind × Cursor). p.1.end) found-is);
          kind_is = sym (ap (λ (p : Kind × Cursor). p.0) found-is);
          runs_to = λ env. same_descriptor env [] (bit s) (8 * c.end) (8 * c.at) ∙ r ∙ ap ends whole;
        }

pub stuck : (s : List ℕ) (c : Cursor) (refusal : Refusal) → step_of s c ≡ Err refusal → c.end ≤ length s → Stuck s c
unfolding found
stuck s c refusal e fits = cases s c (λ h q. cc) (λ h q. absurd (omega arith)) go
  where
    go : c.at < c.end → c.end ≤ length s → (o : Outcome) → run splice_descriptor [] (bit s) (8 * c.end) (8 * c.at) ≡ o
        → step_of s c ≡ found s c o → Stuck s c
    go h l (breach n) r q =
        record {
          before_end = h;
          breaks =
              λ env.
              same_descriptor env [] (bit s) (8 * c.end) (8 * c.at) ∙ r ∙ ap breach (bare_descriptor [] (bit s) (8 * c.end) (8 * c.at) n r);
        }
    go h l (ends j) r q = cc

-- where nothing is left, the cursor is at the end
pub at_end : (s : List ℕ) (c : Cursor) → step_of s c ≡ Ok None → c.end ≤ c.at
unfolding found
at_end s c e = cases s c (λ h q. h) (λ h q. cc) go
  where
    go : c.at < c.end → c.end ≤ length s → (o : Outcome) → run splice_descriptor [] (bit s) (8 * c.end) (8 * c.at) ≡ o
        → step_of s c ≡ found s c o → c.end ≤ c.at
    go h l (breach n) r q = cc
    go h l (ends j) r q = cc
