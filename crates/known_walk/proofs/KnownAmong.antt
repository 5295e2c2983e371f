-- The known descriptors that a walk finds: what a step from its cursor says of them.
-- Assumes nothing.
use mathlib.Core.Path.{◌≡◌, refl, sym, ap, ◌∙◌}
use mathlib.Core.Bool.{Bool, true, false, cond}
use mathlib.Core.List.{List, [], ◌∷◌}
use Prim.Native.Nat.{ℕ, zero, suc, ◌-◌, ◌≤◌, ◌<◌}
use native.Mathlib.Omega.{arith}
use lib.ListN.{length}
use borrow.Author.Tests.{le-leb, lt-leb}
use Rattle.grammar.specs.Meaning.{read}
use Rattle.grammar.specs.Tables.{splice_descriptor}
use Rattle.grammar.specs.Traces.{trace_of}
use Rattle.descriptors.specs.declared.Cursor.{Cursor}
use Rattle.descriptors.specs.declared.Kind.{Kind}
use Rattle.descriptors.specs.Walk.{Step, step_of}
use Rattle.descriptors.specs.Loop.{on_step, walk, walked, trace_at}
use Rattle.descriptors.proofs.Walk.{nothing_left, stepped}
use Rattle.known_walk.specs.Known.{is_known, known_among, known_cursors, nowhere, numbered, known_trace}
use Rattle.std.specs.Prelude.{Some, None, Ok, Err}
use Rattle.units.specs.declared.refusals.Refusal.{Refusal}

-- ---- the walk

-- at the end it finds nothing, in however many steps
over : (n : ℕ) (s : List ℕ) (c : Cursor) → c.end ≤ c.at → walk n s c ≡ []
unfolding walk on_step
over zero s c h = refl
over (suc n) s c h = ap (λ (σ : Step). on_step σ c (walk n s)) (nothing_left s c h)

-- how many steps it may make does not matter, where there are enough
steps : (n m : ℕ) (s : List ℕ) (c : Cursor) → c.end - c.at ≤ n → c.end - c.at ≤ m → walk n s c ≡ walk m s c
unfolding walk on_step
steps zero m s c h l = sym (over m s c (omega arith))
steps (suc n) zero s c h l = over (suc n) s c (omega arith)
steps (suc n) (suc m) s c h l = go (steps n m s) (step_of s c) refl
  where
    go : ((d : Cursor) → d.end - d.at ≤ n → d.end - d.at ≤ m → walk n s d ≡ walk m s d) → (σ : Step) → step_of s c ≡ σ
        → on_step σ c (walk n s) ≡ on_step σ c (walk m s)
    go rest (Ok (Some (kind, next))) e =
        let on = stepped s c kind next e in
        ap (λ (cs : List Cursor). c ∷ cs) (rest next (omega (arith, on.further, on.inside, on.same_end)) (omega (arith, on.further, on.inside, on.same_end)))
    go rest (Ok None) e = refl
    go rest (Err refusal) e = refl

-- it goes by the step at its cursor
by_step : (s : List ℕ) (c : Cursor) (σ : Step) → step_of s c ≡ σ → walked s c ≡ on_step σ c (walk (c.end - c.at) s)
unfolding walked walk
by_step s c σ e =
    steps (c.end - c.at) (suc (c.end - c.at)) s c (omega arith) (omega arith) ∙ ap (λ (σ : Step). on_step σ c (walk (c.end - c.at) s)) e

-- a step leaves less of the loop
pub less_left : (s : List ℕ) (c : Cursor) (kind : Kind) (next : Cursor) → step_of s c ≡ Ok (Some (kind, next)) → next.end - next.at < c.end - c.at
less_left s c kind next e = let on = stepped s c kind next e in omega (arith, on.further, on.inside, on.same_end)

-- ---- the known ones among what is still to be walked

module _ (s : List ℕ) (c : Cursor) where
  -- a descriptor, and then what the walk finds from the next cursor on
  first : (kind : Kind) (next : Cursor) (b : Bool) → step_of s c ≡ Ok (Some (kind, next)) → is_known kind ≡ b
      → known_among s (walked s c) ≡ cond b (c ∷ known_among s (walked s next)) (known_among s (walked s next))
  unfolding on_step walked known_among
  first kind next b e known =
      let on = stepped s c kind next e in
      ap (known_among s)
      (by_step s c (Ok (Some (kind, next))) e
      ∙ ap (λ (cs : List Cursor). c ∷ cs) (steps (c.end - c.at) (next.end - next.at) s next (omega (arith, on.further, on.same_end)) (omega arith)))
      ∙ ap (λ (t : Bool). cond t (c ∷ known_among s (walked s next)) (known_among s (walked s next))) (ap is_known (sym on.kind_is) ∙ known)

  pub known_first : (kind : Kind) (next : Cursor) → step_of s c ≡ Ok (Some (kind, next)) → is_known kind ≡ true
      → known_among s (walked s c) ≡ c ∷ known_among s (walked s next)
  known_first kind next = first kind next true

  pub unknown_first : (kind : Kind) (next : Cursor) → step_of s c ≡ Ok (Some (kind, next)) → is_known kind ≡ false
      → known_among s (walked s c) ≡ known_among s (walked s next)
  unknown_first kind next = first kind next false

  -- none, where nothing is left
  pub none_left : step_of s c ≡ Ok None → known_among s (walked s c) ≡ []
  unfolding on_step known_among
  none_left e = ap (known_among s) (by_step s c (Ok None) e)

  -- and none where what is left is broken
  pub none_whole : (refusal : Refusal) → step_of s c ≡ Err refusal → known_among s (walked s c) ≡ []
  unfolding on_step known_among
  none_whole refusal e = ap (known_among s) (by_step s c (Err refusal) e)

  -- ---- all of them

  pub in_section : length s ≤ 4096 → known_cursors s c ≡ known_among s (walked s c)
  unfolding known_cursors
  in_section h = ap (λ (t : Bool). cond t (known_among s (walked s c)) []) (le-leb (length s) 4096 h)

  pub too_long : 4096 < length s → known_cursors s c ≡ []
  unfolding known_cursors
  too_long h = ap (λ (t : Bool). cond t (known_among s (walked s c)) []) (lt-leb (length s) 4096 h)

-- ---- by number

module _ (s : List ℕ) (c : Cursor) (kind : Kind) (next : Cursor) (e : step_of s c ≡ Ok (Some (kind, next))) where
  pub number_first : is_known kind ≡ true → numbered (known_among s (walked s c)) 0 ≡ c
  unfolding numbered
  number_first h = ap (λ (cs : List Cursor). numbered cs 0) (known_first s c kind next e h)

  pub number_later : is_known kind ≡ true → (m : ℕ) → 0 < m → numbered (known_among s (walked s c)) m ≡ numbered (known_among s (walked s next)) (m - 1)
  unfolding numbered
  number_later h m l =
      let one_more : m ≡ suc (m - 1) = omega arith in
      ap (numbered (known_among s (walked s c))) one_more ∙ ap (λ (cs : List Cursor). numbered cs (suc (m - 1))) (known_first s c kind next e h)

  pub number_passed : is_known kind ≡ false → (m : ℕ) → numbered (known_among s (walked s c)) m ≡ numbered (known_among s (walked s next)) m
  number_passed h m = ap (λ (cs : List Cursor). numbered cs m) (unknown_first s c kind next e h)

pub number_none : (cs : List Cursor) (m : ℕ) → cs ≡ [] → numbered cs m ≡ nowhere
unfolding numbered
number_none cs m e = ap (λ (cs : List Cursor). numbered cs m) e

-- nothing was read of a descriptor that is not there
pub no_trace : (s : List ℕ) (c : Cursor) (n : ℕ) → numbered (known_cursors s c) n ≡ nowhere → known_trace s c n ≡ []
unfolding known_trace trace_at splice_descriptor read trace_of
no_trace s c n e = ap (trace_at s) e
