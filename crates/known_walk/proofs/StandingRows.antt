-- The rows of the known descriptor at a cursor, by what a step from there finds.
-- Assumes nothing.
use mathlib.Core.Path.{◌≡◌, refl, ap, ◌∙◌}
use mathlib.Core.Bool.{Bool, true, false, cond}
use mathlib.Core.List.{List, []}
use Prim.Native.Nat.{ℕ, ◌≤◌, ◌<◌}
use lib.ListN.{length}
use borrow.Author.Tests.{le-leb, lt-leb}
use Rattle.grammar.specs.Traces.{Trace}
use Rattle.descriptors.specs.declared.Cursor.{Cursor}
use Rattle.descriptors.specs.declared.Kind.{Kind}
use Rattle.descriptors.specs.Walk.{Step, step_of}
use Rattle.descriptors.specs.Loop.{trace_at}
use Rattle.known_walk.specs.Known.{is_known, of_known, standing_trace}
use Rattle.std.specs.Prelude.{Some, None, Ok, Err}

-- a step that finds none
other : (σ : Step) (t : Trace) → ((kind : Kind) (next : Cursor) → σ ≡ Ok (Some (kind, next)) → ⊥) → of_known σ t ≡ []
other (Ok (Some (kind, next))) t h = absurd (h kind next refl)
other (Ok None) t h = refl
other (Err refusal) t h = refl

module _ (s : List ℕ) (c : Cursor) where
  pub too_long_here : 4096 < length s → standing_trace s c ≡ []
  unfolding standing_trace
  too_long_here h = ap (λ (b : Bool). cond b (of_known (step_of s c) (trace_at s c)) []) (lt-leb (length s) 4096 h)

  by_step : (σ : Step) → length s ≤ 4096 → step_of s c ≡ σ → standing_trace s c ≡ of_known σ (trace_at s c)
  unfolding standing_trace
  by_step σ h e = (λ i. cond (le-leb (length s) 4096 h i) (of_known (e i) (trace_at s c)) [])

  pub none_here : (σ : Step) → length s ≤ 4096 → step_of s c ≡ σ → ((kind : Kind) (next : Cursor) → σ ≡ Ok (Some (kind, next)) → ⊥) → standing_trace s c ≡ []
  none_here σ h e o = by_step σ h e ∙ other σ (trace_at s c) o

  -- a descriptor, and a known one
  pub known_here : (kind : Kind) (next : Cursor) → length s ≤ 4096 → step_of s c ≡ Ok (Some (kind, next)) → is_known kind ≡ true
      → standing_trace s c ≡ trace_at s c
  known_here kind next h e k = by_step (Ok (Some (kind, next))) h e ∙ ap (λ (b : Bool). cond b (trace_at s c) []) k

  pub unknown_here : (kind : Kind) (next : Cursor) → length s ≤ 4096 → step_of s c ≡ Ok (Some (kind, next)) → is_known kind ≡ false
      → standing_trace s c ≡ []
  unknown_here kind next h e k = by_step (Ok (Some (kind, next))) h e ∙ ap (λ (b : Bool). cond b (trace_at s c) []) k
