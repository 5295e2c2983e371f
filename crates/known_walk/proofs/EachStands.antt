-- Every known descriptor that the walk from a cursor finds stands there, in whole.
-- Assumes nothing.
use mathlib.Core.Path.{◌≡◌, refl, sym, subst}
use mathlib.Core.Bool.{Bool, true, false}
use mathlib.Core.List.{List, [], ◌∷◌}
use mathlib.Core.Logic.{◌⊎◌, inl, inr, ⊎_elim}
use Prim.Native.Nat.{ℕ, zero, suc, ◌-◌, ◌≤◌}
use native.Mathlib.Omega.{arith}
use lib.ListN.{length}
use Rattle.bits.proofs.Cases.{le_or_lt}
use Rattle.descriptors.specs.declared.Cursor.{Cursor}
use Rattle.descriptors.specs.declared.Kind.{Kind}
use Rattle.descriptors.specs.Walk.{Step, step_of}
use Rattle.descriptors.specs.Loop.{walked, trace_at}
use Rattle.descriptors.proofs.Walk.{nothing_left}
use Rattle.known_walk.specs.Known.{is_known, known_among, known_cursors, nowhere, numbered, known_trace}
use Rattle.known_walk.specs.Places.{Stands}
use Rattle.known_walk.proofs.Stands.{stands}
use Rattle.known_walk.proofs.KnownAmong.{less_left, known_first, unknown_first, none_left, none_whole, in_section, too_long, no_trace}
use Rattle.std.specs.Prelude.{Some, None, Ok, Err}

-- a known descriptor stands at each of these cursors
abbrev pub AllStand : List ℕ → List Cursor → Type 0
AllStand s [] = Unit {0}
AllStand s (d ∷ ds) = Stands s d.at (trace_at s d) × AllStand s ds

-- by as many steps as the loop has bytes left
all_walked : (n : ℕ) (s : List ℕ) (c : Cursor) → length s ≤ 4096 → c.end - c.at ≤ n → AllStand s (known_among s (walked s c))
all_walked zero s c fits h = subst (AllStand s) (sym (none_left s c (nothing_left s c (omega arith)))) tt
all_walked (suc n) s c fits h = go (all_walked n s) (step_of s c) refl
  where
    known : (kind : Kind) (next : Cursor) (b : Bool) → is_known kind ≡ b → step_of s c ≡ Ok (Some (kind, next))
        → AllStand s (known_among s (walked s next)) → AllStand s (known_among s (walked s c))
    known kind next true k e later = subst (AllStand s) (sym (known_first s c kind next e k)) (stands s c kind next fits e k, later)
    known kind next false k e later = subst (AllStand s) (sym (unknown_first s c kind next e k)) later

    go : ((d : Cursor) → length s ≤ 4096 → d.end - d.at ≤ n → AllStand s (known_among s (walked s d))) → (σ : Step) → step_of s c ≡ σ
        → AllStand s (known_among s (walked s c))
    go rest (Ok (Some (kind, next))) e = known kind next (is_known kind) refl e (rest next fits (omega (arith, less_left s c kind next e)))
    go rest (Ok None) e = subst (AllStand s) (sym (none_left s c e)) tt
    go rest (Err refusal) e = subst (AllStand s) (sym (none_whole s c refusal e)) tt

pub each_stands : (s : List ℕ) (c : Cursor) → AllStand s (known_cursors s c)
each_stands s c =
    ⊎_elim (λ h. subst (AllStand s) (sym (in_section s c h)) (all_walked (c.end - c.at) s c h (omega arith)))
    (λ h. subst (AllStand s) (sym (too_long s c h)) tt)
    (le_or_lt (length s) 4096)

-- ---- by number

at_number : (s : List ℕ) (cs : List Cursor) (n : ℕ) → AllStand s cs
    → (numbered cs n ≡ nowhere) ⊎ Stands s (numbered cs n).at (trace_at s (numbered cs n))
unfolding numbered
at_number s [] n h = inl refl
at_number s (c ∷ cs) zero h = inr h.0
at_number s (c ∷ cs) (suc n) h = at_number s cs n h.1

pub stands_or_none : (s : List ℕ) (c : Cursor) (n : ℕ)
    → (known_trace s c n ≡ []) ⊎ Stands s (numbered (known_cursors s c) n).at (known_trace s c n)
unfolding known_trace
stands_or_none s c n = ⊎_elim (λ e. inl (no_trace s c n e)) inr (at_number s (known_cursors s c) n (each_stands s c))
