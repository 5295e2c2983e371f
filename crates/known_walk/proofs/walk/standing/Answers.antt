-- `known_walk::walk::standing` meets its contract.
-- Assumes nothing.
use mathlib.Core.Path.{◌≡◌, refl, sym, ◌∙◌, subst}
use native.Mathlib.Omega.{arith}
use Rattle.std.specs.Prelude.{ℕ, ◌≤◌, Bool, true, false, List, length, Some, None, Ok, Err}
use Rattle.std.specs.Bool.{then_some}
use Rattle.descriptors.specs.declared.Cursor.{Cursor}
use Rattle.descriptors.specs.declared.Kind.{Kind}
use Rattle.descriptors.specs.Walk.{step_of}
use Rattle.known_walk.specs.Known.{is_known, standing_trace}
use Rattle.known_walk.specs.Places.{Stands, PlacedAt}
use Rattle.known_walk.proofs.Stands.{stands}
use Rattle.known_walk.proofs.StandingRows.{too_long_here, none_here, known_here, unknown_here}
use Rattle.known_walk.proofs.walk.standing.Goals as goal

pub returns-then-s-gt-MOST_SECTION : goal.returns-then-s-gt-MOST_SECTION
returns-then-s-gt-MOST_SECTION c = let a = c.args in too_long_here a.s.now a.cursor (omega arith)

pub returns-in_default : goal.returns-in_default
returns-in_default c =
    let a = c.args in
    let none : step_of a.s.now a.cursor ≡ Ok None = cc in
    none_here a.s.now a.cursor (Ok None) (omega arith) none (λ kind next e. cc)

pub returns-in_default-2 : goal.returns-in_default-2
returns-in_default-2 c =
    let a = c.args in
    none_here a.s.now a.cursor (Err c.in_default.field-0) (omega arith) (sym c.step.ensures ∙ c.in_default.is) (λ kind next e. cc)

-- a descriptor is answered for where its kind is known
by_known : (s : List ℕ) (c : Cursor) (kind : Kind) (next : Cursor) (b : Bool) → length s ≤ 4096 → step_of s c ≡ Ok (Some (kind, next)) → is_known kind ≡ b
    → PlacedAt s c.at (standing_trace s c) (then_some b c.at)
by_known s c kind next true h e k = (refl, subst (Stands s c.at) (sym (known_here s c kind next h e k)) (stands s c kind next h e k))
by_known s c kind next false h e k = unknown_here s c kind next h e k

pub returns : goal.returns
returns c =
    let step_is : step_of c.args.s.now c.args.cursor ≡ Ok (Some (c.in-Ok-Some.kind, c.in-Ok-Some.field-0-0-1)) = cc in
    let a = c.args in
    rw c.then_some.ensures (by_known a.s.now a.cursor c.in-Ok-Some.kind c.in-Ok-Some.field-0-0-1 c.is_known.result (omega arith) step_is (sym c.is_known.ensures))
