-- `fields::Fields::lay` meets its contract. The loop's invariant: the bits of the widths so far.
-- Assumes nothing.
use mathlib.Core.Path.{◌≡◌, ap, ◌∙◌}
use mathlib.Core.List.{List, [], ◌∷◌, ◌++◌}
use Prim.Native.Nat.{ℕ, ◌+◌, ◌-◌, ◌≤◌, ◌<◌}
use native.Mathlib.Omega.{arith}
use lib.ListN.{length, get_or, take, drop}
use lib.Seq.{sets-eq}
use borrow.Author.Tests.{le-leb, lt-leb}
use borrow.Rule.Slice.PartMut.{put_mid}
use Rattle.std.proofs.lemmas.List.{take_more}
use Rattle.std.proofs.lemmas.Grind.{common_steps}
use Rattle.std.proofs.Common.{append_assoc}
use Rattle.fields.specs.Fields.{Plan, total, advance, laid}
use Rattle.fields.specs.SoFar.{so_far}
use Rattle.fields.proofs.Fields.lay.Goals as goal

-- the memory has no room for the group
full : (ws : List ℕ) (π : Plan) → length π.widths < π.number + length ws → π ≡ laid ws π
unfolding laid
full ws π h = rw (lt-leb _ _ h)

put : (ws m : List ℕ) (n : ℕ) → put_mid n (n + length ws - n) m ws ≡ take n m ++ ws ++ drop (n + length ws) m
put ws m n = grind (arith, common_steps, append_assoc)

-- it has: the bits are all of the group's, and its widths stand behind those so far
fits : (ws : List ℕ) (π : Plan) {at : ℕ} {m : List ℕ} → π.number + length ws ≤ length π.widths → at ≡ π.at + total ws
    → m ≡ put_mid π.number (π.number + length ws - π.number) π.widths ws → record { at = at; number = π.number + length ws; widths = m } ≡ laid ws π
unfolding laid advance
fits ws π h e q = rw (le-leb _ _ h, e, q, sets-eq ws π.widths π.number h) (ap (λ (l : List ℕ). record { at = π.at + total ws; number = π.number + length ws; widths = l }) (put ws π.widths π.number))

total_last : (ws : List ℕ) (w : ℕ) → total (ws ++ w ∷ []) ≡ total ws + w
total_last [] w = omega arith
total_last (v ∷ ws) w = omega (arith, total_last ws w)

pub returns-then-self-number-clause-plan : goal.returns-then-self-number-clause-plan
returns-then-self-number-clause-plan c = full _ _ (omega arith)

pub loop-width-preserved : goal.loop-width-preserved
loop-width-preserved c =
    let l = c.loop-width in
    let a = c.args in
    let next : take (l.width-index + 1) a.more.now ≡ take l.width-index a.more.now ++ get_or a.more.now l.width-index 0 ∷ [] = take_more _ _ 0 c.loop-width-test.true in
    (omega (arith, ap total next, total_last (take l.width-index a.more.now) (get_or a.more.now l.width-index 0)), omega arith)

pub returns-clause-plan : goal.returns-clause-plan
returns-clause-plan c =
    let l = c.loop-width in
    let a = c.args in
    let all : take l.width-index a.more.now ≡ a.more.now = grind (arith, common_steps) in
    fits a.more.now (so_far a.self.now) (omega arith) (l.invariant.0 ∙ ap (λ (ws : List ℕ). a.self.now.at + total ws) all)
    (ap (put_mid _ _ _) c.copy_from_slice.ensures.after)
