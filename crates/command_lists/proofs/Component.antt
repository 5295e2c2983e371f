-- What a component of splice_insert() tells (Table 10): its values by their rows are its values by their places.
-- Assumes nothing.
use mathlib.Core.Path.{◌≡◌, refl, sym, ◌∙◌}
use mathlib.Core.Bool.{true, false, false≢true}
use mathlib.Core.List.{List, [], ◌∷◌, ◌++◌}
use mathlib.Core.Logic.{⊎_elim}
use Prim.Native.Nat.{ℕ, ◌+◌, ◌*◌, ◌≤◌, ◌<◌}
use native.Mathlib.Omega.{arith}
use lib.ListN.{length}
use lib.Dec.{eqb}
use borrow.Author.Tests.{eq-eqb}
use Rattle.bits.specs.Bits.{bit, field_of}
use Rattle.bits.proofs.Cases.{by_cases}
use Rattle.bits.proofs.Within.{there}
use Rattle.grammar.specs.Syntax.{field}
use Rattle.grammar.specs.Meaning.{Env, values, bind}
use Rattle.grammar.specs.Tables.{insert_component}
use Rattle.grammar.specs.Traces.{Trace}
use Rattle.grammar.specs.Names.{look}
use Rattle.grammar.proofs.Telling.{Tells, so, place, rows, arm_last, over}
use Rattle.command_reading.specs.Command.{time_of}
use Rattle.command_reading.specs.Places.{time_at}
use Rattle.command_reading.proofs.Times.{time_tells}

-- what a component looks at
abbrev pub knowing : ℕ → Env
knowing immediate = ("splice_immediate_flag", immediate) ∷ []

-- the rows t of a component from byte `at` on, whatever rows come after them
pub record Component (s : List ℕ) (end at immediate : ℕ) (t : Trace) : Type 0 where
  pub inside : at < end
  pub tag : (w : Trace) → look (t ++ w) "component_tag" ≡ field_of s (8 * at) 8
  pub time : immediate ≡ 0 → (w : Trace) → time_of (t ++ w) ≡ time_at s (at + 1)

pub component_tells : (s : List ℕ) (end at immediate : ℕ) → end ≤ length s
    → Tells (λ j t. Component s end at immediate t) insert_component (knowing immediate) (bit s) (8 * end) (8 * at)
unfolding insert_component values look
component_tells s end at immediate fits =
    rows
    (λ m.
    let next : 8 * at + 8 ≡ 8 * (at + 1) = omega arith in
    let tag = there s (8 * at) (8 * at) 8 refl (omega arith) (omega arith) in
    ⊎_elim
    (λ h.
    arm_last true h
    (so (place next (time_tells s (bind (field 8 "component_tag" ∷ []) (bit s) (8 * at) (knowing immediate)) (8 * end) (at + 1) (omega arith)))
    (λ j t said. record { inside = omega arith; tag = λ w. tag; time = λ e w. said w })))
    (λ h.
    arm_last false h
    (over (record { inside = omega arith; tag = λ w. tag; time = λ e. absurd (false≢true (sym h ∙ eq-eqb immediate 0 e)) })))
    (by_cases (eqb immediate 0)))
