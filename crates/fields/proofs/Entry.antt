-- From a place: where the memory has room for it, fields so far stand there, and what they lay out is the plan's that is left behind.
-- Assumes nothing.
use mathlib.Core.Path.{◌≡◌, sym, ap₂, ◌∙◌}
use mathlib.Core.Bool.{true}
use mathlib.Core.List.{List}
use Prim.Native.Nat.{ℕ}
use Rattle.fields.specs.declared.Place.{Place}
use Rattle.fields.specs.declared.Fields.{Fields}
use Rattle.fields.specs.Fields.{Plan, plan, roomy, kept}
use Rattle.fields.specs.SoFar.{so_far, after}
use Rattle.fields.proofs.Room.{kept_in}

pub entered : (g : Plan → Plan) (π : Plan) (f : Fields) {p : Place} {m : List ℕ} → roomy π ≡ true → p ≡ after f → m ≡ f.widths.now → so_far f ≡ g π
    → plan p m ≡ kept g π
entered g π f room place memory e = ap₂ plan place memory ∙ e ∙ sym (kept_in g π room)
