-- The promise of `sized_command` names one plan: it speaks of every environment that has the command's type and length, and there is one.
-- Assumes nothing.
use mathlib.Core.Path.{◌≡◌, refl, sym, ◌∙◌}
use mathlib.Core.List.{[], ◌∷◌}
use Prim.Native.Nat.{ℕ}
use Rattle.grammar.specs.Meaning.{Env, value_of}
use Rattle.fields.specs.Fields.{Plan}

pub sized_only : (t n : ℕ) (g : Env → ℕ → Plan) (π ρ : Plan)
    → ((env : Env) (end : ℕ) → value_of env "splice_command_type" ≡ t → value_of env "splice_command_length" ≡ n → π ≡ g env end)
    → ((env : Env) (end : ℕ) → value_of env "splice_command_type" ≡ t → value_of env "splice_command_length" ≡ n → ρ ≡ g env end)
    → π ≡ ρ
sized_only t n g π ρ a b =
    let env : Env = ("splice_command_type", t) ∷ ("splice_command_length", n) ∷ [] in
    a env 0 refl refl ∙ sym (b env 0 refl refl)
