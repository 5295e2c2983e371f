-- `text_writing::encode::put` meets its contract: the last group stands where the text has it, and the whole groups fill the front up to it.
-- Assumes nothing.
use mathlib.Core.Path.{◌≡◌, refl, ap, ◌∙◌}
use mathlib.Core.List.{List}
use Prim.Native.Nat.{ℕ, ◌-◌, ◌*◌, ◌/◌}
use native.Mathlib.Omega.{arith}
use lib.ListN.{length}
use lib.Seq.{sets}
use Rattle.bits.specs.Bits.{run}
use Rattle.units.specs.Answers.{memory}
use Rattle.base64_rules.specs.Base64.{character_at, text_length, encoded}
use Rattle.base64_rules.proofs.Fill.{fill_same}
use Rattle.text_writing.proofs.LastFirst.{front_filled}
use Rattle.text_writing.proofs.encode.put.Goals as goal
use Rattle.text_writing.proofs.encode.put.Goals.{then-left-gt0, else-left-gt0}

pub put_last-requires : goal.put_last-requires
unfolding text_length
put_last-requires c = (omega arith, omega arith, omega arith, omega arith)

pub put_groups-requires : goal.put_groups-requires
unfolding text_length
put_groups-requires c = omega (arith, c.if-left-gt0.auto.out)

-- nothing stored
none_stored : (g : ℕ → ℕ) (lent : List ℕ) (n : ℕ) → lent ≡ sets lent n (run g n 0)
unfolding run
none_stored g lent n = refl

pub returns : goal.returns
unfolding encoded text_length
returns c =
    let lent = c.args.out.now in
    let s = c.args.section.now in
    let g = character_at s in
    let n = 4 * c.args.whole in
    let stored : ℕ → List ℕ = λ k. sets lent n (run g n k) in
    -- the characters after those of the whole groups stand in their places
    let last_stored : c.if-left-gt0.out ≡ stored (text_length s - n) =
    elim c.if-left-gt0.branch [
      | then-left-gt0 w ↦ w.out-is ∙ w.put_last.ensures ∙ ap stored {x = 4} {y = text_length s - n} (omega arith)
      | else-left-gt0 w ↦ w.out-is ∙ none_stored g lent n ∙ ap stored {x = 0} {y = text_length s - n} (omega arith)
    ] in
    fill_same g _ _ _ _ (omega (arith, c.requires))
    (c.put_groups.ensures ∙ ap (λ (m : ℕ). memory 0 (run g 0 m) c.if-left-gt0.out) {x = 4 * (length s / 3)} {y = n} (omega arith)
    ∙ ap (memory 0 (run g 0 n)) last_stored ∙ front_filled g _ n _ (omega (arith, c.requires)))
