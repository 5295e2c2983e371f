-- The answer to a text, by what reading it gave; a room that is large enough; and the answer to a text that is too long.
-- Assumes nothing.
use mathlib.Core.Path.{◌≡◌, refl, sym, ap, ap₂, ◌∙◌}
use mathlib.Core.Logic.{⊎_elim}
use mathlib.Core.List.{List}
use Prim.Native.Nat.{ℕ, zero, suc, ◌*◌, ◌≤◌, ◌<◌}
use native.Mathlib.Omega.{arith}
use lib.ListN.{length, take, drop}
use lib.Seq.{take_at}
use borrow.Author.Tests.{le-ltb}
use Rattle.bits.proofs.Cases.{le_or_lt}
use Rattle.units.specs.declared.refusals.Refusal.{Refusal}
use Rattle.units.specs.declared.refusals.Refusal.TheVariants.{TextLen}
use Rattle.std.specs.Prelude.{Ok, Err}
use Rattle.units.specs.Answers.{answer, memory}
use Rattle.breaks.specs.Breaks.{break_answer}
use Rattle.text.specs.Text.{read_row, read, read_into, count, decoded}
use Rattle.base64_rules.proofs.Counts.{before_le}
use Rattle.base64_rules.proofs.Decoded.{length_decoded}
use Rattle.text.proofs.Rows.{row_long, row_room, accepted}
use Rattle.spelling.specs.declared.Line.{Line}
use Rattle.line.specs.Line.{in_millis, answer_by, answer_in, line_answer}

module _ (t out : List ℕ) where
  -- a refusal of the text is the answer
  by_row : (row : ℕ) (r : Refusal) → answer row (count t) ≡ Err r → Line.Refused r ≡ answer_by row (decoded t)
  by_row zero r e = absurd (let z : ◌≡◌ {A = ℕ} 0 1 = cc in omega arith)
  by_row (suc row) r e = cc

  pub refused : (r : Refusal) → read t out ≡ Err r → Line.Refused r ≡ answer_in t (length out)
  unfolding read answer_in
  refused r e = by_row (read_row t (length out)) r e

  -- where so many bytes were read, no row refuses the text, and they are its bytes
  none : (row n : ℕ) → answer row (count t) ≡ Ok n → (row ≡ 0) × (n ≡ count t)
  none zero n e = (refl, cc)
  none (suc row) n e = absurd (let z : ◌≡◌ {A = ℕ} 0 1 = cc in omega arith)

  pub passes : (n : ℕ) → read t out ≡ Ok n → (read_row t (length out) ≡ 0) × (n ≡ count t)
  unfolding read
  passes n e = none (read_row t (length out)) n e

  -- there was room for them
  pub inside : (n : ℕ) → read t out ≡ Ok n → n ≤ length out
  inside n e =
      let row = passes n e in
      ⊎_elim (λ h. omega (arith, row.1)) (λ h. absurd (omega (arith, sym row.0 ∙ row_room t (length out) (accepted t (length out) row.0) h)))
      (le_or_lt (count t) (length out))

  pub front : (n : ℕ) → read t out ≡ Ok n → take n (read_into t out) ≡ decoded t
  unfolding read_into
  front n e =
      let row = passes n e in
      ap₂ (λ (k r : ℕ). take k (memory r (decoded t) out)) row.1 row.0
      ∙ take_at (decoded t) (drop (length (decoded t)) out) (count t) (length_decoded t)

  pub answered : (n : ℕ) → read t out ≡ Ok n → in_millis (break_answer (take n (read_into t out))) ≡ answer_in t (length out)
  unfolding answer_in
  answered n e = ap (λ (s : List ℕ). in_millis (break_answer s)) (front n e) ∙ ap (λ (r : ℕ). answer_by r (decoded t)) (sym (passes n e).0)

-- the bytes of a text are three for each four characters at most
bytes : (t : List ℕ) (room : ℕ) → 3 * length t ≤ 4 * room → count t ≤ room
unfolding count
bytes t room h = omega (arith, before_le t)

-- a room of three bytes for each four characters is as good as that of the longest text
pub roomy : (t : List ℕ) (room : ℕ) → 3 * length t ≤ 4 * room → room ≤ 4098 → answer_in t room ≡ line_answer t
unfolding line_answer answer_in read_row
roomy t room h most =
    let fits : count t ≤ room = bytes t room h in
    rw (le-ltb room (count t) fits, le-ltb 4098 (count t) (omega arith))

-- a text that is too long is refused whatever it holds
pub too_long : (t : List ℕ) → 5464 < length t → line_answer t ≡ Line.Refused TextLen
unfolding line_answer answer_in
too_long t h = ap (λ (r : ℕ). answer_by r (decoded t)) (row_long t 4098 h)
