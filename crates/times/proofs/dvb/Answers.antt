-- `times::dvb` meets its contract.
-- Assumes nothing.
use Rattle.std.proofs.Common.{◌≡◌, ℕ, Bool, List, [], ◌∷◌, Ok, sym, ap, ◌∙◌, arith}
use Rattle.std.proofs.lemmas.Result.{err_from_is_err_and}
use Rattle.bits.specs.Bits.{field_of}
use Rattle.grammar.specs.Meaning.{is_among}
use Rattle.descriptors.specs.declared.Cursor.{Cursor}
use Rattle.opening.specs.First.{open_of}
use Rattle.opening.proofs.Asked.{when_open, when_refused}
use Rattle.times.specs.Times.{dvb}
use Rattle.times.proofs.Header.{type_there, of_two, of_neither}
use Rattle.times.proofs.dvb.Goals as goal

-- the answer on an open section, by its type
told : (s : List ℕ) (c : Cursor) → open_of s ≡ Ok c → (x : ℕ) (b : Bool) → x ≡ field_of s 104 8 → is_among x (0x05 ∷ 0x06 ∷ []) ≡ b → Ok b ≡ dvb s
unfolding dvb
told s c opened x b here e =
    ap Ok (sym e ∙ ap (λ (n : ℕ). is_among n (0x05 ∷ 0x06 ∷ [])) (here ∙ type_there s c opened)) ∙ sym (when_open _ _ _ opened)

pub returns-in_err-open : goal.returns-in_err-open
unfolding dvb
returns-in_err-open c =
    let gone = err_from_is_err_and c.from_residual.result c.from_residual.ensures.1 in
    rw (gone.1, gone.2) (sym (when_refused _ _ _ (sym c.in_err-open.ensures)))

pub returns-in-5 : goal.returns-in-5
returns-in-5 c = told _ _ (sym c.in_ok-open.ensures) _ _ c.octet.ensures (of_two c.octet.result (omega arith) (omega arith))

pub returns-in_default : goal.returns-in_default
returns-in_default c = told _ _ (sym c.in_ok-open.ensures) _ _ c.octet.ensures (of_neither c.octet.result (λ e. omega arith) (λ e. omega arith))

pub returns-in_default-2 : goal.returns-in_default-2
returns-in_default-2 c = told _ _ (sym c.in_ok-open.ensures) _ _ c.octet.ensures (of_neither c.octet.result (λ e. omega arith) (λ e. omega arith))
