-- A step way by way as the code tests it: Table 17 has its length and its identifier, and the body uses up descriptor_length.
-- Assumes nothing.
use mathlib.Core.Path.{◌≡◌, refl, sym, ap, ◌∙◌}
use mathlib.Core.List.{List, []}
use Prim.Native.Nat.{ℕ, ◌+◌, ◌-◌, ◌*◌, ◌≤◌, ◌<◌}
use native.Mathlib.Omega.{arith}
use lib.ListN.{length, get_or}
use Rattle.bits.specs.Bits.{bit, num}
use Rattle.grammar.specs.Syntax.{is, done, branch}
use Rattle.grammar.specs.Meaning.{Env, value_of, Outcome, breach, ends}
use Rattle.grammar.specs.Tables.{bytes, known_descriptor, splice_descriptor}
use Rattle.grammar.proofs.Run.{Runs, pass, short, finished, framed_all, framed_left, framed_off, frame_short, at_place, becomes}
use Rattle.grammar.proofs.Places.{octet}
use Rattle.descriptors.specs.declared.Cursor.{Cursor}
use Rattle.descriptors.specs.declared.Kind.{Kind}
use Rattle.std.specs.Prelude.{Some, Ok, Err}
use Rattle.units.specs.declared.refusals.Refusal.{Refusal}
use Rattle.descriptors.specs.Walk.{kind_of, table_of, step_of}
use Rattle.descriptors.proofs.ByKind.{by_kind}
use Rattle.descriptors.proofs.Walk.{broken_off, descriptor_at_lem}

-- where the descriptor ends, by its length
abbrev pub next : List ℕ → Cursor → ℕ
next s c = c.at + 2 + get_or s (c.at + 1) 0

-- after the identifier its table runs as o says
abbrev pub BodyRun : List ℕ → Cursor → Kind → Outcome → Type 0
BodyRun s c kind o = (env : Env) → Runs (table_of kind) env (bit s) (8 * next s c) (8 * (c.at + 6)) o

module _ (s : List ℕ) (c : Cursor) (some : c.at < c.end) (fits : c.end ≤ length s) where
  pub no_rows : c.end - c.at < 2 → step_of s c ≡ Err Refusal.Descriptor
  unfolding splice_descriptor
  no_rows h = broken_off s c some fits (short (omega arith))

  -- past the two rows: the second byte is descriptor_length, and gives the body's end
  module _ (two : 2 ≤ c.end - c.at) (byte : get_or s (c.at + 1) 0 < 256) where
    length_byte : num (bit s) (8 * c.at + 8) 8 ≡ get_or s (c.at + 1) 0
    length_byte = octet s (c.at + 1) (8 * c.at + 8) byte (omega arith)

    body_end : 8 * c.at + 16 + 8 * num (bit s) (8 * c.at + 8) 8 ≡ 8 * next s c
    body_end = omega (arith, length_byte)

    pub body_cut : c.end - c.at - 2 < get_or s (c.at + 1) 0 → step_of s c ≡ Err Refusal.Descriptor
    unfolding splice_descriptor
    body_cut h = broken_off s c some fits (pass (omega arith) (frame_short (omega (arith, body_end))))

    module _ (whole : get_or s (c.at + 1) 0 ≤ c.end - c.at - 2) where
      pub no_identifier : get_or s (c.at + 1) 0 < 4 → step_of s c ≡ Err Refusal.Descriptor
      unfolding splice_descriptor
      no_identifier h = broken_off s c some fits (pass (omega arith) (framed_off body_end (omega arith) (short (omega arith))))

      -- past the identifier: the table of the kind
      module _ (four : 4 ≤ get_or s (c.at + 1) 0) (kind : Kind) (told : kind ≡ kind_of s c.at) where
        body : {env : Env} {o : Outcome} → BodyRun s c kind o → value_of env "identifier" ≡ num (bit s) (8 * c.at + 16) 32
            → value_of env "splice_descriptor_tag" ≡ num (bit s) (8 * c.at) 8
            → Runs (branch (is "identifier" 0x43554549) (known_descriptor (bytes "private_byte")) (bytes "private_byte") done) env (bit s)
            (8 * next s c) (8 * c.at + 16 + 32) o
        body r same tag =
            let first : 8 * c.at + 16 ≡ 8 * (c.at + 2) = omega arith in
            let place : 8 * c.at + 16 + 32 ≡ 8 * (c.at + 6) = omega arith in
            by_kind s c.at (same ∙ ap (λ (k : ℕ). num (bit s) k 32) first) tag told (at_place place (r _))

        pub used_up : (n : ℕ) → BodyRun s c kind (ends (8 * n)) → n ≡ next s c → step_of s c ≡ Ok (Some (kind, record { at = next s c; end = c.end }))
        unfolding splice_descriptor
        used_up n r e =
            let step : Runs splice_descriptor [] (bit s) (8 * c.end) (8 * c.at) (ends (8 * next s c)) =
            pass (omega arith)
            (framed_all body_end (omega arith)
            (pass (omega arith) (becomes (body r refl refl) (ap (λ (x : ℕ). ends (8 * x)) e))) (finished refl)) in
            descriptor_at_lem s c (next s c) some fits step ∙ ap (λ (k : Kind). Ok (Some (k, record { at = next s c; end = c.end }))) (sym told)

        pub left_over : (n : ℕ) → BodyRun s c kind (ends (8 * n)) → (n ≡ next s c → ⊥) → step_of s c ≡ Err Refusal.Descriptor
        unfolding splice_descriptor
        left_over n r h =
            broken_off s c some fits (pass (omega arith) (framed_left body_end (omega arith) (pass (omega arith) (body r refl refl)) (λ e. h (omega arith))))

        pub body_breaks : BodyRun s c kind (breach 0) → step_of s c ≡ Err Refusal.Descriptor
        unfolding splice_descriptor
        body_breaks r = broken_off s c some fits (pass (omega arith) (framed_off body_end (omega arith) (pass (omega arith) (body r refl refl))))
