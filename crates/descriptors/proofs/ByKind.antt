-- The kind of a descriptor: what the identifier and the tag say of it, and that its table is read.
-- Assumes nothing.
use mathlib.Core.Path.{◌≡◌, refl, sym, ap, ◌∙◌, subst}
use mathlib.Core.Bool.{Bool, cond}
use mathlib.Core.List.{List}
use Prim.Native.Nat.{ℕ, ◌+◌, ◌*◌, ◌<◌}
use native.Mathlib.Omega.{arith}
use lib.Dec.{eqb}
use lib.ListN.{length, get_or}
use borrow.Author.Tests.{eq-eqb, ne_eqb}
use Rattle.bits.specs.Bits.{bit, num}
use Rattle.bits.proofs.Num.{num_split}
use Rattle.bits.proofs.Digits.{zeros}
use Rattle.bits.proofs.Bytes.{bit_past}
use Rattle.grammar.specs.Syntax.{is, done, branch}
use Rattle.grammar.specs.Meaning.{Env, value_of, Outcome}
use Rattle.grammar.specs.Tables.{bytes, known_descriptor}
use Rattle.grammar.proofs.Run.{Runs, chosen}
use Rattle.grammar.proofs.Places.{octet}
use Rattle.descriptors.specs.declared.Kind.{Kind}
use Rattle.descriptors.specs.declared.Kind.TheVariants.{Avail, Dtmf, Segmentation, Time, Audio, Unknown}
use Rattle.descriptors.specs.Walk.{by_tag, kind_of, table_of}

-- ---- what it is

-- under "CUEI" the tag says it
pub own : (s : List ℕ) (at tag : ℕ) → num (bit s) (8 * (at + 2)) 32 ≡ 0x43554549 → get_or s at 0 < 256 → get_or s at 0 ≡ tag → kind_of s at ≡ by_tag tag
unfolding kind_of
own s at tag same byte e =
    ap (λ (t : Bool). cond t (by_tag (num (bit s) (8 * at) 8)) Unknown) (eq-eqb _ 0x43554549 same)
    ∙ ap by_tag (octet s at (8 * at) byte refl ∙ e)

pub foreign : (s : List ℕ) (at : ℕ) → (num (bit s) (8 * (at + 2)) 32 ≡ 0x43554549 → ⊥) → kind_of s at ≡ Unknown
unfolding kind_of
foreign s at other = ap (λ (t : Bool). cond t (by_tag (num (bit s) (8 * at) 8)) Unknown) (ne_eqb _ 0x43554549 other)

-- where the bytes end before the identifier does, its last byte is 0, and not "I"
pub too_few : (s : List ℕ) (at : ℕ) → length s < at + 6 → kind_of s at ≡ Unknown
too_few s at h =
    let last : num (bit s) (8 * (at + 2) + 24) 8 ≡ 0 =
    zeros (bit s) (8 * (at + 2) + 24) 8 (λ j l. bit_past s (8 * (at + 2) + 24 + j) (omega arith)) in
    foreign s at (λ e. omega (arith, sym e ∙ num_split (bit s) (8 * (at + 2)) 24 8, last))

pub no_tag : (t : ℕ) → 4 < t → by_tag t ≡ Unknown
unfolding by_tag
no_tag t h =
    rw (
      ne_eqb t 0 (λ e. omega arith),
      ne_eqb t 1 (λ e. omega arith),
      ne_eqb t 2 (λ e. omega arith),
      ne_eqb t 3 (λ e. omega arith),
      ne_eqb t 4 (λ e. omega arith),
    )

-- ---- its table

by_tag_lem : {env : Env} {f : ℕ → ℕ} {end k : ℕ} {o : Outcome} (t : ℕ) → value_of env "splice_descriptor_tag" ≡ t
    → Runs (table_of (by_tag t)) env f end k o → Runs (known_descriptor (bytes "private_byte")) env f end k o
unfolding by_tag table_of known_descriptor
by_tag_lem {env} {f} {end} {k} {o} t e =
    let is-it : (v : ℕ) → eqb (value_of env "splice_descriptor_tag") v ≡ eqb t v = λ v. ap (λ (x : ℕ). eqb x v) e in
    chosen table_of (eqb t 0) Avail _ (is-it 0) (λ r. r)
    (chosen table_of (eqb t 1) Dtmf _ (is-it 1) (λ r. r)
    (chosen table_of (eqb t 2) Segmentation _ (is-it 2) (λ r. r)
    (chosen table_of (eqb t 3) Time _ (is-it 3) (λ r. r)
    (chosen table_of (eqb t 4) Audio Unknown (is-it 4) (λ r. r) (λ r. r)))))

-- Table 17 after the identifier: the table of the descriptor's kind
pub by_kind : {env : Env} {f : ℕ → ℕ} {end k : ℕ} {o : Outcome} {kind : Kind} (s : List ℕ) (at : ℕ)
    → value_of env "identifier" ≡ num (bit s) (8 * (at + 2)) 32 → value_of env "splice_descriptor_tag" ≡ num (bit s) (8 * at) 8
    → kind ≡ kind_of s at → Runs (table_of kind) env f end k o
    → Runs (branch (is "identifier" 0x43554549) (known_descriptor (bytes "private_byte")) (bytes "private_byte") done) env f end k o
unfolding kind_of table_of
by_kind {env} {f} {end} {k} {o} s at same tag e r =
    chosen table_of (eqb (num (bit s) (8 * (at + 2)) 32) 0x43554549) (by_tag (num (bit s) (8 * at) 8)) Unknown (ap (λ (x : ℕ). eqb x 0x43554549) same)
    (by_tag_lem (num (bit s) (8 * at) 8) tag) (λ q. q) (subst (λ (x : Kind). Runs (table_of x) env f end k o) e r)
