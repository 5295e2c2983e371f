-- The kind of a known descriptor: its tag, by its rows and by its place, and its table.
-- Assumes nothing.
use mathlib.Core.Path.{◌≡◌, refl, sym, ap, ◌∙◌, subst}
use mathlib.Core.Bool.{Bool, true, false, cond, ◌&&◌, false≢true}
use mathlib.Core.List.{List}
use Prim.Native.Nat.{ℕ, ◌+◌, ◌*◌}
use native.Mathlib.Omega.{arith}
use lib.Dec.{eqb}
use borrow.Author.Tests.{eqb-true}
use Rattle.bits.specs.Bits.{bit, num}
use Rattle.bits.proofs.Within.{field_there}
use Rattle.grammar.specs.Meaning.{values, reached, read}
use Rattle.grammar.specs.Traces.{Trace}
use Rattle.grammar.specs.Names.{look}
use Rattle.descriptors.specs.declared.Kind.{Kind}
use Rattle.descriptors.specs.Walk.{by_tag, kind_of, table_of}
use Rattle.known_walk.specs.Known.{is_known}
use Rattle.descriptor_reading.specs.Descriptor.{is_tag}
use Rattle.known_walk.specs.Places.{Stands}
use Rattle.descriptor_reading.specs.Places.{tag_at}

-- the tag of a kind (Table 16)
abbrev pub tag_of : Kind → ℕ
tag_of Kind.Avail = 0
tag_of Kind.Dtmf = 1
tag_of Kind.Segmentation = 2
tag_of Kind.Time = 3
tag_of Kind.Audio = 4
tag_of Kind.Unknown = 5

-- a known kind has the tag that it came from
one_tag : (v : ℕ) (k rest : Kind) → (is_known rest ≡ true → tag_of rest ≡ v) → is_known (cond (eqb v (tag_of k)) k rest) ≡ true
    → tag_of (cond (eqb v (tag_of k)) k rest) ≡ v
one_tag v k rest h = go (eqb v (tag_of k)) refl
  where
    go : (b : Bool) → eqb v (tag_of k) ≡ b → is_known (cond b k rest) ≡ true → tag_of (cond b k rest) ≡ v
    go true e l = sym (eqb-true v (tag_of k) e)
    go false e l = h l

by_tag_lem : (v : ℕ) → is_known (by_tag v) ≡ true → tag_of (by_tag v) ≡ v
unfolding by_tag
by_tag_lem v =
    one_tag v Kind.Avail _
    (one_tag v Kind.Dtmf _
    (one_tag v Kind.Segmentation _ (one_tag v Kind.Time _ (one_tag v Kind.Audio Kind.Unknown (λ h. absurd (false≢true h))))))

-- and the identifier "CUEI"
known_kind : (s : List ℕ) (at : ℕ) → is_known (kind_of s at) ≡ true
    → (num (bit s) (8 * (at + 2)) 32 ≡ 0x43554549) × (num (bit s) (8 * at) 8 ≡ tag_of (kind_of s at))
unfolding kind_of
known_kind s at = go (eqb (num (bit s) (8 * (at + 2)) 32) 0x43554549) refl
  where
    tag : ℕ
    tag = num (bit s) (8 * at) 8

    go : (b : Bool) → eqb (num (bit s) (8 * (at + 2)) 32) 0x43554549 ≡ b → is_known (cond b (by_tag tag) Kind.Unknown) ≡ true
        → (num (bit s) (8 * (at + 2)) 32 ≡ 0x43554549) × (tag ≡ tag_of (cond b (by_tag tag) Kind.Unknown))
    go true e h = (eqb-true (num (bit s) (8 * (at + 2)) 32) 0x43554549 e, sym (by_tag_lem tag h))
    go false e h = absurd (false≢true h)

-- a kind is that of its tag
kind_back : (k : Kind) → by_tag (tag_of k) ≡ k
unfolding by_tag
kind_back Kind.Avail = refl
kind_back Kind.Dtmf = refl
kind_back Kind.Segmentation = refl
kind_back Kind.Time = refl
kind_back Kind.Audio = refl
kind_back Kind.Unknown = refl

module _ (s : List ℕ) (at : ℕ) (t : Trace) (h : Stands s at t) where
  -- the table of its kind reads its rows after the identifier
  pub reads_as : (k : Kind) → kind_of s at ≡ k → read (table_of k) h.env (bit s) (8 * h.stop) (8 * (at + 6)) ≡ reached (8 * h.stop) h.body
  reads_as k e = subst (λ (x : Kind). read (table_of x) h.env (bit s) (8 * h.stop) (8 * (at + 6)) ≡ reached (8 * h.stop) h.body) e h.reads

  tag_there : tag_at s at ≡ num (bit s) (8 * at) 8
  tag_there = field_there s (8 * at) 8 (omega arith) (omega (arith, h.low, h.inside))

  -- the tag at the descriptor's place is that of its kind
  pub tag_is : tag_at s at ≡ tag_of (kind_of s at)
  tag_is = tag_there ∙ (known_kind s at h.known).1

  -- and picks it
  pub kind_is : (k : Kind) → eqb (tag_at s at) (tag_of k) ≡ true → kind_of s at ≡ k
  kind_is k e =
      let tag : tag_of (kind_of s at) ≡ tag_of k = sym tag_is ∙ eqb-true (tag_at s at) (tag_of k) e in
      sym (kind_back (kind_of s at)) ∙ ap by_tag tag ∙ kind_back k

  -- and is the one that its rows have
  pub is_tag_lem : (v : ℕ) → is_tag t v ≡ eqb (tag_at s at) v
  unfolding look values
  is_tag_lem v =
      let place : 8 * at + 16 ≡ 8 * (at + 2) = omega arith in
      let identifier : look t "identifier" ≡ 0x43554549 =
      ap (λ (u : Trace). look u "identifier") h.rows ∙ ap (λ (k : ℕ). num (bit s) k 32) place ∙ (known_kind s at h.known).0 in
      let tag : look t "splice_descriptor_tag" ≡ tag_at s at = ap (λ (u : Trace). look u "splice_descriptor_tag") h.rows ∙ sym tag_there in
      λ i. eqb (identifier i) 0x43554549 && eqb (tag i) v
