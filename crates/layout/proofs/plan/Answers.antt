-- `layout::plan` meets its contract: the header, then what is sealed, or the tables up to the loop and the stuffing.
-- Assumes nothing.
use mathlib.Core.Path.{◌≡◌, refl, sym, ap, ap₂, ◌∙◌}
use mathlib.Core.Bool.{Bool, cond}
use mathlib.Core.List.{List, [], ◌∷◌}
use Prim.Native.Nat.{ℕ, ◌≤◌, ◌<◌}
use native.Mathlib.Omega.{arith}
use lib.ListN.{length}
use lib.Dec.{eqb}
use borrow.Author.Tests.{eq-eqb, ne_eqb, le-leb, lt-leb}
use Rattle.fields.specs.Fields.{Plan, source, laid, times_on, walk, Has, Room}
use Rattle.fields.proofs.Room.{group_in, groups_in}
use Rattle.layout.specs.Layout.{begun, opening, left, rest, plan_of}
use Rattle.layout.specs.Layout
use Rattle.layout.proofs.plan.Goals as goal

-- so many bytes as are left
ended : (s x : List ℕ) {n : ℕ} {π σ ρ : Plan} → ρ ≡ times_on n (laid (8 ∷ [])) π → n ≡ left s x π → π ≡ σ → ρ ≡ rest s x σ
unfolding rest
ended s x {π = π} e h q = e ∙ ap (λ (n : ℕ). times_on n (laid (8 ∷ [])) π) h ∙ ap (rest s x) q

-- too much memory; sealed; not sealed
module _ (s x m : List ℕ) where
  abbrev tables : Plan
  tables = walk opening (("splice_command_length", source s x 92 10 12) ∷ []) (source s x) 0 (begun m)

  abbrev all : Bool → Bool → Plan
  all short b = cond short (rest s x (cond b (begun m) tables)) (record { at = 0; number = 0; widths = m })

  unused : 32768 < length m → record { at = 0; number = 0; widths = m } ≡ plan_of s x m
  unfolding plan_of
  unused h = sym (ap (λ (b : Bool). all b (eqb (source s x 32 5 1) 1)) (lt-leb (length m) 32768 h))

  sealed : {n : ℕ} {ρ : Plan} → length m ≤ 32768 → n ≡ source s x 32 5 1 → n ≡ 1 → ρ ≡ rest s x (begun m) → ρ ≡ plan_of s x m
  unfolding plan_of
  sealed l e h q = q ∙ sym (ap₂ all (le-leb (length m) 32768 l) (eq-eqb (source s x 32 5 1) 1 (sym e ∙ h)))

  unsealed : {n : ℕ} {ρ : Plan} → length m ≤ 32768 → n ≡ source s x 32 5 1 → (n ≡ 1 → ⊥) → ρ ≡ rest s x tables → ρ ≡ plan_of s x m
  unfolding plan_of
  unsealed l e h q = q ∙ sym (ap₂ all (le-leb (length m) 32768 l) (ne_eqb (source s x 32 5 1) 1 (λ z. h (e ∙ z))))

-- there is room before the header and after it
at_start : (m : List ℕ) → length m ≤ 32768 → Has (record { at = 12; number = 0; widths = m })
at_start m h = (omega arith, omega arith, h)

pub returns-then-widths-gt-MOST_FIELDS : goal.returns-then-widths-gt-MOST_FIELDS
returns-then-widths-gt-MOST_FIELDS c =
    let a = c.args in
    unused a.section.now a.sheet.now a.widths.now c.if-widths-gt-MOST_FIELDS.true

pub returns-then-encrypted_packet-eq1 : goal.returns-then-encrypted_packet-eq1
unfolding begun
returns-then-encrypted_packet-eq1 c =
    let room-group : Room c.group-header.result c.group-header.new.widths = (group_in _ _ refl (at_start c.args.widths.now c.if-widths-gt-MOST_FIELDS.false) c.group-header.ensures).1 in
    let groups = (groups_in _ _ _ refl (room-group) c.groups.ensures).0 in
    let left = c.left-count in
    let if2 = c.if-encrypted_packet-eq1 in
    let value = c.value-encrypted_packet in
    let if1 = c.if-widths-gt-MOST_FIELDS in
    let a = c.args in
    let group = (group_in _ _ refl (at_start a.widths.now if1.false) c.group-header.ensures).0 in
    sealed a.section.now a.sheet.now a.widths.now if1.false value.ensures if2.true
    (ended a.section.now a.sheet.now groups (left.ensures _) group)

pub opening-stuffing-requires : goal.opening-stuffing-requires
opening-stuffing-requires c =
    let room-group : Room c.group-header.result c.group-header.new.widths = (group_in _ _ refl (at_start c.args.widths.now c.if-widths-gt-MOST_FIELDS.false) c.group-header.ensures).1 in
    room-group

pub returns : goal.returns
unfolding begun
returns c =
    let left2 = c.left-count-2 in
    let opening = c.opening-stuffing in
    let if2 = c.if-encrypted_packet-eq1 in
    let value = c.value-encrypted_packet in
    let if1 = c.if-widths-gt-MOST_FIELDS in
    let a = c.args in
    let group = (group_in _ _ refl (at_start a.widths.now if1.false) c.group-header.ensures).0 in
    let groups2 = (groups_in _ _ _ refl opening.ensures.1 c.groups-2.ensures).0 in
    let loop = sym (opening.ensures.0 (("splice_command_length", source a.section.now a.sheet.now 92 10 12) ∷ []) 0 refl).lays in
    unsealed a.section.now a.sheet.now a.widths.now if1.false value.ensures if2.false
    (ended a.section.now a.sheet.now groups2 (left2.ensures _) (loop ∙ ap (walk Layout.opening _ _ 0) group))
