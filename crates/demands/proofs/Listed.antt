-- What is said of known descriptors is said by their rows with reserved values set to 0, one after another.
-- Assumes nothing.
use mathlib.Core.Path.{◌≡◌, refl, sym, ap, ap₂, ◌∙◌}
use mathlib.Core.Bool.{Bool, true, false, cond, not, ◌&&◌}
use mathlib.Core.List.{List, [], ◌∷◌}
use Prim.Native.Nat.{ℕ, zero, suc, ◌+◌, ◌/◌}
use lib.ListN.{length}
use lib.Dec.{ltb}
use Rattle.bits.proofs.Bytes.{AreBytes}
use Rattle.units.specs.declared.refusals.Refusal.{Refusal}
use Rattle.grammar.specs.Meaning.{read}
use Rattle.grammar.specs.Tables.{splice_descriptor}
use Rattle.grammar.specs.Traces.{Trace, size, trace_of, blank}
use Rattle.grammar.specs.Names.{look, is_set, all_of}
use Rattle.descriptors.specs.declared.Cursor.{Cursor}
use Rattle.descriptors.specs.Loop.{trace_at}
use Rattle.std.specs.Prelude.{Option, Some, Result, Ok, Err}
use Rattle.opening.specs.First.{first_cursor, open_of}
use Rattle.descriptor_reading.specs.declared.answers.Part.{Part}
use Rattle.known_walk.specs.Known.{known_cursors, numbered, known_trace}
use Rattle.descriptor_reading.specs.Descriptor.{is_tag, descriptor_of, through, upid_of}
use Rattle.descriptor_reading.specs.Descriptor as Says
use Rattle.known_walk.proofs.EachStands.{AllStand}
use Rattle.descriptor_reading.proofs.UpidPart.{standing_part}
use Rattle.reading.specs.Reading.{upid, part_of, upid_bytes}
use Rattle.opening.proofs.Asked.{when_open}
use Rattle.reading.proofs.UpidBytes.{part_values}
use Rattle.breaks.specs.Signals.{Reading, read_at}
use Rattle.labels.specs.Labels.{labelled, label_at, label_of}
use Rattle.demands.specs.OneCue.{unplaced}
use Rattle.grammar.proofs.Blank.{look_blank, all_blank}
use Rattle.demands.proofs.Blank.{descriptor_blank}
use Rattle.demands.proofs.Walked.{blanks_at}

-- ---- by number

unfoldable nth : List Trace → ℕ → Trace
nth [] n = []
nth (t ∷ ts) zero = t
nth (t ∷ ts) (suc n) = nth ts n

nth_at : (s : List ℕ) (cs : List Cursor) (n : ℕ) → nth (blanks_at s cs) n ≡ blank (trace_at s (numbered cs n))
unfolding nth blanks_at numbered trace_at splice_descriptor read trace_of blank
nth_at s [] n = refl
nth_at s (c ∷ cs) zero = refl
nth_at s (c ∷ cs) (suc n) = nth_at s cs n

pub length_blanks : (s : List ℕ) (cs : List Cursor) → length (blanks_at s cs) ≡ length cs
unfolding blanks_at
length_blanks s [] = refl
length_blanks s (c ∷ cs) = ap suc (length_blanks s cs)

pub known_same : (s s' : List ℕ) (c c' : Cursor) → blanks_at s (known_cursors s c) ≡ blanks_at s' (known_cursors s' c') → (n : ℕ)
    → blank (known_trace s c n) ≡ blank (known_trace s' c' n)
unfolding known_trace
known_same s s' c c' e n = sym (nth_at s (known_cursors s c) n) ∙ ap (λ (ts : List Trace). nth ts n) e ∙ nth_at s' (known_cursors s' c') n

-- ---- in order

-- what they say
unfoldable pub described : List Trace → List Reading
described [] = []
described (t ∷ ts) = descriptor_of t ∷ described ts

pub read_blanks : (s : List ℕ) (cs : List Cursor) → read_at s cs ≡ described (blanks_at s cs)
unfolding read_at described blanks_at
read_blanks s [] = refl
read_blanks s (c ∷ cs) = ap₂ (λ (d : Reading) (ds : List Reading). d ∷ ds) (sym (descriptor_blank (trace_at s c))) (read_blanks s cs)

-- ---- the UPID

-- a segmentation descriptor that is not cancelled has one
abbrev has_upid : Trace → Bool
has_upid t = is_tag t 2 && not (is_set t "segmentation_event_cancel_indicator")

unfoldable pub upid_said : Trace → Result Part Refusal
upid_said t = cond (has_upid t) (Ok (record { at = 0; length = look t "segmentation_upid_length" })) (Err Refusal.NotHere)

pub upid_said_blank : (t : Trace) → upid_said (blank t) ≡ upid_said t
unfolding upid_said
upid_said_blank t = simp look_blank

pub unplaced_said : (at : ℕ) (t : Trace) → unplaced (upid_of at t) ≡ upid_said t
unfolding upid_of upid_said
unplaced_said at t = go (has_upid t)
  where
    go : (b : Bool)
        → unplaced (cond b (Ok (record { at = at + size (through "segmentation_upid_length" t) / 8; length = look t "segmentation_upid_length" })) (Err Refusal.NotHere))
        ≡ cond b (Ok (record { at = 0; length = look t "segmentation_upid_length" })) (Err Refusal.NotHere)
    go true = refl
    go false = refl

-- its bytes
unfoldable pub bytes_said : Trace → List ℕ
bytes_said t = cond (has_upid t) (all_of t "segmentation_upid") []

pub bytes_said_blank : (t : Trace) → bytes_said (blank t) ≡ bytes_said t
unfolding bytes_said
bytes_said_blank t = simp (look_blank, all_blank)

pub bytes_of : (s : List ℕ) (n : ℕ) → AreBytes s → open_of s ≡ Ok (first_cursor s)
    → upid_bytes s n ≡ bytes_said (known_trace s (first_cursor s) n)
unfolding upid upid_bytes part_of upid_of bytes_said Says.upid
bytes_of s n hs o = go (has_upid t) refl
  where
    c : Cursor
    c = first_cursor s

    t : Trace
    t = known_trace s c n

    place : ℕ
    place = (numbered (known_cursors s c) n).at + size (through "segmentation_upid_length" t) / 8

    is : (b : Bool) → has_upid t ≡ b → upid s n ≡ cond b (Ok (record { at = place; length = look t "segmentation_upid_length" })) (Err Refusal.NotHere)
    is b e =
        when_open Err (λ d. Says.upid s d n) c o
        ∙ ap (λ (x : Bool). cond x (Ok (record { at = place; length = look t "segmentation_upid_length" })) (Err Refusal.NotHere)) e

    go : (b : Bool) → has_upid t ≡ b → upid_bytes s n ≡ cond (has_upid t) (all_of t "segmentation_upid") []
    go true e =
        part_values s n place (look t "segmentation_upid_length") (is true e) hs
        ∙ sym (ap (λ (x : Bool). cond x (all_of t "segmentation_upid") []) e)
    go false e = ap (part_of s) (is false e) ∙ sym (ap (λ (x : Bool). cond x (all_of t "segmentation_upid") []) e)

-- ---- the bill label

-- the bytes of the first UPID that is not empty, or the house's name
unfoldable pub billed : List ℕ → List Trace → List ℕ
billed house [] = house
billed house (t ∷ ts) = cond (has_upid t && ltb 0 (look t "segmentation_upid_length")) (all_of t "segmentation_upid") (billed house ts)

billed_blank : (t : Trace) (other : List ℕ)
    → cond (has_upid (blank t) && ltb 0 (look (blank t) "segmentation_upid_length")) (all_of (blank t) "segmentation_upid") other
    ≡ cond (has_upid t && ltb 0 (look t "segmentation_upid_length")) (all_of t "segmentation_upid") other
billed_blank t other = simp (look_blank, all_blank)

-- the label is the bytes of this UPID, where it has some, or else another's
one_label : (s house : List ℕ) (c : Cursor) (other : Option Part) → AllStand s (c ∷ []) → AreBytes s
    → label_of s house (labelled (upid_of c.at (trace_at s c)) other)
    ≡ cond (has_upid (trace_at s c) && ltb 0 (look (trace_at s c) "segmentation_upid_length")) (all_of (trace_at s c) "segmentation_upid") (label_of s house other)
unfolding upid_of
one_label s house c other h hs = go (has_upid t) refl
  where
    t : Trace
    t = trace_at s c

    long : ℕ
    long = look t "segmentation_upid_length"

    place : ℕ
    place = c.at + size (through "segmentation_upid_length" t) / 8

    part : Bool → Result Part Refusal
    part b = cond b (Ok (record { at = place; length = long })) (Err Refusal.NotHere)

    taken : has_upid t ≡ true → (b : Bool)
        → label_of s house (cond b (Some (record { at = place; length = long })) other) ≡ cond b (all_of t "segmentation_upid") (label_of s house other)
    taken e true = standing_part s c.at t place long h.0 (ap part e) hs
    taken e false = refl

    go : (b : Bool) → has_upid t ≡ b
        → label_of s house (labelled (part (has_upid t)) other) ≡ cond (has_upid t && ltb 0 long) (all_of t "segmentation_upid") (label_of s house other)
    go true e =
        ap (λ (b : Bool). label_of s house (labelled (part b) other)) e
        ∙ taken e (ltb 0 long)
        ∙ sym (ap (λ (b : Bool). cond (b && ltb 0 long) (all_of t "segmentation_upid") (label_of s house other)) e)
    go false e =
        ap (λ (b : Bool). label_of s house (labelled (part b) other)) e
        ∙ sym (ap (λ (b : Bool). cond (b && ltb 0 long) (all_of t "segmentation_upid") (label_of s house other)) e)

pub label_blanks : (s house : List ℕ) (cs : List Cursor) → AllStand s cs → AreBytes s → label_of s house (label_at s cs) ≡ billed house (blanks_at s cs)
unfolding label_at billed blanks_at
label_blanks s house [] h hs = refl
label_blanks s house (c ∷ cs) h hs =
    let t : Trace = trace_at s c in
    one_label s house c (label_at s cs) (h.0, tt) hs
    ∙ ap (cond (has_upid t && ltb 0 (look t "segmentation_upid_length")) (all_of t "segmentation_upid")) (label_blanks s house cs h.1 hs)
    ∙ sym (billed_blank t (billed house (blanks_at s cs)))
