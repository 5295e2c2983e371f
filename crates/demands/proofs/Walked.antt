-- The descriptors that the walk finds, by the rows of their section: each part that opens with a tag is one of them, and the parts that
-- are kept are those of the known ones.
-- Assumes nothing.
use mathlib.Core.Path.{◌≡◌, refl, sym, ap, ap₂, ◌∙◌}
use mathlib.Core.Bool.{Bool, true, false, cond, ◌&&◌}
use mathlib.Core.List.{List, [], ◌∷◌, ◌++◌, append-nil}
use Prim.Native.Nat.{ℕ, zero, suc, ◌+◌, ◌-◌, ◌*◌, ◌<◌}
use native.Mathlib.Omega.{arith}
use lib.Dec.{leb, eqb}
use borrow.Author.Tests.{not-true, lt-leb, ne_eqb}
use Rattle.bits.specs.Bits.{bit, num}
use Rattle.grammar.specs.Syntax.{field}
use Rattle.grammar.specs.Meaning.{values, read, run}
use Rattle.grammar.specs.Tables.{avail_descriptor, dtmf_descriptor, delivery, segmentation_components, segmentation_end, segmentation_descriptor, time_descriptor, audio_descriptor, known_descriptor, splice_descriptor}
use Rattle.grammar.specs.Traces.{Trace, blank}
use Rattle.grammar.specs.Names.{Name, is_named, look, before}
use Rattle.grammar.specs.Left.{without, parts, is_own, own}
use Rattle.grammar.proofs.Ends.{given}
use Rattle.grammar.proofs.Each.{every, Each, each_append, trace_each}
use Rattle.grammar.proofs.Names.{other, before_past, Opens, opens}
use Rattle.grammar.proofs.Readings.{Reads, rows_parts, frame_parts, reached_at}
use Rattle.grammar.proofs.Determined.{AllBlanked}
use Rattle.descriptors.specs.declared.Cursor.{Cursor}
use Rattle.descriptors.specs.declared.Kind.{Kind}
use Rattle.std.specs.Prelude.{Some, None, Ok, Err}
use Rattle.descriptors.specs.Walk.{Step, by_tag, kind_of, step_of}
use Rattle.descriptors.specs.Loop.{on_step, walk, walked, trace_at, traces_at}
use Rattle.descriptors.proofs.Walk.{stepped}
use Rattle.known_walk.specs.Known.{is_known, known_among}

-- ---- rows taken out

pub without_past : (n : Name) (u v : Trace) → Each (other n) u → without n (u ++ v) ≡ u ++ without n v
unfolding without
without_past n [] v h = refl
without_past n (x ∷ u) v h =
    ap (λ (b : Bool). cond b (without n (u ++ v)) (x ∷ without n (u ++ v))) (not-true (is_named n x.0) h.0)
    ∙ ap (λ (t : Trace). x ∷ t) (without_past n u v h.1)

pub without_none : (n : Name) (u : Trace) → Each (other n) u → without n u ≡ u
unfolding without
without_none n u h = ap (without n) (sym (append-nil u)) ∙ without_past n u [] h ∙ append-nil u

pub without_each : (n : Name) (u : Trace) → Each (is_named n) u → without n u ≡ []
unfolding without
without_each n [] h = refl
without_each n (x ∷ u) h = ap (λ (b : Bool). cond b (without n u) (x ∷ without n u)) h.0 ∙ without_each n u h.1

-- ---- parts

pub parts_past : (n : Name) (u v : Trace) → Each (other n) u → parts n (u ++ v) ≡ parts n v
unfolding parts
parts_past n [] v h = refl
parts_past n (x ∷ u) v h =
    ap (λ (b : Bool). cond b ((x ∷ before n (u ++ v)) ∷ parts n (u ++ v)) (parts n (u ++ v))) (not-true (is_named n x.0) h.0)
    ∙ parts_past n u v h.1

one_part : (n : Name) (u v : Trace) → Opens n u → parts n (u ++ v) ≡ (u ++ before n v) ∷ parts n v
unfolding Opens parts
one_part n [] v h = absurd h
one_part n (x ∷ u) v h =
    ap (λ (b : Bool). cond b ((x ∷ before n (u ++ v)) ∷ parts n (u ++ v)) (parts n (u ++ v))) h.0
    ∙ ap₂ (λ (t : Trace) (ts : List Trace). (x ∷ t) ∷ ts) (before_past n u v h.1) (parts_past n u v h.1)

none_before : (n : Name) (u v : Trace) → Opens n u → before n (u ++ v) ≡ []
unfolding Opens before
none_before n [] v h = absurd h
none_before n (x ∷ u) v h = ap (λ (b : Bool). cond b [] (x ∷ before n (u ++ v))) h.0

-- ---- what the walk finds is read by Table 17

pub record IsRead (s : List ℕ) (c : Cursor) : Type 0 where
  pub stop : ℕ
  pub reading : Reads splice_descriptor [] (bit s) (8 * c.end) (8 * c.at) stop (trace_at s c)

abbrev pub AllRead : List ℕ → List Cursor → Type 0
AllRead s [] = Unit {0}
AllRead s (c ∷ cs) = IsRead s c × AllRead s cs

stepped_read : (s : List ℕ) (c : Cursor) (kind : Kind) (next : Cursor) → step_of s c ≡ Ok (Some (kind, next)) → IsRead s c
unfolding trace_at run
stepped_read s c kind next e =
    record {
      stop = 8 * next.at;
      reading =
          record {
            reads = reached_at (read splice_descriptor [] (bit s) (8 * c.end) (8 * c.at)) (8 * next.at) ((stepped s c kind next e).runs_to []);
          };
    }

all_read : (n : ℕ) (s : List ℕ) (c : Cursor) → AllRead s (walk n s c)
unfolding walk on_step
all_read zero s c = tt
all_read (suc n) s c = go (all_read n s) (step_of s c) refl
  where
    go : ((d : Cursor) → AllRead s (walk n s d)) → (σ : Step) → step_of s c ≡ σ → AllRead s (on_step σ c (walk n s))
    go rest (Ok (Some (kind, next))) e = (stepped_read s c kind next e, rest next)
    go rest (Ok None) e = tt
    go rest (Err r) e = tt

pub walked_read : (s : List ℕ) (c : Cursor) → AllRead s (walked s c)
unfolding walked
walked_read s c = all_read (c.end - c.at) s c

-- ---- its rows

opens_tag : (s : List ℕ) (c : Cursor) → IsRead s c → Opens "splice_descriptor_tag" (trace_at s c)
unfolding every avail_descriptor dtmf_descriptor delivery segmentation_components segmentation_end segmentation_descriptor time_descriptor audio_descriptor known_descriptor splice_descriptor
opens_tag s c q =
    given
    (opens "splice_descriptor_tag" (field 8 "splice_descriptor_tag") (field 8 "descriptor_length" ∷ []) _ refl refl refl [] (bit s) (8 * c.end) (8 * c.at))
    q.reading.reads

no_stuffing : (s : List ℕ) (c : Cursor) → IsRead s c → Each (other "alignment_stuffing") (trace_at s c)
unfolding every avail_descriptor dtmf_descriptor delivery segmentation_components segmentation_end segmentation_descriptor time_descriptor audio_descriptor known_descriptor splice_descriptor
no_stuffing s c q =
    trace_each (other "alignment_stuffing") splice_descriptor refl [] (bit s) (8 * c.end) (8 * c.at) q.stop (trace_at s c) q.reading.reads

pub none_stuffing : (s : List ℕ) (cs : List Cursor) → AllRead s cs → Each (other "alignment_stuffing") (traces_at s cs)
unfolding traces_at
none_stuffing s [] h = tt
none_stuffing s (c ∷ cs) h =
    each_append (other "alignment_stuffing") (trace_at s c) (traces_at s cs) (no_stuffing s c h.0) (none_stuffing s cs h.1)

-- the tag tells whether a descriptor under "CUEI" is known
tag_known : (v : ℕ) → leb v 4 ≡ is_known (by_tag v)
unfolding by_tag
tag_known zero = refl
tag_known (suc zero) = refl
tag_known (suc (suc zero)) = refl
tag_known (suc (suc (suc zero))) = refl
tag_known (suc (suc (suc (suc zero)))) = refl
tag_known (suc (suc (suc (suc (suc v))))) = above (suc (suc (suc (suc (suc v))))) (omega arith)
  where
    above : (x : ℕ) → 4 < x → leb x 4 ≡ is_known (by_tag x)
    above x h =
        lt-leb x 4 h
        ∙ sym
        (λ i.
        is_known
        (cond (ne_eqb x 0 (λ e. omega arith) i) Kind.Avail
        (cond (ne_eqb x 1 (λ e. omega arith) i) Kind.Dtmf
        (cond (ne_eqb x 2 (λ e. omega arith) i) Kind.Segmentation
        (cond (ne_eqb x 3 (λ e. omega arith) i) Kind.Time
        (cond (ne_eqb x 4 (λ e. omega arith) i) Kind.Audio Kind.Unknown))))))

-- so do its rows
own_known : (s : List ℕ) (c : Cursor) → IsRead s c → is_own (trace_at s c) ≡ is_known (kind_of s c.at)
unfolding splice_descriptor look values kind_of
own_known s c q =
    let top = rows_parts q.reading in
    let inner = rows_parts (frame_parts top.1).0 in
    let rows =
    top.2 ∙ ap (λ (v : Trace). values (field 8 "splice_descriptor_tag" ∷ field 8 "descriptor_length" ∷ []) (bit s) (8 * c.at) ++ v) inner.2 in
    let place : 8 * c.at + 16 ≡ 8 * (c.at + 2) = omega arith in
    let identifier : look (trace_at s c) "identifier" ≡ num (bit s) (8 * (c.at + 2)) 32 =
    ap (λ (u : Trace). look u "identifier") rows ∙ ap (λ (k : ℕ). num (bit s) k 32) place in
    let tag : look (trace_at s c) "splice_descriptor_tag" ≡ num (bit s) (8 * c.at) 8 = ap (λ (u : Trace). look u "splice_descriptor_tag") rows in
    (λ i. eqb (identifier i) 0x43554549 && leb (tag i) 4)
    ∙ of (eqb (num (bit s) (8 * (c.at + 2)) 32) 0x43554549) (num (bit s) (8 * c.at) 8)
  where
    of : (b : Bool) (v : ℕ) → (b && leb v 4) ≡ is_known (cond b (by_tag v) Kind.Unknown)
    of true v = tag_known v
    of false v = refl

-- ---- the parts of a loop

-- what stands at each of these cursors
unfoldable pub list_at : List ℕ → List Cursor → List Trace
list_at s [] = []
list_at s (c ∷ cs) = trace_at s c ∷ list_at s cs

-- the same with reserved values set to 0
unfoldable pub blanks_at : List ℕ → List Cursor → List Trace
blanks_at s [] = []
blanks_at s (c ∷ cs) = blank (trace_at s c) ∷ blanks_at s cs

none_left : (s : List ℕ) (cs : List Cursor) → AllRead s cs → before "splice_descriptor_tag" (traces_at s cs) ≡ []
unfolding traces_at before
none_left s [] h = refl
none_left s (c ∷ cs) h = none_before "splice_descriptor_tag" (trace_at s c) (traces_at s cs) (opens_tag s c h.0)

pub loop_parts : (s : List ℕ) (cs : List Cursor) → AllRead s cs → parts "splice_descriptor_tag" (traces_at s cs) ≡ list_at s cs
unfolding traces_at parts list_at
loop_parts s [] h = refl
loop_parts s (c ∷ cs) h =
    one_part "splice_descriptor_tag" (trace_at s c) (traces_at s cs) (opens_tag s c h.0)
    ∙ ap₂ (λ (t : Trace) (ts : List Trace). t ∷ ts)
    (ap (λ (t : Trace). trace_at s c ++ t) (none_left s cs h.1) ∙ append-nil (trace_at s c))
    (loop_parts s cs h.1)

pub own_blanks : (s : List ℕ) (cs : List Cursor) → AllRead s cs → own (list_at s cs) ≡ blanks_at s (known_among s cs)
unfolding own list_at known_among blanks_at
own_blanks s [] h = refl
own_blanks s (c ∷ cs) h =
    (λ i. cond (own_known s c h.0 i) (blank (trace_at s c) ∷ own_blanks s cs h.1 i) (own_blanks s cs h.1 i)) ∙ chosen (is_known (kind_of s c.at))
  where
    chosen : (b : Bool)
        → cond b (blank (trace_at s c) ∷ blanks_at s (known_among s cs)) (blanks_at s (known_among s cs)) ≡ blanks_at s (cond b (c ∷ known_among s cs) (known_among s cs))
    chosen true = refl
    chosen false = refl

-- and each is what Table 17 reads, with reserved values set to 0
pub all_blanked : (s : List ℕ) (cs : List Cursor) → AllRead s cs → AllBlanked splice_descriptor [] (blanks_at s (known_among s cs))
unfolding known_among blanks_at
all_blanked s [] h = tt
all_blanked s (c ∷ cs) h = chosen (is_known (kind_of s c.at)) (all_blanked s cs h.1)
  where
    chosen : (b : Bool) → AllBlanked splice_descriptor [] (blanks_at s (known_among s cs))
        → AllBlanked splice_descriptor [] (blanks_at s (cond b (c ∷ known_among s cs) (known_among s cs)))
    chosen true rest = (
      record {
        bits = bit s;
        end = 8 * c.end;
        start = 8 * c.at;
        stop = h.0.stop;
        trace = trace_at s c;
        reading = h.0.reading;
        is = refl;
      },
      rest,
    )
    chosen false rest = rest
