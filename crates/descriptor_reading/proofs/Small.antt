-- The rows of an avail, a DTMF, a time and an audio descriptor after the identifier, whole, and what they say by name and by place.
-- Assumes nothing.
use mathlib.Core.Path.{◌≡◌, refl, ap, ◌∙◌}
use mathlib.Core.List.{List, [], ◌∷◌, ◌++◌, append-nil}
use Prim.Native.Nat.{ℕ, ◌+◌, ◌*◌, ◌<◌}
use native.Mathlib.Omega.{arith}
use lib.ListN.{length, get_or}
use Rattle.bits.specs.Bits.{bit, num, field_of}
use Rattle.bits.proofs.Within.{there}
use Rattle.grammar.specs.Syntax.{Item, field, reserved}
use Rattle.grammar.specs.Meaning.{Env, values}
use Rattle.grammar.specs.Tables.{avail_descriptor, dtmf_descriptor, time_descriptor, audio_descriptor}
use Rattle.grammar.specs.Traces.{Trace}
use Rattle.grammar.specs.Names.{look, all_of, part}
use Rattle.grammar.proofs.Ends.{given}
use Rattle.grammar.proofs.Telling.{Tells, rows, alike, over, many}
use Rattle.grammar.proofs.Names.{part_past, part_many, all_many, fields_from, fields_length, fields_at}
use Rattle.descriptors.specs.declared.Kind.{Kind}
use Rattle.descriptors.specs.Walk.{kind_of, table_of}
use Rattle.known_walk.specs.Places.{Stands}
use Rattle.descriptor_reading.proofs.Tags.{reads_as}
use Rattle.descriptor_reading.proofs.SegmentationNames.{headed}

-- ---- the rows

abbrev avail_rows : List Item
avail_rows = field 32 "provider_avail_id" ∷ []

abbrev time_rows : List Item
time_rows = field 48 "TAI_seconds" ∷ field 32 "TAI_ns" ∷ field 16 "UTC_offset" ∷ []

abbrev dtmf_rows : List Item
dtmf_rows = field 8 "preroll" ∷ field 3 "dtmf_count" ∷ reserved 5 ∷ []

abbrev char_rows : List Item
char_rows = field 8 "DTMF_char" ∷ []

abbrev audio_rows : List Item
audio_rows = field 4 "audio_count" ∷ reserved 4 ∷ []

-- after the row that opens a component
abbrev component_rows : List Item
component_rows = field 24 "ISO_code" ∷ field 3 "Bit_Stream_Mode" ∷ field 4 "Num_Channels" ∷ field 1 "Full_Srvc_Audio" ∷ []

-- a reading ends at that place, and these are its rows
abbrev Whole : ℕ → Trace → ℕ → Trace → Type 0
Whole e u j t = (j ≡ e) × (t ≡ u)

avail_tells : (env : Env) (f : ℕ → ℕ) (end k : ℕ) → Tells (Whole (k + 32) (values avail_rows f k ++ [])) avail_descriptor env f end k
unfolding avail_descriptor
avail_tells env f end k = rows (λ m. over (refl, refl))

time_tells : (env : Env) (f : ℕ → ℕ) (end k : ℕ) → Tells (Whole (k + 96) (values time_rows f k ++ [])) time_descriptor env f end k
unfolding time_descriptor
time_tells env f end k = rows (λ m. over (refl, refl))

dtmf_tells : (env : Env) (f : ℕ → ℕ) (end k : ℕ)
    → Tells (Whole (k + 16 + num f (k + 8) 3 * 8) (values dtmf_rows f k ++ (many (num f (k + 8) 3) char_rows f (k + 16) ++ []))) dtmf_descriptor env f end k
unfolding dtmf_descriptor
dtmf_tells env f end k = rows (λ m. alike (num f (k + 8) 3) refl (over (refl, refl)))

audio_tells : (env : Env) (f : ℕ → ℕ) (end k : ℕ)
    → Tells (Whole (k + 8 + num f k 4 * 40) (values audio_rows f k ++ (many (num f k 4) (field 8 "component_tag" ∷ component_rows) f (k + 8) ++ [])))
    audio_descriptor env f end k
unfolding audio_descriptor
audio_tells env f end k = rows (λ m. alike (num f k 4) refl (over (refl, refl)))

-- ---- what they say

module _ (s : List ℕ) (at : ℕ) (t : Trace) (h : Stands s at t) where
  -- where the descriptor ends and its rows, as the table of its kind tells
  whole : (k : Kind) {e : ℕ} {u : Trace} → Tells (Whole e u) (table_of k) h.env (bit s) (8 * h.stop) (8 * (at + 6)) → kind_of s at ≡ k
      → (8 * h.stop ≡ e) × (t ≡ headed s at u)
  whole k l e = let w = given l.tells (reads_as s at t h k e) in (w.0, h.rows ∙ ap (headed s at) w.1)

  pub avail_values : kind_of s at ≡ Kind.Avail → look t "provider_avail_id" ≡ field_of s (8 * (at + 6)) 32
  unfolding table_of values look
  avail_values e =
      let w = whole Kind.Avail (avail_tells h.env (bit s) (8 * h.stop) (8 * (at + 6))) e in
      ap (λ (u : Trace). look u "provider_avail_id") w.1
      ∙ there s (8 * (at + 6)) (8 * (at + 6)) 32 refl (omega arith) (omega (arith, w.0, h.inside))

  -- the values of a time descriptor
  pub record TimeTold : Type 0 where
    pub seconds : look t "TAI_seconds" ≡ field_of s (8 * (at + 6)) 48
    pub nanoseconds : look t "TAI_ns" ≡ field_of s (8 * (at + 12)) 32
    pub offset : look t "UTC_offset" ≡ field_of s (8 * (at + 16)) 16

  pub time_values : kind_of s at ≡ Kind.Time → TimeTold
  unfolding table_of values look
  time_values e =
      let w = whole Kind.Time (time_tells h.env (bit s) (8 * h.stop) (8 * (at + 6))) e in
      record {
        seconds =
            ap (λ (u : Trace). look u "TAI_seconds") w.1
            ∙ there s (8 * (at + 6)) (8 * (at + 6)) 48 refl (omega arith) (omega (arith, w.0, h.inside));
        nanoseconds =
            ap (λ (u : Trace). look u "TAI_ns") w.1
            ∙ there s (8 * (at + 6) + 48) (8 * (at + 12)) 32 (omega arith) (omega arith) (omega (arith, w.0, h.inside));
        offset =
            ap (λ (u : Trace). look u "UTC_offset") w.1
            ∙ there s (8 * (at + 6) + 48 + 32) (8 * (at + 16)) 16 (omega arith) (omega arith) (omega (arith, w.0, h.inside));
      }

  -- those of a DTMF descriptor, and its characters by number
  pub record DtmfTold : Type 0 where
    pub preroll : look t "preroll" ≡ field_of s (8 * (at + 6)) 8
    pub count : look t "dtmf_count" ≡ field_of s (8 * (at + 7)) 3
    pub long : length (all_of t "DTMF_char") ≡ field_of s (8 * (at + 7)) 3
    pub char : (m : ℕ) → m < field_of s (8 * (at + 7)) 3 → get_or (all_of t "DTMF_char") m 0 ≡ field_of s (8 * (at + 8 + m)) 8

  pub dtmf_values : kind_of s at ≡ Kind.Dtmf → DtmfTold
  unfolding table_of values look all_of
  dtmf_values e =
      let c : ℕ = num (bit s) (8 * (at + 6) + 8) 3 in
      let w = whole Kind.Dtmf (dtmf_tells h.env (bit s) (8 * h.stop) (8 * (at + 6))) e in
      let count : c ≡ field_of s (8 * (at + 7)) 3 =
      there s (8 * (at + 6) + 8) (8 * (at + 7)) 3 (omega arith) (omega arith) (omega (arith, w.0, h.inside)) in
      let chars : all_of t "DTMF_char" ≡ fields_from (bit s) 8 c (8 * (at + 6) + 16) ++ [] =
      ap (λ (u : Trace). all_of u "DTMF_char") w.1 ∙ all_many "DTMF_char" 8 refl (bit s) c (8 * (at + 6) + 16) [] in
      record {
        preroll =
            ap (λ (u : Trace). look u "preroll") w.1
            ∙ there s (8 * (at + 6)) (8 * (at + 6)) 8 refl (omega arith) (omega (arith, w.0, h.inside));
        count = ap (λ (u : Trace). look u "dtmf_count") w.1 ∙ count;
        long = ap length (chars ∙ append-nil (fields_from (bit s) 8 c (8 * (at + 6) + 16))) ∙ fields_length (bit s) 8 c (8 * (at + 6) + 16) ∙ count;
        char = λ m l.
            ap (λ (x : List ℕ). get_or x m 0) chars
            ∙ fields_at (bit s) 8 c (8 * (at + 6) + 16) m [] (omega arith)
            ∙ there s (8 * (at + 6) + 16 + m * 8) (8 * (at + 8 + m)) 8 (omega arith) (omega arith) (omega (arith, w.0, h.inside));
      }

  pub audio_count : kind_of s at ≡ Kind.Audio → look t "audio_count" ≡ field_of s (8 * (at + 6)) 4
  unfolding table_of values look
  audio_count e =
      let w = whole Kind.Audio (audio_tells h.env (bit s) (8 * h.stop) (8 * (at + 6))) e in
      ap (λ (u : Trace). look u "audio_count") w.1 ∙ there s (8 * (at + 6)) (8 * (at + 6)) 4 refl (omega arith) (omega (arith, w.0, h.inside))

  -- the values of component m of an audio descriptor
  pub record AudioTold (m : ℕ) : Type 0 where
    pub tag : look (part "component_tag" m t) "component_tag" ≡ field_of s (8 * (at + 7 + 5 * m)) 8
    pub code : look (part "component_tag" m t) "ISO_code" ≡ field_of s (8 * (at + 7 + 5 * m) + 8) 24
    pub mode : look (part "component_tag" m t) "Bit_Stream_Mode" ≡ field_of s (8 * (at + 7 + 5 * m) + 32) 3
    pub channels : look (part "component_tag" m t) "Num_Channels" ≡ field_of s (8 * (at + 7 + 5 * m) + 35) 4
    pub full : look (part "component_tag" m t) "Full_Srvc_Audio" ≡ field_of s (8 * (at + 7 + 5 * m) + 39) 1

  pub audio_values : kind_of s at ≡ Kind.Audio → (m : ℕ) → m < field_of s (8 * (at + 6)) 4 → AudioTold m
  unfolding table_of values look
  audio_values e m l =
      let c : ℕ = num (bit s) (8 * (at + 6)) 4 in
      let k : ℕ = 8 * (at + 6) + 8 in
      let w = whole Kind.Audio (audio_tells h.env (bit s) (8 * h.stop) (8 * (at + 6))) e in
      let count : c ≡ field_of s (8 * (at + 6)) 4 = there s (8 * (at + 6)) (8 * (at + 6)) 4 refl (omega arith) (omega (arith, w.0, h.inside)) in
      let one = part_many "component_tag" (field 8 "component_tag") component_rows refl refl c m (bit s) k [] (omega arith) in
      let is : part "component_tag" m t ≡ values (field 8 "component_tag" ∷ component_rows) (bit s) (k + m * 40) ++ one.0 =
      ap (part "component_tag" m) w.1
      ∙ part_past "component_tag" m (headed s at (values audio_rows (bit s) (8 * (at + 6)))) _ (refl, (refl, (refl, (refl, (refl, tt)))))
      ∙ one.1 in
      record {
        tag =
            ap (λ (u : Trace). look u "component_tag") is
            ∙ there s (k + m * 40) (8 * (at + 7 + 5 * m)) 8 (omega arith) (omega arith) (omega (arith, w.0, h.inside));
        code =
            ap (λ (u : Trace). look u "ISO_code") is
            ∙ there s (k + m * 40 + 8) (8 * (at + 7 + 5 * m) + 8) 24 (omega arith) (omega arith) (omega (arith, w.0, h.inside));
        mode =
            ap (λ (u : Trace). look u "Bit_Stream_Mode") is
            ∙ there s (k + m * 40 + 8 + 24) (8 * (at + 7 + 5 * m) + 32) 3 (omega arith) (omega arith) (omega (arith, w.0, h.inside));
        channels =
            ap (λ (u : Trace). look u "Num_Channels") is
            ∙ there s (k + m * 40 + 8 + 24 + 3) (8 * (at + 7 + 5 * m) + 35) 4 (omega arith) (omega arith) (omega (arith, w.0, h.inside));
        full =
            ap (λ (u : Trace). look u "Full_Srvc_Audio") is
            ∙ there s (k + m * 40 + 8 + 24 + 3 + 4) (8 * (at + 7 + 5 * m) + 39) 1 (omega arith) (omega arith) (omega (arith, w.0, h.inside));
      }
