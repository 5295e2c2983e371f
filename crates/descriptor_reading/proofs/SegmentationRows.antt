-- The rows of a segmentation descriptor (Table 20), each part with the place where it stands, and that a reading which uses the
-- descriptor up reads these.
-- Assumes nothing.
use mathlib.Core.Path.{◌≡◌, refl, sym, ap, ◌∙◌, subst}
use mathlib.Core.Bool.{Bool, true, false, cond, not, ◌&&◌, false≢true}
use mathlib.Core.List.{List, [], ◌∷◌, ◌++◌, append-nil}
use Prim.Native.Nat.{ℕ, zero, suc, ◌+◌, ◌*◌, ◌≤◌, ◌<◌}
use native.Mathlib.Omega.{arith}
use lib.ListN.{length}
use lib.Dec.{ltb, eqb}
use borrow.Author.Tests.{lt-ltb, le-ltb, ltb-true, ltb-false}
use Rattle.bits.specs.Bits.{bit, num, field_of, flag_of}
use Rattle.bits.proofs.Num.{num_lt}
use Rattle.bits.proofs.Bytes.{bit_lt}
use Rattle.bits.proofs.Within.{field_there, there}
use Rattle.grammar.specs.Syntax.{Item, Test, Prog, field, reserved, among, more, done, fields, branch, call}
use Rattle.grammar.specs.Meaning.{Env, value_of, values, is_among, holds}
use Rattle.grammar.specs.Tables.{delivery, segmentation_components, sub_segmented, segmentation_end, segmentation_descriptor}
use Rattle.grammar.specs.Traces.{Trace}
use Rattle.grammar.proofs.Telling.{Tells, so, place, over, rows, arm, arm_last, sub, sub_last, alike, many}
use Rattle.segmentation_reading.specs.Places.{after_components, upid_place, after_upid}

-- ---- the parts

abbrev pub event : List Item
event = field 32 "segmentation_event_id" ∷ field 1 "segmentation_event_cancel_indicator" ∷ reserved 7 ∷ []

abbrev pub flags : List Item
flags = field 1 "program_segmentation_flag" ∷ field 1 "segmentation_duration_flag" ∷ field 1 "delivery_not_restricted_flag" ∷ []

abbrev pub restrictions : List Item
restrictions =
    field 1 "web_delivery_allowed_flag" ∷ field 1 "no_regional_blackout_flag" ∷ field 1 "archive_allowed_flag" ∷ field 2 "device_restrictions" ∷ []

abbrev pub unrestricted : List Item
unrestricted = reserved 5 ∷ []

abbrev pub count : List Item
count = field 8 "component_count" ∷ []

abbrev pub component : List Item
component = field 8 "component_tag" ∷ reserved 7 ∷ field 33 "pts_offset" ∷ []

abbrev pub lasting : List Item
lasting = field 40 "segmentation_duration" ∷ []

abbrev pub upid_head : List Item
upid_head = field 8 "segmentation_upid_type" ∷ field 8 "segmentation_upid_length" ∷ []

abbrev pub upid_byte : List Item
upid_byte = field 8 "segmentation_upid" ∷ []

abbrev pub numbers : List Item
numbers = field 8 "segmentation_type_id" ∷ field 8 "segment_num" ∷ field 8 "segments_expected" ∷ []

abbrev pub sub_numbers : List Item
sub_numbers = field 8 "sub_segment_num" ∷ field 8 "sub_segments_expected" ∷ []

module _ (s : List ℕ) (at : ℕ) where
  unfoldable pub delivery_rows : Trace
  delivery_rows = cond (flag_of s (8 * (at + 5) + 2)) (values unrestricted (bit s) (8 * (at + 5) + 3)) (values restrictions (bit s) (8 * (at + 5) + 3))

  unfoldable pub component_rows : Trace
  component_rows =
      cond (flag_of s (8 * (at + 5))) [] (values count (bit s) (8 * (at + 6)) ++ many (field_of s (8 * (at + 6)) 8) component (bit s) (8 * (at + 7)))

  unfoldable pub duration_rows : Trace
  duration_rows = cond (flag_of s (8 * (at + 5) + 1)) (values lasting (bit s) (8 * after_components s at)) []

  -- the rows of a descriptor that is not cancelled, which go on with w from its UPID on
  abbrev pub whole_rows : Trace → Trace
  whole_rows w = values event (bit s) (8 * at) ++ (values flags (bit s) (8 * (at + 5)) ++ (delivery_rows ++ (component_rows ++ (duration_rows ++ w))))

-- where the UPID's type stands at byte u
module _ (s : List ℕ) (stop u : ℕ) where
  abbrev pub has_sub_numbers : Bool
  has_sub_numbers = is_among (field_of s (8 * after_upid s u) 8) sub_segmented && ltb (after_upid s u + 3) stop

  unfoldable pub end_rows : Trace
  end_rows =
      values upid_head (bit s) (8 * u)
      ++ (many (field_of s (8 * (u + 1)) 8) upid_byte (bit s) (8 * (u + 2))
      ++ (values numbers (bit s) (8 * after_upid s u) ++ cond has_sub_numbers (values sub_numbers (bit s) (8 * (after_upid s u + 3))) []))

-- ---- a part that is read

-- what was read, and where it ended
abbrev Is : Trace → ℕ → ℕ → Trace → Type 0
Is u m j t = (m ≡ j) × (u ≡ t)

on : (P : ℕ → Trace → Type 0) {p : Prog} {env : Env} {f : ℕ → ℕ} {end m j : ℕ} {u t : Trace}
    → Tells (λ i v. P i (u ++ v)) p env f end m → Is u m j t → Tells (λ i v. P i (t ++ v)) p env f end j
on P {p} {env} {f} {end} {j = j} {u = u} h e =
    subst (λ (t : Trace). Tells (λ i v. P i (t ++ v)) p env f end j) e.1 (subst (λ (j : ℕ). Tells (λ i v. P i (u ++ v)) p env f end j) e.0 h)

call_on : {P : ℕ → Trace → Type 0} {a p : Prog} {env : Env} {f : ℕ → ℕ} {end k m : ℕ} {u : Trace} → Tells (Is u m) a env f end k
    → Tells (λ i v. P i (u ++ v)) p env f end m → Tells P (call a p) env f end k
call_on {P = P} h l = sub (so h (λ j t e. on P l e))

arm_on : {P : ℕ → Trace → Type 0} {c : Test} {a b p : Prog} {env : Env} {f : ℕ → ℕ} {end k m : ℕ} {u : Trace} (v : Bool) → holds c env end k ≡ v
    → Tells (Is u m) (cond v a b) env f end k → Tells (λ i v. P i (u ++ v)) p env f end m → Tells P (branch c a b p) env f end k
arm_on {P = P} v e h l = arm v e (so h (λ j t e. on P l e))

-- a flag that is not 1 is 0
zero_or_one : (x : ℕ) → x < 2 → eqb x 0 ≡ not (eqb x 1)
zero_or_one zero h = refl
zero_or_one (suc zero) h = refl
zero_or_one (suc (suc x)) h = absurd (omega arith)

module _ (s : List ℕ) where
  -- the tests of a flag
  pub flag_set : (k j : ℕ) → k ≡ j → j + 1 ≤ 8 * length s → eqb (num (bit s) k 1) 1 ≡ flag_of s j
  flag_set k j e h = ap (λ (x : ℕ). eqb x 1) (there s k j 1 e (omega arith) h)

  flag_clear : (k j : ℕ) → k ≡ j → j + 1 ≤ 8 * length s → eqb (num (bit s) k 1) 0 ≡ not (flag_of s j)
  flag_clear k j e h = zero_or_one (num (bit s) k 1) (num_lt (bit s) (bit_lt s) k 1) ∙ ap not (flag_set k j e h)

-- ---- the tables

module _ (s : List ℕ) (stop : ℕ) (inside : stop ≤ length s) (env : Env) where
  -- reading from a place on tells that
  abbrev Says : (ℕ → Trace → Type 0) → Prog → ℕ → Type 0
  Says P p k = Tells P p env (bit s) (8 * stop) k

  delivery_is : (k : ℕ) (v : Bool) → eqb (value_of env "delivery_not_restricted_flag") 0 ≡ not v
      → Says (Is (cond v (values unrestricted (bit s) k) (values restrictions (bit s) k)) (k + 5)) delivery k
  unfolding delivery values
  delivery_is k true e = arm_last false e (rows (λ h. over (refl, refl)))
  delivery_is k false e = arm_last true e (rows (λ h. over (refl, refl)))

  components_are : (at : ℕ) (v : Bool) → eqb (value_of env "program_segmentation_flag") 0 ≡ not v
      → let n = field_of s (8 * (at + 6)) 8 in
      Says (Is (cond v [] (values count (bit s) (8 * (at + 6)) ++ many n component (bit s) (8 * (at + 7)))) (8 * cond v (at + 6) (at + 7 + 6 * n)))
      segmentation_components (8 * (at + 6))
  unfolding segmentation_components
  components_are at true e = arm_last false e (over (refl, refl))
  components_are at false e =
      let n : ℕ = field_of s (8 * (at + 6)) 8 in
      arm_last true e
      (rows
      (λ h.
      place (omega arith)
      (alike n (sym (field_there s (8 * (at + 6)) 8 (omega arith) (omega arith)))
      (over (omega arith, ap (λ (t : Trace). values count (bit s) (8 * (at + 6)) ++ t) (sym (append-nil (many n component (bit s) (8 * (at + 7))))))))))

  duration_is : (after : ℕ) (v : Bool)
      → Says (Is (cond v (values lasting (bit s) (8 * after)) []) (8 * cond v (after + 5) after)) (cond v (fields lasting done) done) (8 * after)
  unfolding values
  duration_is after true = rows (λ h. over (omega arith, refl))
  duration_is after false = over (refl, refl)

  -- two bytes more, or not
  sub_numbers_are : (P : ℕ → Trace → Type 0) (k : ℕ) (v w : Bool) → is_among (value_of env "segmentation_type_id") sub_segmented ≡ v
      → ltb k (8 * stop) ≡ w
      → ((j : ℕ) → (v && w ≡ true → k + 16 ≤ 8 * stop) → P j (cond (v && w) (values sub_numbers (bit s) k) []))
      → Says P (branch (among "segmentation_type_id" sub_segmented) (branch more (fields sub_numbers done) done done) done done) k
  unfolding values
  sub_numbers_are P k true true e q h = arm_last true e (arm_last true q (rows (λ l. over (h (k + 16) (λ m. l)))))
  sub_numbers_are P k true false e q h = arm_last true e (arm_last false q (over (h k (λ m. absurd (false≢true m)))))
  sub_numbers_are P k false w e q h = arm_last false e (over (h k (λ m. absurd (false≢true m))))

module _ (s : List ℕ) (stop : ℕ) where
  -- the end of a descriptor, from its UPID's type at byte u on
  pub record Ends (u : ℕ) (t : Trace) : Type 0 where
    pub rows : t ≡ end_rows s stop u
    pub fits : after_upid s u + 3 ≤ stop
    pub more : has_sub_numbers s stop u ≡ true → after_upid s u + 5 ≤ stop

  -- the rows of a descriptor that is not cancelled
  pub record Whole (at : ℕ) (t : Trace) : Type 0 where
    pub rows : t ≡ whole_rows s at (end_rows s stop (upid_place s at))
    pub fits : after_upid s (upid_place s at) + 3 ≤ stop
    pub more : has_sub_numbers s stop (upid_place s at) ≡ true → after_upid s (upid_place s at) + 5 ≤ stop

module _ (s : List ℕ) (stop : ℕ) (inside : stop ≤ length s) where
  -- a test of places in bits is one of bytes
  more_bytes : (n : ℕ) → ltb (8 * n) (8 * stop) ≡ ltb n stop
  more_bytes n = go (ltb n stop) refl
    where
      go : (v : Bool) → ltb n stop ≡ v → ltb (8 * n) (8 * stop) ≡ v
      go true q = lt-ltb (8 * n) (8 * stop) (omega (arith, ltb-true n stop q))
      go false q = le-ltb (8 * n) (8 * stop) (omega (arith, ltb-false n stop q))

  ends : (env : Env) (u : ℕ) → Tells (λ j t. Ends s stop u t) segmentation_end env (bit s) (8 * stop) (8 * u)
  unfolding segmentation_end end_rows
  ends env u =
      let n : ℕ = field_of s (8 * (u + 1)) 8 in
      rows
      (λ h.
      place (omega arith)
      (alike n (there s (8 * u + 8) (8 * (u + 1)) 8 (omega arith) (omega arith) (omega arith))
      (place (omega arith)
      (rows
      (λ l.
      place (omega arith)
      (sub_numbers_are s stop inside _ _ (8 * (after_upid s u + 3)) (is_among (field_of s (8 * after_upid s u) 8) sub_segmented) (ltb (after_upid s u + 3) stop)
      (ap (λ (x : ℕ). is_among x sub_segmented) (sym (field_there s (8 * after_upid s u) 8 (omega arith) (omega arith))))
      (more_bytes (after_upid s u + 3))
      (λ j m. record { rows = refl; fits = omega arith; more = λ e. omega (arith, m e) })))))))

  module _ (at : ℕ) (env : Env) where
    -- a descriptor that is cancelled has these rows only
    pub cancelled : flag_of s (8 * (at + 4)) ≡ true
        → Tells (λ j t. (at + 5 ≤ stop) × (t ≡ values event (bit s) (8 * at))) segmentation_descriptor env (bit s) (8 * stop) (8 * at)
    unfolding segmentation_descriptor values
    cancelled e =
        rows (λ h. arm_last false (flag_clear s (8 * at + 32) (8 * (at + 4)) (omega arith) (omega arith) ∙ ap not e) (over (omega arith, refl)))

    pub whole : flag_of s (8 * (at + 4)) ≡ false → Tells (λ j t. Whole s stop at t) segmentation_descriptor env (bit s) (8 * stop) (8 * at)
    unfolding segmentation_descriptor upid_place delivery_rows component_rows duration_rows
    whole e =
        rows
        (λ h.
        arm_last true (flag_clear s (8 * at + 32) (8 * (at + 4)) (omega arith) (omega arith) ∙ ap not e)
        (place (omega arith)
        (rows
        (λ l.
        call_on (delivery_is s stop inside _ (8 * (at + 5) + 3) (flag_of s (8 * (at + 5) + 2))
        (flag_clear s (8 * (at + 5) + 1 + 1) (8 * (at + 5) + 2) (omega arith) (omega arith)))
        (place (omega arith)
        (call_on (components_are s stop inside _ at (flag_of s (8 * (at + 5))) (flag_clear s _ (8 * (at + 5)) refl (omega arith)))
        (arm_on (flag_of s (8 * (at + 5) + 1)) (flag_set s _ (8 * (at + 5) + 1) refl (omega arith))
        (duration_is s stop inside _ (after_components s at) (flag_of s (8 * (at + 5) + 1)))
        (sub_last (so (ends _ (upid_place s at)) (λ j t m. record { rows = ap (whole_rows s at) m.rows; fits = m.fits; more = m.more }))))))))))
