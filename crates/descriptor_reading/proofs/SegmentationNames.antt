-- The rows of a segmentation descriptor by their names: the value of each is that of the field at its place.
-- Assumes nothing.
use mathlib.Core.Path.{◌≡◌, refl, ap, ◌∙◌}
use mathlib.Core.Bool.{Bool, true, false, cond}
use mathlib.Core.List.{List, [], ◌∷◌, ◌++◌, append-nil, append_assoc}
use Prim.Native.Nat.{ℕ, ◌+◌, ◌*◌, ◌≤◌, ◌<◌}
use native.Mathlib.Omega.{arith}
use lib.ListN.{length}
use lib.Dec.{ltb}
use Rattle.bits.specs.Bits.{bit, num, field_of, flag_of}
use Rattle.bits.proofs.Cases.{cond_same}
use Rattle.bits.proofs.Within.{there}
use Rattle.units.specs.Clock.{ticks}
use Rattle.grammar.specs.Syntax.{Item, field, reserved}
use Rattle.grammar.specs.Meaning.{values}
use Rattle.grammar.specs.Traces.{Trace, rows_of, size}
use Rattle.grammar.specs.Names.{Name, look, is_set, all_of, part}
use Rattle.grammar.proofs.Each.{all, Each, each_append, each_values}
use Rattle.grammar.proofs.Traces.{size_append}
use Rattle.grammar.proofs.Telling.{many}
use Rattle.grammar.proofs.Names.{other, look_past, look_none, all_past, all_none, part_past, part_many, each_many, fields_from, all_many}
use Rattle.std.specs.Prelude.{Option, Some, None}
use Rattle.units.specs.declared.mode.Mode.{Mode}
use Rattle.segmentation_reading.specs.declared.answers.Restrictions.{Restrictions}
use Rattle.segmentation_reading.specs.declared.answers.SubSegment.{SubSegment}
use Rattle.descriptor_reading.specs.Descriptor.{mode_of, delivery_of, duration_of, sub_segments_of, through}
use Rattle.segmentation_reading.specs.Places.{after_components, upid_place, after_upid, mode_at, delivery_at, duration_at, sub_segments_at}
use Rattle.descriptor_reading.proofs.SegmentationRows as table
use Rattle.descriptor_reading.proofs.SegmentationRows.{flag_set, delivery_rows, component_rows, duration_rows, whole_rows, has_sub_numbers, end_rows}
use Rattle.descriptor_reading.proofs.Rows.{both, each_rows, each_cond, through_past, size_many}

-- the rows before the body of a descriptor that stands at byte `at`, and the body
abbrev pub headed : List ℕ → ℕ → Trace → Trace
headed s at body =
    values (field 8 "splice_descriptor_tag" ∷ field 8 "descriptor_length" ∷ []) (bit s) (8 * at)
    ++ (values (field 32 "identifier" ∷ []) (bit s) (8 * at + 16) ++ body)

-- ---- the rows of a descriptor that is not cancelled

-- those that are always there before the UPID
abbrev head_items : List Item
head_items = field 8 "splice_descriptor_tag" ∷ field 8 "descriptor_length" ∷ field 32 "identifier" ∷ [] ++ (table.event ++ table.flags)

-- and those that may be
abbrev more_items : List Item
more_items = table.restrictions ++ (table.count ++ (table.component ++ table.lasting))

module _ (s : List ℕ) (at : ℕ) where
  head : Trace
  head = headed s at (values table.event (bit s) (8 * (at + 6)) ++ values table.flags (bit s) (8 * (at + 6 + 5)))

  head_each : (n : Name) → all (other n) head_items ≡ true → Each (other n) head
  unfolding head values rows_of
  head_each n h = each_rows (other n) head h

  delivery_each : (n : Name) → all (other n) table.restrictions ≡ true → Each (other n) (delivery_rows s (at + 6))
  unfolding delivery_rows
  delivery_each n h =
      let k : ℕ = 8 * (at + 6 + 5) + 3 in
      each_cond (other n) (flag_of s (8 * (at + 6 + 5) + 2)) (values table.unrestricted (bit s) k) (values table.restrictions (bit s) k)
      (each_values (other n) table.unrestricted (bit s) k refl) (each_values (other n) table.restrictions (bit s) k h)

  components_each : (n : Name) → all (other n) table.count ≡ true → all (other n) table.component ≡ true → Each (other n) (component_rows s (at + 6))
  unfolding component_rows
  components_each n h l =
      let c : Trace = values table.count (bit s) (8 * (at + 6 + 6)) in
      let m : Trace = many (field_of s (8 * (at + 6 + 6)) 8) table.component (bit s) (8 * (at + 6 + 7)) in
      each_cond (other n) (flag_of s (8 * (at + 6 + 5))) [] (c ++ m) tt
      (each_append (other n) c m (each_values (other n) table.count (bit s) _ h) (each_many (other n) table.component (bit s) _ _ l))

  duration_each : (n : Name) → all (other n) table.lasting ≡ true → Each (other n) (duration_rows s (at + 6))
  unfolding duration_rows
  duration_each n h =
      let k : ℕ = 8 * after_components s (at + 6) in
      each_cond (other n) (flag_of s (8 * (at + 6 + 5) + 1)) (values table.lasting (bit s) k) [] (each_values (other n) table.lasting (bit s) k h) tt

  -- all that stand before the UPID
  opened : Trace
  opened = head ++ (delivery_rows s (at + 6) ++ (component_rows s (at + 6) ++ duration_rows s (at + 6)))

  opened_each : (n : Name) → all (other n) head_items ≡ true → all (other n) more_items ≡ true → Each (other n) opened
  unfolding opened
  opened_each n h l =
      let q : Item → Bool = other n in
      let d = both q table.restrictions (table.count ++ (table.component ++ table.lasting)) l in
      let c = both q table.count (table.component ++ table.lasting) d.1 in
      let m = both q table.component table.lasting c.1 in
      each_append q head (delivery_rows s (at + 6) ++ (component_rows s (at + 6) ++ duration_rows s (at + 6))) (head_each n h)
      (each_append q (delivery_rows s (at + 6)) (component_rows s (at + 6) ++ duration_rows s (at + 6)) (delivery_each n d.0)
      (each_append q (component_rows s (at + 6)) (duration_rows s (at + 6)) (components_each n c.0 m.0) (duration_each n m.1)))

  head_on : (w : Trace)
      → headed s at (whole_rows s (at + 6) w) ≡ head ++ (delivery_rows s (at + 6) ++ (component_rows s (at + 6) ++ (duration_rows s (at + 6) ++ w)))
  unfolding head values
  head_on w = refl

  opened_on : (w : Trace) → headed s at (whole_rows s (at + 6) w) ≡ opened ++ w
  unfolding opened
  opened_on w = head_on w ∙ simp append_assoc

  -- they end where the UPID's type stands
  head_size : size head ≡ 91
  unfolding head values rows_of
  head_size = refl

  delivery_size : size (delivery_rows s (at + 6)) ≡ 5
  unfolding delivery_rows values rows_of
  delivery_size = go (flag_of s (8 * (at + 6 + 5) + 2))
    where
      go : (v : Bool)
          → let k = 8 * (at + 6 + 5) + 3 in
          size (cond v (values table.unrestricted (bit s) k) (values table.restrictions (bit s) k)) ≡ 5
      go true = refl
      go false = refl

  components_size : 8 * (at + 12) + size (component_rows s (at + 6)) ≡ 8 * after_components s (at + 6)
  unfolding component_rows values rows_of
  components_size = go (flag_of s (8 * (at + 6 + 5)))
    where
      go : (v : Bool)
          → let n = field_of s (8 * (at + 6 + 6)) 8 in
          8 * (at + 12) + size (cond v [] (values table.count (bit s) (8 * (at + 6 + 6)) ++ many n table.component (bit s) (8 * (at + 6 + 7))))
          ≡ 8 * cond v (at + 6 + 6) (at + 6 + 7 + 6 * n)
      go true = omega arith
      go false = omega (arith, size_many (field_of s (8 * (at + 6 + 6)) 8) table.component (bit s) (8 * (at + 6 + 7)))

  duration_size : 8 * after_components s (at + 6) + size (duration_rows s (at + 6)) ≡ 8 * upid_place s (at + 6)
  unfolding duration_rows upid_place values rows_of
  duration_size = go (flag_of s (8 * (at + 6 + 5) + 1)) (after_components s (at + 6))
    where
      go : (v : Bool) (k : ℕ) → 8 * k + size (cond v (values table.lasting (bit s) (8 * k)) []) ≡ 8 * cond v (k + 5) k
      go true k = omega arith
      go false k = omega arith

  opened_size : 8 * at + size opened ≡ 8 * upid_place s (at + 6)
  unfolding opened
  opened_size =
      let d : Trace = delivery_rows s (at + 6) in
      let c : Trace = component_rows s (at + 6) in
      let l : Trace = duration_rows s (at + 6) in
      omega
      (arith, size_append head (d ++ (c ++ l)), size_append d (c ++ l), size_append c l, head_size, delivery_size, components_size, duration_size)

-- ---- the values under their names

-- what delivery is restricted to, by the four fields
abbrev restricted : Bool → Bool → Bool → ℕ → Option Restrictions
restricted web regional archive devices =
    Some
    (record { web_delivery_allowed_flag = web; no_regional_blackout_flag = regional; archive_allowed_flag = archive; device_restrictions = devices })

module _ (s : List ℕ) (at : ℕ) where
  pub id_there : (w : Trace) → at + 11 ≤ length s
      → look (headed s at (values table.event (bit s) (8 * (at + 6)) ++ w)) "segmentation_event_id" ≡ field_of s (8 * (at + 6)) 32
  unfolding look values
  id_there w h = there s (8 * (at + 6)) (8 * (at + 6)) 32 refl (omega arith) (omega arith)

  pub cancel_there : (w : Trace) → at + 11 ≤ length s
      → is_set (headed s at (values table.event (bit s) (8 * (at + 6)) ++ w)) "segmentation_event_cancel_indicator" ≡ flag_of s (8 * (at + 6 + 4))
  unfolding look values
  cancel_there w h = flag_set s (8 * (at + 6) + 32) (8 * (at + 6 + 4)) (omega arith) (omega arith)

  -- where they go on with w from the UPID on, which stands in the bytes
  module _ (w : Trace) (inside : upid_place s (at + 6) ≤ length s) where
    abbrev t : Trace
    t = headed s at (whole_rows s (at + 6) w)

    pub low : at + 12 ≤ length s
    low = omega (arith, components_size s at, duration_size s at)

    -- a name that only the UPID and what follows it have
    pub to_end : (n : Name) → all (other n) head_items ≡ true → all (other n) more_items ≡ true → look t n ≡ look w n
    to_end n h l = ap (λ (u : Trace). look u n) (opened_on s at w) ∙ look_past n (opened s at) w (opened_each s at n h l)

    pub all_to_end : (n : Name) → all (other n) head_items ≡ true → all (other n) more_items ≡ true → all_of t n ≡ all_of w n
    all_to_end n h l = ap (λ (u : Trace). all_of u n) (opened_on s at w) ∙ all_past n (opened s at) w (opened_each s at n h l)

    program_told : is_set t "program_segmentation_flag" ≡ flag_of s (8 * (at + 6 + 5))
    unfolding look values
    program_told = flag_set s (8 * (at + 6 + 5)) (8 * (at + 6 + 5)) refl (omega (arith, low))

    duration_flag_told : is_set t "segmentation_duration_flag" ≡ flag_of s (8 * (at + 6 + 5) + 1)
    unfolding look values
    duration_flag_told = flag_set s (8 * (at + 6 + 5) + 1) (8 * (at + 6 + 5) + 1) refl (omega (arith, low))

    not_restricted_told : is_set t "delivery_not_restricted_flag" ≡ flag_of s (8 * (at + 6 + 5) + 2)
    unfolding look values
    not_restricted_told = flag_set s (8 * (at + 6 + 5) + 1 + 1) (8 * (at + 6 + 5) + 2) (omega arith) (omega (arith, low))

    -- past the rows that are always there and the delivery
    to_components : (n : Name) → all (other n) head_items ≡ true → all (other n) table.restrictions ≡ true
        → look t n ≡ look (component_rows s (at + 6) ++ (duration_rows s (at + 6) ++ w)) n
    to_components n h l =
        ap (λ (u : Trace). look u n) (head_on s at w)
        ∙ look_past n (head s at) _ (head_each s at n h)
        ∙ look_past n (delivery_rows s (at + 6)) _ (delivery_each s at n l)

    -- where components and a duration are there, they stand in the bytes
    pub listed : flag_of s (8 * (at + 6 + 5)) ≡ false → at + 13 + 6 * field_of s (8 * (at + 6 + 6)) 8 ≤ length s
    listed e =
        let n : ℕ = field_of s (8 * (at + 6 + 6)) 8 in
        let ends : after_components s (at + 6) ≡ at + 6 + 7 + 6 * n = ap (λ (v : Bool). cond v (at + 6 + 6) (at + 6 + 7 + 6 * n)) e in
        omega (arith, duration_size s at)

    lasts : flag_of s (8 * (at + 6 + 5) + 1) ≡ true → after_components s (at + 6) + 5 ≤ length s
    unfolding upid_place
    lasts e =
        let n : ℕ = after_components s (at + 6) in
        let ends : upid_place s (at + 6) ≡ n + 5 = ap (λ (v : Bool). cond v (n + 5) n) e in
        omega arith

    pub count_told : flag_of s (8 * (at + 6 + 5)) ≡ false → look t "component_count" ≡ field_of s (8 * (at + 6 + 6)) 8
    unfolding component_rows look values
    count_told e =
        to_components "component_count" refl refl
        ∙ rw e (there s (8 * (at + 6 + 6)) (8 * (at + 6 + 6)) 8 refl (omega arith) (omega (arith, listed e)))

    pub mode_told : mode_of t ≡ mode_at s (at + 6)
    mode_told =
        ap (λ (v : Bool). cond v Mode.Program (Mode.Components (look t "component_count"))) program_told
        ∙ cond_same (flag_of s (8 * (at + 6 + 5))) (λ e. refl) (λ e. ap Mode.Components (count_told e))

    restrictions_told : flag_of s (8 * (at + 6 + 5) + 2) ≡ false
        → let k = 8 * (at + 6 + 5) in
        restricted (is_set t "web_delivery_allowed_flag") (is_set t "no_regional_blackout_flag") (is_set t "archive_allowed_flag")
        (look t "device_restrictions")
        ≡ restricted (flag_of s (k + 3)) (flag_of s (k + 4)) (flag_of s (k + 5)) (field_of s (k + 6) 2)
    unfolding delivery_rows look values
    restrictions_told e =
        let k : ℕ = 8 * (at + 6 + 5) in
        rw e
        (λ i.
        restricted (flag_set s (k + 3) (k + 3) refl (omega (arith, low)) i) (flag_set s (k + 3 + 1) (k + 4) (omega arith) (omega (arith, low)) i)
        (flag_set s (k + 3 + 1 + 1) (k + 5) (omega arith) (omega (arith, low)) i)
        (there s (k + 3 + 1 + 1 + 1) (k + 6) 2 (omega arith) (omega arith) (omega (arith, low)) i))

    pub delivery_told : delivery_of t ≡ delivery_at s (at + 6)
    delivery_told =
        ap (λ (v : Bool). cond v None
        (restricted (is_set t "web_delivery_allowed_flag") (is_set t "no_regional_blackout_flag") (is_set t "archive_allowed_flag")
        (look t "device_restrictions")))
        not_restricted_told
        ∙ cond_same (flag_of s (8 * (at + 6 + 5) + 2)) (λ e. refl) restrictions_told

    pub duration_told : duration_of t ≡ duration_at s (at + 6)
    unfolding duration_rows look values
    duration_told =
        ap (λ (v : Bool). cond v (Some (ticks (look t "segmentation_duration"))) None) duration_flag_told
        ∙ cond_same (flag_of s (8 * (at + 6 + 5) + 1))
        (λ e.
        let k : ℕ = 8 * after_components s (at + 6) in
        ap (λ (x : ℕ). Some (ticks x))
        (to_components "segmentation_duration" refl refl
        ∙ look_past "segmentation_duration" (component_rows s (at + 6)) _ (components_each s at "segmentation_duration" refl refl)
        ∙ rw e (there s k k 40 refl (omega arith) (omega (arith, lasts e)))))
        (λ e. refl)

-- ---- from the UPID on

-- the answer by what the rows have of the two names
abbrev pub sub_answer : List ℕ → ℕ → ℕ → Option SubSegment
sub_answer found number expected = cond (ltb 0 (length found)) (Some (record { sub_segment_num = number; sub_segments_expected = expected })) None

module _ (s : List ℕ) (stop u : ℕ) where
  -- the rows from segmentation_type_id on
  typed : Trace
  typed = values table.numbers (bit s) (8 * after_upid s u) ++ cond (has_sub_numbers s stop u) (values table.sub_numbers (bit s) (8 * (after_upid s u + 3))) []

  upid : Trace
  upid = many (field_of s (8 * (u + 1)) 8) table.upid_byte (bit s) (8 * (u + 2))

  typed_on : end_rows s stop u ≡ values table.upid_head (bit s) (8 * u) ++ (upid ++ typed)
  unfolding end_rows upid typed
  typed_on = refl

  to_typed : (n : Name) → all (other n) table.upid_head ≡ true → all (other n) table.upid_byte ≡ true → look (end_rows s stop u) n ≡ look typed n
  unfolding upid
  to_typed n h l =
      ap (λ (t : Trace). look t n) typed_on
      ∙ look_past n (values table.upid_head (bit s) (8 * u)) (upid ++ typed) (each_values (other n) table.upid_head (bit s) (8 * u) h)
      ∙ look_past n upid typed (each_many (other n) table.upid_byte (bit s) _ _ l)

  all_typed : (n : Name) → all (other n) table.upid_head ≡ true → all (other n) table.upid_byte ≡ true → all_of (end_rows s stop u) n ≡ all_of typed n
  unfolding upid
  all_typed n h l =
      ap (λ (t : Trace). all_of t n) typed_on
      ∙ all_past n (values table.upid_head (bit s) (8 * u)) (upid ++ typed) (each_values (other n) table.upid_head (bit s) (8 * u) h)
      ∙ all_past n upid typed (each_many (other n) table.upid_byte (bit s) _ _ l)

  -- a name that none of these rows has
  typed_each : (n : Name) → all (other n) table.numbers ≡ true → all (other n) table.sub_numbers ≡ true → Each (other n) typed
  unfolding typed
  typed_each n h l =
      let k : ℕ = 8 * after_upid s u in
      let r : Trace = values table.sub_numbers (bit s) (8 * (after_upid s u + 3)) in
      each_append (other n) (values table.numbers (bit s) k) (cond (has_sub_numbers s stop u) r []) (each_values (other n) table.numbers (bit s) k h)
      (each_cond (other n) (has_sub_numbers s stop u) r [] (each_values (other n) table.sub_numbers (bit s) _ l) tt)

  pub ends_each : (n : Name) → all (other n) table.upid_head ≡ true → all (other n) table.upid_byte ≡ true → all (other n) table.numbers ≡ true
      → all (other n) table.sub_numbers ≡ true → Each (other n) (end_rows s stop u)
  unfolding end_rows upid typed
  ends_each n h l m o =
      each_append (other n) (values table.upid_head (bit s) (8 * u)) (upid ++ typed) (each_values (other n) table.upid_head (bit s) (8 * u) h)
      (each_append (other n) upid typed (each_many (other n) table.upid_byte (bit s) _ _ l) (typed_each n m o))

module _ (s : List ℕ) (stop u : ℕ) (inside : stop ≤ length s) (fits : after_upid s u + 3 ≤ stop) where
  pub upid_type_there : look (end_rows s stop u) "segmentation_upid_type" ≡ field_of s (8 * u) 8
  unfolding end_rows look values
  upid_type_there = there s (8 * u) (8 * u) 8 refl (omega arith) (omega arith)

  pub upid_length_there : look (end_rows s stop u) "segmentation_upid_length" ≡ field_of s (8 * (u + 1)) 8
  unfolding end_rows look values
  upid_length_there = there s (8 * u + 8) (8 * (u + 1)) 8 (omega arith) (omega arith) (omega arith)

  pub type_there : look (end_rows s stop u) "segmentation_type_id" ≡ field_of s (8 * after_upid s u) 8
  unfolding typed look values
  type_there =
      let k : ℕ = after_upid s u in
      to_typed s stop u "segmentation_type_id" refl refl ∙ there s (8 * k) (8 * k) 8 refl (omega arith) (omega arith)

  pub number_there : look (end_rows s stop u) "segment_num" ≡ field_of s (8 * (after_upid s u + 1)) 8
  unfolding typed look values
  number_there =
      let k : ℕ = after_upid s u in
      to_typed s stop u "segment_num" refl refl ∙ there s (8 * k + 8) (8 * (k + 1)) 8 (omega arith) (omega arith) (omega arith)

  pub expected_there : look (end_rows s stop u) "segments_expected" ≡ field_of s (8 * (after_upid s u + 2)) 8
  unfolding typed look values
  expected_there =
      let k : ℕ = after_upid s u in
      to_typed s stop u "segments_expected" refl refl ∙ there s (8 * k + 8 + 8) (8 * (k + 2)) 8 (omega arith) (omega arith) (omega arith)

  pub sub_segments_there : (has_sub_numbers s stop u ≡ true → after_upid s u + 5 ≤ stop)
      → sub_segments_of (end_rows s stop u) ≡ sub_segments_at s (field_of s (8 * after_upid s u) 8) (after_upid s u + 3) stop
  unfolding typed look all_of values
  sub_segments_there more =
      let k : ℕ = after_upid s u in
      (λ i.
      sub_answer (all_typed s stop u "sub_segment_num" refl refl i) (to_typed s stop u "sub_segment_num" refl refl i)
      (to_typed s stop u "sub_segments_expected" refl refl i))
      ∙ go (has_sub_numbers s stop u)
      (λ e. there s (8 * (k + 3)) (8 * (k + 3)) 8 refl (omega arith) (omega (arith, more e)))
      (λ e. there s (8 * (k + 3) + 8) (8 * (k + 3 + 1)) 8 (omega arith) (omega arith) (omega (arith, more e)))
    where
      go : (v : Bool) {x y : ℕ} → (v ≡ true → num (bit s) (8 * (after_upid s u + 3)) 8 ≡ x)
          → (v ≡ true → num (bit s) (8 * (after_upid s u + 3) + 8) 8 ≡ y)
          → let r = values table.numbers (bit s) (8 * after_upid s u) ++ cond v (values table.sub_numbers (bit s) (8 * (after_upid s u + 3))) [] in
          sub_answer (all_of r "sub_segment_num") (look r "sub_segment_num") (look r "sub_segments_expected") ≡ cond v (Some (record { sub_segment_num = x; sub_segments_expected = y })) None
      go true h l = λ i. Some (record { sub_segment_num = h refl i; sub_segments_expected = l refl i })
      go false h l = refl

-- ---- the UPID

module _ (s : List ℕ) (at stop : ℕ) (inside : stop ≤ length s) (fits : after_upid s (upid_place s (at + 6)) + 3 ≤ stop) where
  abbrev u : ℕ
  u = upid_place s (at + 6)

  abbrev entire : Trace
  entire = headed s at (whole_rows s (at + 6) (end_rows s stop u))

  pub through_size : 8 * at + size (through "segmentation_upid_length" entire) ≡ 8 * (u + 2)
  unfolding end_rows through values rows_of
  through_size =
      let n : Name = "segmentation_upid_length" in
      let rows : through n entire ≡ opened s at ++ values table.upid_head (bit s) (8 * u) =
      ap (through n) (opened_on s at (end_rows s stop u)) ∙ through_past n (opened s at) (end_rows s stop u) (opened_each s at n refl refl) in
      omega (arith, ap size rows, size_append (opened s at) (values table.upid_head (bit s) (8 * u)), opened_size s at)

  pub all_upid : all_of entire "segmentation_upid" ≡ fields_from (bit s) 8 (field_of s (8 * (u + 1)) 8) (8 * (u + 2))
  unfolding upid
  all_upid =
      let n : Name = "segmentation_upid" in
      let c : ℕ = field_of s (8 * (u + 1)) 8 in
      all_to_end s at (end_rows s stop u) (omega arith) n refl refl
      ∙ ap (λ (t : Trace). all_of t n) (typed_on s stop u)
      ∙ all_past n (values table.upid_head (bit s) (8 * u)) (upid s stop u ++ typed s stop u)
      (each_values (other n) table.upid_head (bit s) (8 * u) refl)
      ∙ all_many n 8 refl (bit s) c (8 * (u + 2)) (typed s stop u)
      ∙ ap (λ (l : List ℕ). fields_from (bit s) 8 c (8 * (u + 2)) ++ l) (all_none n (typed s stop u) (typed_each s stop u n refl refl))
      ∙ append-nil (fields_from (bit s) 8 c (8 * (u + 2)))

-- ---- the components

module _ (s : List ℕ) (at : ℕ) (w : Trace) (inside : upid_place s (at + 6) ≤ length s) where
  pub no_components : flag_of s (8 * (at + 6 + 5)) ≡ true → Each (other "component_count") w
      → look (headed s at (whole_rows s (at + 6) w)) "component_count" ≡ 0
  unfolding component_rows
  no_components e h =
      let n : Name = "component_count" in
      to_components s at w inside n refl refl ∙ rw e (look_past n (duration_rows s (at + 6)) w (duration_each s at n refl) ∙ look_none n w h)

  pub component_part : flag_of s (8 * (at + 6 + 5)) ≡ false → (m : ℕ) → m < field_of s (8 * (at + 6 + 6)) 8
      → (rest : Trace)
      × (part "component_tag" m (headed s at (whole_rows s (at + 6) w)) ≡ values table.component (bit s) (8 * (at + 6 + 7) + m * 48) ++ rest)
  unfolding component_rows values
  component_part e m l =
      let n : Name = "component_tag" in
      let x : Trace = duration_rows s (at + 6) ++ w in
      let c : ℕ = field_of s (8 * (at + 6 + 6)) 8 in
      let one = part_many n (field 8 "component_tag") (reserved 7 ∷ field 33 "pts_offset" ∷ []) refl refl c m (bit s) (8 * (at + 6 + 7)) x l in (
        one.0,
        ap (part n m) (head_on s at w)
            ∙ part_past n m (head s at) (delivery_rows s (at + 6) ++ (component_rows s (at + 6) ++ x)) (head_each s at n refl)
            ∙ part_past n m (delivery_rows s (at + 6)) (component_rows s (at + 6) ++ x) (delivery_each s at n refl)
            ∙ rw e
            (part_past n m (values table.count (bit s) (8 * (at + 6 + 6))) (many c table.component (bit s) (8 * (at + 6 + 7)) ++ x)
            (each_values (other n) table.count (bit s) (8 * (at + 6 + 6)) refl)
            ∙ one.1),
      )
