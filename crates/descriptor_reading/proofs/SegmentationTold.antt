-- What the rows of a segmentation descriptor say is what stands at their places, for a reading that uses the descriptor up.
-- Assumes nothing.
use mathlib.Core.Path.{◌≡◌, refl, sym, ap, ◌∙◌, subst}
use mathlib.Core.Bool.{Bool, true, false, cond}
use mathlib.Core.List.{List, [], ◌++◌}
use mathlib.Core.Logic.{⊎_elim}
use Prim.Native.Nat.{ℕ, ◌+◌, ◌*◌, ◌≤◌, ◌<◌}
use native.Mathlib.Nat.{not-suc-le-zero}
use native.Mathlib.Omega.{arith}
use lib.ListN.{length, take, drop}
use Rattle.units.specs.Clock.{event_id}
use Rattle.bits.specs.Bits.{bit, field_of, flag_of}
use Rattle.bits.proofs.Cases.{by_cases}
use Rattle.bits.proofs.Bytes.{AreBytes}
use Rattle.bits.proofs.Within.{there}
use Rattle.grammar.specs.Meaning.{Env, values, reached, read}
use Rattle.grammar.specs.Tables.{segmentation_descriptor}
use Rattle.grammar.specs.Traces.{Trace, size}
use Rattle.grammar.specs.Names.{Name, look, is_set, all_of, part}
use Rattle.grammar.proofs.Ends.{given}
use Rattle.descriptor_reading.specs.declared.answers.Descriptor.{Descriptor}
use Rattle.descriptor_reading.specs.Descriptor.{sub_segments_of, segmentation_of, through}
use Rattle.segmentation_reading.specs.Places.{upid_place, uncancelled_at}
use Rattle.descriptor_reading.specs.Places.{segmentation_at, components_at}
use Rattle.descriptor_reading.proofs.SegmentationRows as table
use Rattle.descriptor_reading.proofs.SegmentationRows.{delivery_rows, component_rows, duration_rows, whole_rows, end_rows, Whole, cancelled, whole}
use Rattle.descriptor_reading.proofs.Rows.{bytes_are}
use Rattle.descriptor_reading.proofs.SegmentationNames.{headed, id_there, cancel_there, low, to_end, all_to_end, listed, count_told, mode_told, delivery_told, duration_told, sub_answer, upid_type_there, upid_length_there, ends_each, type_there, number_there, expected_there, sub_segments_there, through_size, all_upid, no_components, component_part}

-- ---- what a descriptor says

module _ (s : List ℕ) (at stop : ℕ) (inside : stop ≤ length s) where
  cancelled_says : (body : Trace) → flag_of s (8 * (at + 6 + 4)) ≡ true → (at + 11 ≤ stop) → body ≡ values table.event (bit s) (8 * (at + 6))
      → segmentation_of (headed s at body) ≡ segmentation_at s (at + 6) stop
  unfolding segmentation_of segmentation_at values
  cancelled_says body e h q =
      ap (λ (t : Trace). segmentation_of (headed s at t)) q
      ∙ rw (cancel_there s at [] (omega arith) ∙ e, e) (ap (λ (x : ℕ). Descriptor.CancelledSegmentation (event_id x)) (id_there s at [] (omega arith)))

  whole_says : (body : Trace) → flag_of s (8 * (at + 6 + 4)) ≡ false → Whole s stop (at + 6) body
      → segmentation_of (headed s at body) ≡ segmentation_at s (at + 6) stop
  unfolding segmentation_of segmentation_at uncancelled_at
  whole_says body e h =
      let u : ℕ = upid_place s (at + 6) in
      let w : Trace = end_rows s stop u in
      let there : u ≤ length s = omega (arith, h.fits) in
      let rest : Trace =
      values table.flags (bit s) (8 * (at + 6 + 5)) ++ (delivery_rows s (at + 6) ++ (component_rows s (at + 6) ++ (duration_rows s (at + 6) ++ w))) in
      let far : at + 11 ≤ length s = omega (arith, low s at w there) in
      let subs : sub_segments_of (headed s at (whole_rows s (at + 6) w)) ≡ sub_segments_of w =
      (λ i.
      sub_answer (all_to_end s at w there "sub_segment_num" refl refl i) (to_end s at w there "sub_segment_num" refl refl i)
      (to_end s at w there "sub_segments_expected" refl refl i)) in
      ap (λ (t : Trace). segmentation_of (headed s at t)) h.rows
      ∙ rw (cancel_there s at rest far ∙ e, e)
      (λ i.
      Descriptor.Segmentation
      (record {
        segmentation_event_id = event_id (id_there s at rest far i);
        mode = mode_told s at w there i;
        delivery = delivery_told s at w there i;
        duration = duration_told s at w there i;
        segmentation_upid_type = (to_end s at w there "segmentation_upid_type" refl refl ∙ upid_type_there s stop u inside h.fits) i;
        segmentation_upid_length = (to_end s at w there "segmentation_upid_length" refl refl ∙ upid_length_there s stop u inside h.fits) i;
        segmentation_type_id = (to_end s at w there "segmentation_type_id" refl refl ∙ type_there s stop u inside h.fits) i;
        segment_num = (to_end s at w there "segment_num" refl refl ∙ number_there s stop u inside h.fits) i;
        segments_expected = (to_end s at w there "segments_expected" refl refl ∙ expected_there s stop u inside h.fits) i;
        sub_segments = (subs ∙ sub_segments_there s stop u inside h.fits h.more) i;
      }))

-- ---- for a reading of a descriptor's table

-- a component that is there is one of a descriptor that is not cancelled and whose program is not segmented
listed_one : (v w : Bool) (n m : ℕ) → m < cond v 0 (cond w 0 n) → (v ≡ false) × ((w ≡ false) × (m < n))
listed_one true w n m h = absurd (not-suc-le-zero h)
listed_one false true n m h = absurd (not-suc-le-zero h)
listed_one false false n m h = (refl, (refl, h))

-- the values of component m of the descriptor with the rows t, which stands at byte k
pub record Component (s : List ℕ) (t : Trace) (m k : ℕ) : Type 0 where
  pub tag : look (part "component_tag" m t) "component_tag" ≡ field_of s (8 * k) 8
  pub offset : look (part "component_tag" m t) "pts_offset" ≡ field_of s (8 * k + 15) 33

-- the n bytes of the UPID of the descriptor with the rows t, which stands at byte `at`, stand from byte k on
pub record UpidStands (at : ℕ) (t : Trace) (k n : ℕ) : Type 0 where
  pub starts : 8 * at + size (through "segmentation_upid_length" t) ≡ 8 * k
  pub long : look t "segmentation_upid_length" ≡ n

module _ (s : List ℕ) (at stop : ℕ) (env : Env) (body : Trace) (inside : stop ≤ length s)
    (reads : read segmentation_descriptor env (bit s) (8 * stop) (8 * (at + 6)) ≡ reached (8 * stop) body) where
  as_cancelled : flag_of s (8 * (at + 6 + 4)) ≡ true → (at + 11 ≤ stop) × (body ≡ values table.event (bit s) (8 * (at + 6)))
  as_cancelled e = let h = given (cancelled s stop inside (at + 6) env e).tells reads in (omega (arith, h.0), h.1)

  as_whole : flag_of s (8 * (at + 6 + 4)) ≡ false → Whole s stop (at + 6) body
  as_whole e = given (whole s stop inside (at + 6) env e).tells reads

  pub segmentation_told : segmentation_of (headed s at body) ≡ segmentation_at s (at + 6) stop
  segmentation_told =
      ⊎_elim (λ e. let h = as_cancelled e in cancelled_says s at stop inside body e h.0 h.1) (λ e. whole_says s at stop inside body e (as_whole e))
      (by_cases (flag_of s (8 * (at + 6 + 4))))

  pub cancel_told : is_set (headed s at body) "segmentation_event_cancel_indicator" ≡ flag_of s (8 * (at + 10))
  unfolding values
  cancel_told =
      let n : Name = "segmentation_event_cancel_indicator" in
      let place : 8 * (at + 6 + 4) ≡ 8 * (at + 10) = omega arith in
      ⊎_elim
      (λ e. let h = as_cancelled e in ap (λ (t : Trace). is_set (headed s at t) n) h.1 ∙ cancel_there s at [] (omega arith))
      (λ e.
      let h = as_whole e in
      let w : Trace = end_rows s stop (upid_place s (at + 6)) in
      ap (λ (t : Trace). is_set (headed s at t) n) h.rows ∙ cancel_there s at _ (omega (arith, low s at w (omega (arith, h.fits)))))
      (by_cases (flag_of s (8 * (at + 6 + 4))))
      ∙ ap (flag_of s) place

  pub count_of_components : look (headed s at body) "component_count" ≡ components_at s (at + 6)
  unfolding values look
  count_of_components =
      ⊎_elim (λ e. ap (λ (t : Trace). look (headed s at t) "component_count") (as_cancelled e).1 ∙ rw e)
      (λ e.
      let h = as_whole e in
      let u : ℕ = upid_place s (at + 6) in
      let w : Trace = end_rows s stop u in
      let there : u ≤ length s = omega (arith, h.fits) in
      ap (λ (t : Trace). look (headed s at t) "component_count") h.rows
      ∙ ⊎_elim (λ q. no_components s at w there q (ends_each s stop u "component_count" refl refl refl refl) ∙ rw (e, q))
      (λ q. count_told s at w there q ∙ rw (e, q))
      (by_cases (flag_of s (8 * (at + 6 + 5)))))
      (by_cases (flag_of s (8 * (at + 6 + 4))))

  pub component_told : (m : ℕ) → m < components_at s (at + 6) → Component s (headed s at body) m (at + 13 + 6 * m)
  unfolding values look
  component_told m l =
      let one = listed_one (flag_of s (8 * (at + 6 + 4))) (flag_of s (8 * (at + 6 + 5))) (field_of s (8 * (at + 6 + 6)) 8) m l in
      let h = as_whole one.0 in
      let w : Trace = end_rows s stop (upid_place s (at + 6)) in
      let there-is : upid_place s (at + 6) ≤ length s = omega (arith, h.fits) in
      let fits = listed s at w there-is one.1.0 in
      let c = component_part s at w there-is one.1.0 m one.1.1 in
      let rows = ap (λ (t : Trace). part "component_tag" m (headed s at t)) h.rows ∙ c.1 in
      let k : ℕ = 8 * (at + 6 + 7) + m * 48 in
      record {
        tag =
            ap (λ (t : Trace). look t "component_tag") rows
            ∙ there s k (8 * (at + 13 + 6 * m)) 8 (omega arith) (omega arith) (omega (arith, fits, one.1.1));
        offset =
            ap (λ (t : Trace). look t "pts_offset") rows
            ∙ there s (k + 8 + 7) (8 * (at + 13 + 6 * m) + 15) 33 (omega arith) (omega arith) (omega (arith, fits, one.1.1));
      }

  -- where it is not cancelled
  module _ (kept : flag_of s (8 * (at + 10)) ≡ false) where
    as_kept : Whole s stop (at + 6) body
    as_kept =
        let place : 8 * (at + 6 + 4) ≡ 8 * (at + 10) = omega arith in
        as_whole (ap (flag_of s) place ∙ kept)

    pub upid_told : UpidStands at (headed s at body) (upid_place s (at + 6) + 2) (field_of s (8 * (upid_place s (at + 6) + 1)) 8)
    upid_told =
        let h = as_kept in
        let u : ℕ = upid_place s (at + 6) in
        subst (λ (t : Trace). UpidStands at (headed s at t) (u + 2) (field_of s (8 * (u + 1)) 8)) (sym h.rows)
        (record {
          starts = through_size s at stop inside h.fits;
          long =
              to_end s at (end_rows s stop u) (omega (arith, h.fits)) "segmentation_upid_length" refl refl
              ∙ upid_length_there s stop u inside h.fits;
        })

    pub upid_inside : upid_place s (at + 6) + 2 + field_of s (8 * (upid_place s (at + 6) + 1)) 8 ≤ stop
    upid_inside = omega (arith, as_kept.fits)

    -- the bytes that the part has are the values under the name
    pub upid_bytes_lem : AreBytes s
        → take (field_of s (8 * (upid_place s (at + 6) + 1)) 8) (drop (upid_place s (at + 6) + 2) s) ≡ all_of (headed s at body) "segmentation_upid"
    upid_bytes_lem bytes =
        let h = as_kept in
        let u : ℕ = upid_place s (at + 6) in
        bytes_are s bytes (field_of s (8 * (u + 1)) 8) (u + 2) (omega (arith, h.fits))
        ∙ sym (all_upid s at stop inside h.fits)
        ∙ ap (λ (t : Trace). all_of (headed s at t) "segmentation_upid") (sym h.rows)
