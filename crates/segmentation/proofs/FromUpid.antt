-- Table 20 from the UPID on, way by way as the code tests it: how its run ends.
-- Assumes nothing.
use mathlib.Core.Path.{◌≡◌, ap, ◌∙◌}
use mathlib.Core.Bool.{Bool, true, false}
use mathlib.Core.List.{List}
use Prim.Native.Nat.{ℕ, ◌+◌, ◌-◌, ◌*◌, ◌≤◌, ◌<◌}
use native.Mathlib.Omega.{arith}
use lib.ListN.{get_or}
use Rattle.bits.specs.Bits.{bit, num}
use Rattle.grammar.specs.Meaning.{Env, is_among, Outcome, breach, ends}
use Rattle.grammar.specs.Tables.{sub_segmented, segmentation_end}
use Rattle.grammar.proofs.Run.{Runs, pass, short, yes_last, no_last, more_left, none_left, finished, all_there, not_all_there}
use Rattle.grammar.proofs.Places.{octet}

module _ (s : List ℕ) (at end : ℕ) (env : Env) where
  -- this part of the table runs as o says
  abbrev pub Rest : Outcome → Type 0
  Rest o = Runs segmentation_end env (bit s) (8 * end) (8 * at) o

  pub no_rows : at ≤ end → end - at < 2 → Rest (breach 0)
  unfolding segmentation_end
  no_rows h l = short (omega arith)

  -- past the two rows: the second byte is segmentation_upid_length
  module _ (byte : get_or s (at + 1) 0 < 256) (there : 2 ≤ end - at) where
    upid_length : num (bit s) (8 * at + 8) 8 ≡ get_or s (at + 1) 0
    upid_length = octet s (at + 1) (8 * at + 8) byte (omega arith)

    pub upid_cut : end - at - 2 < get_or s (at + 1) 0 → Rest (breach 0)
    unfolding segmentation_end
    upid_cut h = pass (omega arith) (not_all_there _ upid_length (omega arith) (omega arith))

    -- past the UPID, at n
    module _ (n : ℕ) (at_n : n ≡ at + 2 + get_or s (at + 1) 0) (whole : get_or s (at + 1) 0 ≤ end - at - 2) where
      upid_there : 8 * at + 16 + get_or s (at + 1) 0 * 8 ≤ 8 * end
      upid_there = omega arith

      pub type_cut : end - n < 3 → Rest (breach 0)
      unfolding segmentation_end
      type_cut h = pass (omega arith) (all_there _ upid_length upid_there (short (omega arith)))

      -- past segments_expected
      module _ (type : get_or s n 0 < 256) (three : 3 ≤ end - n) where
        among : (t : Bool) → is_among (get_or s n 0) sub_segmented ≡ t → is_among (num (bit s) (8 * at + 16 + get_or s (at + 1) 0 * 8) 8) sub_segmented ≡ t
        among t e = ap (λ (x : ℕ). is_among x sub_segmented) (octet s n (8 * at + 16 + get_or s (at + 1) 0 * 8) type (omega arith)) ∙ e

        pub other_type : is_among (get_or s n 0) sub_segmented ≡ false → Rest (ends (8 * (n + 3)))
        unfolding segmentation_end
        other_type e = pass (omega arith) (all_there _ upid_length upid_there (pass (omega arith) (no_last (among false e) (finished (omega arith)))))

        module _ (e : is_among (get_or s n 0) sub_segmented ≡ true) where
          pub left_out : end - n ≡ 3 → Rest (ends (8 * (n + 3)))
          unfolding segmentation_end
          left_out h =
              pass (omega arith)
              (all_there _ upid_length upid_there (pass (omega arith) (yes_last (among true e) (none_left (omega arith) (finished (omega arith))))))

          pub one_byte : (end - n ≡ 3 → ⊥) → end - n < 5 → Rest (breach 0)
          unfolding segmentation_end
          one_byte h l =
              pass (omega arith)
              (all_there _ upid_length upid_there (pass (omega arith) (yes_last (among true e) (more_left (omega arith) (short (omega arith))))))

          pub two_bytes : 5 ≤ end - n → Rest (ends (8 * (n + 5)))
          unfolding segmentation_end
          two_bytes h =
              pass (omega arith)
              (all_there _ upid_length upid_there
              (pass (omega arith) (yes_last (among true e) (more_left (omega arith) (pass (omega arith) (finished (omega arith)))))))
