-- Table 20 from the event's id on, way by way as the code tests it: how its run ends.
-- Assumes nothing.
use mathlib.Core.Path.{◌≡◌, refl, ◌∙◌}
use mathlib.Core.Bool.{Bool, true, false}
use mathlib.Core.List.{List, [], ◌∷◌}
use Prim.Native.Nat.{ℕ, ◌+◌, ◌-◌, ◌*◌, ◌/◌, ◌%◌, ◌≤◌, ◌<◌}
use native.Mathlib.Omega.{arith}
use lib.Dec.{eqb}
use lib.ListN.{get_or}
use Rattle.bits.specs.Bits.{bit, num}
use Rattle.grammar.specs.Syntax.{Item, Prog, fields, call}
use Rattle.grammar.specs.Meaning.{Env, value_of, width, bind, Outcome, breach, ends}
use Rattle.grammar.specs.Tables.{delivery, segmentation_components, segmentation_end, segmentation_descriptor}
use Rattle.grammar.proofs.Run.{Runs, pass, short, yes_last, no_last, yes, no, called, called_last, finished, at_place}
use Rattle.grammar.proofs.Places.{flag, flag_test}
use Rattle.grammar.proofs.Within.{byte_within}

-- the restrictions, or the bits reserved in their place, end the flags' byte
delivered : {rows : List Item} {p : Prog} {env : Env} {f : ℕ → ℕ} {end k : ℕ} {o : Outcome} → k + width rows + 5 ≤ end
    → Runs p (bind rows f k env) f end (k + width rows + 5) o → Runs (fields rows (call delivery p)) env f end k o
unfolding delivery
delivered {rows} {p} {env} {f} {end} {k} h r =
    pass (omega arith) (called (go (eqb (value_of (bind rows f k env) "delivery_not_restricted_flag") 0) refl) r.runs)
  where
    go : (t : Bool) → eqb (value_of (bind rows f k env) "delivery_not_restricted_flag") 0 ≡ t
        → Runs delivery (bind rows f k env) f end (k + width rows) (ends (k + width rows + 5))
    go true e = yes_last e (pass h (finished refl))
    go false e = no_last e (pass h (finished refl))

-- the flags, as the code takes them from their byte
program_flag : (s : List ℕ) (at : ℕ) → get_or s (at + 5) 0 < 256 → num (bit s) (8 * at + 40) 1 ≡ get_or s (at + 5) 0 / 128
program_flag s at byte = flag s (at + 5) 0 (8 * at + 40) (omega arith) (omega arith) ∙ omega arith

duration_flag : (s : List ℕ) (at v : ℕ) → get_or s (at + 5) 0 / 64 % 2 ≡ v → eqb (num (bit s) (8 * at + 40 + 1) 1) 1 ≡ eqb v 1
duration_flag s at v e = flag_test s (at + 5) 1 (8 * at + 40 + 1) v 1 (omega arith) (omega arith) e

-- the byte after theirs
next_byte : (at : ℕ) → 8 * at + 40 + 3 + 5 ≡ 8 * (at + 6)
next_byte at = omega arith

-- the components end as o says
abbrev pub ComponentsRun : List ℕ → ℕ → ℕ → Outcome → Type 0
ComponentsRun s at end o =
    (env : Env) → value_of env "program_segmentation_flag" ≡ get_or s (at + 5) 0 / 128 → Runs segmentation_components env (bit s) (8 * end) (8 * (at + 6)) o

-- within the part
pub within : (s : List ℕ) (at end n : ℕ) → 6 ≤ end - at → ComponentsRun s at end (ends (8 * n)) → (at + 6 ≤ n) × (n ≤ end)
within s at end n six parts =
    let flags : Env = ("program_segmentation_flag", get_or s (at + 5) 0 / 128) ∷ [] in
    byte_within segmentation_components flags (bit s) end (at + 6) n (parts flags refl).runs (omega arith)

module _ (s : List ℕ) (at end : ℕ) (env : Env) where
  -- the whole table runs as o says
  abbrev pub Whole : Outcome → Type 0
  Whole o = Runs segmentation_descriptor env (bit s) (8 * end) (8 * at) o

  pub no_rows : at ≤ end → end - at < 5 → Whole (breach 0)
  unfolding segmentation_descriptor
  no_rows h l = short (omega arith)

  pub cancelled : 5 ≤ end - at → get_or s (at + 4) 0 < 256 → 128 ≤ get_or s (at + 4) 0 → Whole (ends (8 * (at + 5)))
  unfolding segmentation_descriptor
  cancelled there byte h =
      pass (omega arith) (no_last (flag_test s (at + 4) 0 (8 * at + 32) 1 0 (omega arith) (omega arith) (omega arith)) (finished (omega arith)))

  -- past the cancel indicator
  module _ (there : 5 ≤ end - at) (kept : get_or s (at + 4) 0 < 128) where
    not_cancelled : eqb (num (bit s) (8 * at + 32) 1) 0 ≡ true
    not_cancelled = flag_test s (at + 4) 0 (8 * at + 32) 0 0 (omega arith) (omega arith) (omega arith)

    pub no_flags : end - at < 6 → Whole (breach 0)
    unfolding segmentation_descriptor
    no_flags h = pass (omega arith) (yes_last not_cancelled (short (omega arith)))

    -- past the flags
    module _ (six : 6 ≤ end - at) (byte : get_or s (at + 5) 0 < 256) where
      pub components_off : ComponentsRun s at end (breach 0) → Whole (breach 0)
      unfolding segmentation_descriptor
      components_off parts =
          pass (omega arith)
          (yes_last not_cancelled
          (delivered (omega arith) (at_place (next_byte at) (called (parts _ (program_flag s at byte)) refl))))

      -- past the components, at n
      module _ (n : ℕ) (parts : ComponentsRun s at end (ends (8 * n))) where
        pub no_duration : {o : Outcome} → get_or s (at + 5) 0 / 64 % 2 ≡ 0 → ((e : Env) → Runs segmentation_end e (bit s) (8 * end) (8 * n) o)
            → Whole o
        unfolding segmentation_descriptor
        no_duration e rest =
            pass (omega arith)
            (yes_last not_cancelled
            (delivered (omega arith)
            (at_place (next_byte at)
            (called (parts _ (program_flag s at byte))
            (no (duration_flag s at 0 e) (finished refl) (called_last (rest _)).runs).runs))))

        pub duration_cut : (get_or s (at + 5) 0 / 64 % 2 ≡ 0 → ⊥) → end - n < 5 → Whole (breach 0)
        unfolding segmentation_descriptor
        duration_cut h l =
            pass (omega arith)
            (yes_last not_cancelled
            (delivered (omega arith)
            (at_place (next_byte at)
            (called (parts _ (program_flag s at byte))
            (yes (duration_flag s at 1 (omega arith)) (short (omega (arith, within s at end n six parts))) refl).runs))))

        pub with_duration : {o : Outcome} → (get_or s (at + 5) 0 / 64 % 2 ≡ 0 → ⊥) → 5 ≤ end - n
            → ((e : Env) → Runs segmentation_end e (bit s) (8 * end) (8 * (n + 5)) o)
            → Whole o
        unfolding segmentation_descriptor
        with_duration h l rest =
            let further : 8 * n + 40 ≡ 8 * (n + 5) = omega arith in
            pass (omega arith)
            (yes_last not_cancelled
            (delivered (omega arith)
            (at_place (next_byte at)
            (called (parts _ (program_flag s at byte))
            (yes (duration_flag s at 1 (omega arith)) (pass (omega arith) (finished refl))
            (at_place further (called_last (rest _))).runs).runs))))
