-- Demand 3 at sections that are computed: a time signal with one segmentation descriptor; the same cue with other reserved bits, with
-- stuffing, and with unknown descriptors put in, changed and taken out; every other reserved row, set and clear; and sections that differ
-- from the cue in a named field.
-- Assumes nothing.
use mathlib.Core.Path.{◌≡◌, refl, sym, ap, ◌∙◌}
use mathlib.Core.Bool.{Bool, true, false, ◌&&◌}
use mathlib.Core.List.{List, [], ◌∷◌}
use Prim.Native.Nat.{ℕ, zero, suc}
use native.Mathlib.Omega.{arith}
use lib.ListN.{get_or}
use lib.Dec.{ltb, eqb}
use borrow.Author.Tests.{ltb-true}
use Rattle.bits.specs.Bits.{bit, num}
use Rattle.bits.proofs.Bytes.{AreBytes}
use Rattle.bits.proofs.Cases.{and_left, and_right}
use Rattle.crc.specs.Crc.{step, register, crc32}
use Rattle.grammar.specs.Meaning.{values, after, then, again, sweep, exactly, numbered, read, end_of, run}
use Rattle.grammar.specs.Tables.{splice_time, break_duration, avail_numbers, avails, schedule_times, schedule_event, splice_schedule, insert_component, insert_times, splice_insert, command, sized_command, dtmf_descriptor, delivery, segmentation_components, segmentation_end, segmentation_descriptor, audio_descriptor, known_descriptor, splice_descriptor, descriptor_loop, payload, splice_info_section}
use Rattle.grammar.specs.Left.{left}
use Rattle.grammar.proofs.Cues.{LeftOf, signal_numbers, cue_numbers, cue, cleared, stuffed, foreign, reserved_tag, trailed, cue_left, insert_set, insert_clear, insert_left, schedule_set, schedule_clear, schedule_left, dtmf_set, dtmf_clear, dtmf_left, audio_set, audio_clear, audio_left, component_set, component_clear, component_left, algorithm_2, cw_5, tier_4094, later, ended, bare, bare_numbers, others_left}
use Rattle.std.specs.Prelude.{Ok}
use Rattle.section.specs.Accept.{the, grammar_of, breaks, complete, accept_row, verdict, accept_of}
use Rattle.sheet.specs.Sheet.{section_trace, sheet_of}
use Rattle.demands.specs.Same.{Same}
use Rattle.demands.specs.OneCue.{OneCue}
use Rattle.demands.proofs.Demand3.{sheet_left, demand_3}

-- ---- a section that is computed

abbrev all_bytes : List ℕ → Bool
all_bytes [] = true
all_bytes (x ∷ s) = ltb x 256 && all_bytes s

are_bytes : (s : List ℕ) → all_bytes s ≡ true → AreBytes s
are_bytes [] e i = omega arith
are_bytes (x ∷ s) e zero = ltb-true x 256 (and_left (ltb x 256) (all_bytes s) e)
are_bytes (x ∷ s) e (suc i) = are_bytes s (and_right (ltb x 256) (all_bytes s) e) i

-- the bytes s are an accepted section in the clear, and the numbers xs are left of its sheet
pub record Leaves (s xs : List ℕ) : Type 0 where
  pub bytes : AreBytes s
  pub accepted : accept_of s ≡ Ok tt
  pub clear : eqb (the s "encrypted_packet") 1 ≡ false
  pub numbered : left (section_trace s) ≡ xs

leaves : {s xs : List ℕ} → LeftOf s xs → all_bytes s ≡ true → accept_of s ≡ Ok tt → eqb (the s "encrypted_packet") 1 ≡ false → Leaves s xs
unfolding section_trace
leaves {s} q b e h = record { bytes = are_bytes s b; accepted = e; clear = h; numbered = q }

module _ {s s' xs ys : List ℕ} (a : Leaves s xs) (b : Leaves s' ys) where
  pub same_sheets : xs ≡ ys → Same (sheet_of s) (sheet_of s')
  same_sheets e =
      sheet_left s a.bytes a.accepted ∙ a.numbered ∙ e ∙ sym b.numbered ∙ sym (sheet_left s' b.bytes b.accepted)

  pub same_numbers : Same (sheet_of s) (sheet_of s') → xs ≡ ys
  same_numbers e =
      sym a.numbered ∙ sym (sheet_left s a.bytes a.accepted) ∙ e ∙ sheet_left s' b.bytes b.accepted ∙ b.numbered

-- two sections of whose sheets the same is left answer alike
pub alike : {s s' xs : List ℕ} → Leaves s xs → Leaves s' xs → OneCue s s'
alike {s} {s'} a b = demand_3 s s' a.bytes b.bytes a.accepted b.accepted a.clear b.clear (same_sheets a b refl)

-- ---- one cue

one_cue : Leaves cue cue_numbers × Leaves cleared cue_numbers × Leaves stuffed cue_numbers × Leaves foreign cue_numbers × Leaves reserved_tag cue_numbers × Leaves trailed cue_numbers
unfolding accept_of verdict accept_row the grammar_of breaks complete crc32 register step run end_of read after then again sweep exactly numbered values bit num splice_info_section payload sized_command command splice_time descriptor_loop splice_descriptor known_descriptor segmentation_descriptor delivery segmentation_components segmentation_end
one_cue = (
  leaves cue_left.0 refl refl refl,
  leaves cue_left.1 refl refl refl,
  leaves cue_left.2 refl refl refl,
  leaves cue_left.3 refl refl refl,
  leaves cue_left.4 refl refl refl,
  leaves cue_left.5 refl refl refl,
)

pub reserved_bits : OneCue cue cleared
reserved_bits = alike one_cue.0 one_cue.1

pub stuffing : OneCue cue stuffed
stuffing = alike one_cue.0 one_cue.2

pub put_in : OneCue cue foreign
put_in = alike one_cue.0 one_cue.3

pub changed : OneCue foreign reserved_tag
changed = alike one_cue.3 one_cue.4

pub taken_out : OneCue trailed cue
taken_out = alike one_cue.5 one_cue.0

-- ---- every other reserved row, set and clear

pub insert_reserved : OneCue insert_set insert_clear
unfolding accept_of verdict accept_row the grammar_of breaks complete crc32 register step run end_of read after then again sweep exactly numbered values bit num splice_info_section payload sized_command command splice_insert insert_times insert_component splice_time avails break_duration avail_numbers descriptor_loop
insert_reserved = alike (leaves insert_left.0 refl refl refl) (leaves insert_left.1 refl refl refl)

pub schedule_reserved : OneCue schedule_set schedule_clear
unfolding accept_of verdict accept_row the grammar_of breaks complete crc32 register step run end_of read after then again sweep exactly numbered values bit num splice_info_section payload sized_command command splice_schedule schedule_event schedule_times avails avail_numbers descriptor_loop
schedule_reserved = alike (leaves schedule_left.0 refl refl refl) (leaves schedule_left.1 refl refl refl)

pub dtmf_reserved : OneCue dtmf_set dtmf_clear
unfolding accept_of verdict accept_row the grammar_of breaks complete crc32 register step run end_of read after then again sweep exactly numbered values bit num splice_info_section payload sized_command command descriptor_loop splice_descriptor known_descriptor dtmf_descriptor
dtmf_reserved = alike (leaves dtmf_left.0 refl refl refl) (leaves dtmf_left.1 refl refl refl)

pub audio_reserved : OneCue audio_set audio_clear
unfolding accept_of verdict accept_row the grammar_of breaks complete crc32 register step run end_of read after then again sweep exactly numbered values bit num splice_info_section payload sized_command command descriptor_loop splice_descriptor known_descriptor audio_descriptor
audio_reserved = alike (leaves audio_left.0 refl refl refl) (leaves audio_left.1 refl refl refl)

pub component_reserved : OneCue component_set component_clear
unfolding accept_of verdict accept_row the grammar_of breaks complete crc32 register step run end_of read after then again sweep exactly numbered values bit num splice_info_section payload sized_command command descriptor_loop splice_descriptor known_descriptor segmentation_descriptor delivery segmentation_components segmentation_end
component_reserved = alike (leaves component_left.0 refl refl refl) (leaves component_left.1 refl refl refl)

-- ---- other cues

other_cues : Leaves algorithm_2 (signal_numbers 2 0 4095 1000 0x22) × Leaves cw_5 (signal_numbers 0 5 4095 1000 0x22) × Leaves tier_4094 (signal_numbers 0 0 4094 1000 0x22) × Leaves later (signal_numbers 0 0 4095 1001 0x22) × Leaves ended (signal_numbers 0 0 4095 1000 0x23) × Leaves bare bare_numbers
unfolding accept_of verdict accept_row the grammar_of breaks complete crc32 register step run end_of read after then again sweep exactly numbered values bit num splice_info_section payload sized_command command splice_time descriptor_loop splice_descriptor known_descriptor segmentation_descriptor delivery segmentation_components segmentation_end
other_cues = (
  leaves others_left.0 refl refl refl,
  leaves others_left.1 refl refl refl,
  leaves others_left.2 refl refl refl,
  leaves others_left.3 refl refl refl,
  leaves others_left.4 refl refl refl,
  leaves others_left.5 refl refl refl,
)

-- sheets whose numbers differ at one place are two cues'
two_cues : {s s' xs ys : List ℕ} (i : ℕ) → (get_or xs i 0 ≡ get_or ys i 0 → ⊥) → Leaves s xs → Leaves s' ys → Same (sheet_of s) (sheet_of s') → ⊥
two_cues i h a b e = h (ap (λ (l : List ℕ). get_or l i 0) (same_numbers a b e))

pub another_algorithm : Same (sheet_of cue) (sheet_of algorithm_2) → ⊥
another_algorithm = two_cues 6 (λ e. omega arith) one_cue.0 other_cues.0

pub another_cw : Same (sheet_of cue) (sheet_of cw_5) → ⊥
another_cw = two_cues 8 (λ e. omega arith) one_cue.0 other_cues.1

pub another_tier : Same (sheet_of cue) (sheet_of tier_4094) → ⊥
another_tier = two_cues 9 (λ e. omega arith) one_cue.0 other_cues.2

pub another_time : Same (sheet_of cue) (sheet_of later) → ⊥
another_time = two_cues 14 (λ e. omega arith) one_cue.0 other_cues.3

pub another_type : Same (sheet_of cue) (sheet_of ended) → ⊥
another_type = two_cues 30 (λ e. omega arith) one_cue.0 other_cues.4

pub fewer_known : Same (sheet_of cue) (sheet_of bare) → ⊥
fewer_known = two_cues 17 (λ e. omega arith) one_cue.0 other_cues.5
