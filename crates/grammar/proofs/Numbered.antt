-- What breaks Table 5 from splice_command_type on has a number, 8, 9 or 10: the command is under 8, the loop under 9 with its
-- descriptors under 10, and stuffing of whole bytes breaks nothing.
-- Assumes nothing.
use mathlib.Core.Path.{◌≡◌, refl, sym, ap, ◌∙◌, subst}
use mathlib.Core.List.{[], ◌∷◌}
use mathlib.Core.Logic.{◌⊎◌, ⊎_elim}
use Prim.Native.Nat.{ℕ, zero, suc, ◌+◌, ◌-◌, ◌/◌, ◌%◌, ◌≤◌}
use native.Mathlib.Omega.{arith}
use Rattle.grammar.specs.Syntax.{Prog, done, stop, fields, branch, call, repeat, frame, fill, under, field}
use Rattle.grammar.specs.Meaning.{Env, bind, Reading, broken, reached, read, Outcome, breach, ends, end_of, run}
use Rattle.grammar.specs.Tables.{bytes, splice_time, break_duration, avail_numbers, avails, schedule_times, schedule_event, splice_schedule, insert_component, insert_times, splice_insert, private_command, command, sized_command, avail_descriptor, dtmf_descriptor, delivery, segmentation_components, segmentation_end, segmentation_descriptor, time_descriptor, audio_descriptor, known_descriptor, splice_descriptor, descriptor_loop, payload}
use Rattle.grammar.proofs.Run.{pass, ruled, filled_last, swept_bytes}
use Rattle.grammar.proofs.Frames.{fields_end, frame_end}
use Rattle.grammar.proofs.Octets.{command_octets}
use Rattle.grammar.proofs.Plain.{giving, breach_bare, breach_one}

-- a breach has one of the rows' numbers
abbrev pub Numbered : Outcome → Type 0
Numbered (breach n) = (8 ≤ n) × (n ≤ 10)
Numbered (ends k) = Unit {0}

-- the command gives no number, the loop only 10
command_bare : (env : Env) (f : ℕ → ℕ) (end k n : ℕ) → run sized_command env f end k ≡ breach n → n ≡ 0
unfolding giving splice_time break_duration avail_numbers avails schedule_times schedule_event splice_schedule insert_component insert_times splice_insert private_command command sized_command
command_bare = breach_bare sized_command refl

loop_breach : (env : Env) (f : ℕ → ℕ) (end k n : ℕ) → run descriptor_loop env f end k ≡ breach n → (n ≡ 0) ⊎ (n ≡ 10)
unfolding giving avail_descriptor dtmf_descriptor delivery segmentation_components segmentation_end segmentation_descriptor time_descriptor audio_descriptor known_descriptor splice_descriptor descriptor_loop
loop_breach = breach_one 10 descriptor_loop refl

-- the loop ends whole bytes after its length, within the section
loop_end : (env : Env) (f : ℕ → ℕ) (end k j : ℕ) → k % 8 ≡ 0 → run descriptor_loop env f end k ≡ ends j → (j % 8 ≡ 0) × (j ≤ end)
unfolding descriptor_loop
loop_end env f end k j m e =
    let is = frame_end _ _ _ f end (k + 16) j (fields_end _ _ env f end k j e) in
    (omega (arith, is.0), is.1)

-- what stands behind the first thing of a table
abbrev after_first : Prog → Prog
after_first done = done
after_first stop = done
after_first (fields rows p) = p
after_first (branch test a b p) = p
after_first (call a p) = p
after_first (repeat n a p) = p
after_first (frame n a p) = p
after_first (fill a p) = p
after_first (under n a p) = p

-- the rest of Table 5, from the command and from the loop on
abbrev commanded : Prog
commanded = after_first payload

abbrev looped : Prog
looped = after_first commanded

module _ (f : ℕ → ℕ) (end : ℕ) (whole : end % 8 ≡ 0) where
  -- bytes that are whole fill the part
  whole_bytes : (env : Env) (k : ℕ) → k % 8 ≡ 0 → k ≤ end → run (bytes "alignment_stuffing") env f end k ≡ ends end
  whole_bytes env k m h = (filled_last (swept_bytes "alignment_stuffing" env f end ((end - k) / 8) k (omega arith))).runs

  from_loop : (env : Env) (k : ℕ) → k % 8 ≡ 0 → Numbered (run looped env f end k)
  unfolding payload
  from_loop env k m = go (run descriptor_loop env f end k) refl
    where
      go : (o : Outcome) → run descriptor_loop env f end k ≡ o → Numbered (run looped env f end k)
      go (breach zero) e = subst Numbered (sym (ruled {p = bytes "alignment_stuffing"} (record { runs = e }) refl).runs) (omega arith, omega arith)
      go (breach (suc n)) e =
          let ten : suc n ≡ 10 = ⊎_elim (λ q. absurd (omega arith)) (λ q. q) (loop_breach env f end k (suc n) e) in
          subst Numbered (sym (ruled {p = bytes "alignment_stuffing"} (record { runs = e }) refl).runs) (omega arith, omega arith)
      go (ends j) e =
          let is = loop_end env f end k j m e in
          subst Numbered (sym (ruled (record { runs = e }) (whole_bytes env j is.0 is.1)).runs) tt

  from_command : (env : Env) (k : ℕ) → k % 8 ≡ 0 → Numbered (run commanded env f end k)
  unfolding run end_of payload
  from_command env k m = go (read sized_command env f end k) refl
    where
      go : (r : Reading) → read sized_command env f end k ≡ r → Numbered (run commanded env f end k)
      go (broken n) e =
          let bare = command_bare env f end k n (ap end_of e) in
          subst Numbered (sym (ruled {p = looped} (record { runs = ap end_of e ∙ ap breach bare }) refl).runs) (omega arith, omega arith)
      go (reached j t) e =
          subst Numbered (sym (ruled {p = looped} (record { runs = ap end_of e }) refl).runs)
          (from_loop env j (command_octets env f end k j t m e))

  -- from a whole byte on, with splice_command_type there
  pub payload_numbered : (env : Env) (k : ℕ) → k % 8 ≡ 0 → k + 8 ≤ end → Numbered (run payload env f end k)
  unfolding payload
  payload_numbered env k m h =
      subst Numbered (sym (pass h (record { runs = refl })).runs)
      (from_command (bind (field 8 "splice_command_type" ∷ []) f k env) (k + 8) (omega arith))
