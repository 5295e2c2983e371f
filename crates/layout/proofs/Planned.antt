-- The fields of a section that the grammar reads: laid out from its bits, or from the numbers of its sheet, they are those of its trace.
-- Assumes nothing.
use mathlib.Core.Path.{◌≡◌, refl, sym, ap, ap₂, ◌∙◌, subst}
use mathlib.Core.Bool.{Bool, true, false, cond, ◌||◌, false≢true}
use mathlib.Core.List.{List, [], ◌∷◌, ◌++◌, append-nil}
use Prim.Native.Nat.{ℕ, zero, suc, ◌+◌, ◌-◌, ◌*◌, ◌≤◌}
use Prim.Native.String.{String}
use native.Mathlib.Omega.{arith}
use lib.ListN as ListN
use lib.ListN.{length, drop, length-append}
use lib.Seq.{sets, length-sets}
use lib.Dec.{leb, ltb, eqb}
use lib.Text.{eqt}
use borrow.Author.Tests.{leb-true, le-leb}
use Rattle.bits.specs.Bits.{bit, num}
use Rattle.grammar.specs.Syntax.{Prog, field, is, done, fields, branch}
use Rattle.grammar.specs.Meaning.{Env, value_of, values, bind, Reading, broken, reached, then, sweep, read}
use Rattle.grammar.specs.Tables.{header, bytes, payload, splice_info_section, sized_command, command, splice_schedule, schedule_event, schedule_times, avails, break_duration, avail_numbers, splice_insert, insert_times, insert_component, splice_time, private_command, descriptor_loop, splice_descriptor, known_descriptor, avail_descriptor, dtmf_descriptor, segmentation_descriptor, delivery, segmentation_components, segmentation_end, time_descriptor, audio_descriptor}
use Rattle.grammar.specs.Traces.{Trace, rows_of, size}
use Rattle.grammar.proofs.Endless.{endless}
use Rattle.grammar.proofs.Ends.{Gives, gives, given, when_gives, then_gives, after_gives, covers, ends_within}
use Rattle.grammar.proofs.Readings.{Reads, rows_parts, arm_parts, under_parts}
use Rattle.grammar.proofs.Scope.{Agree, scoped, same_read}
use Rattle.fields.specs.Fields.{Source, source, Plan, total, advance, laid, times_on, walk}
use Rattle.layout.specs.Layout.{header_widths, begun, opening, left, rest, plan_of}
use Rattle.layout.proofs.Follows.{trace_widths, widths_append, length_widths, total_size, advance_append, advance_none, laid_all, Tells, tells_parts, lays_trace}
use Rattle.layout.proofs.Shape.{any_end}

-- ---- bytes to the end

abbrev eights : ℕ → List ℕ
eights zero = []
eights (suc n) = 8 ∷ eights n

-- so many bytes, where there is room
times_eights : (n : ℕ) (π : Plan) → π.number + n ≤ length π.widths → times_on n (laid (8 ∷ [])) π ≡ advance (eights n) π
unfolding times_on advance
times_eights zero π h = sym (advance_none π)
times_eights (suc n) π h =
    let σ : Plan = advance (8 ∷ []) π in
    let room : σ.number + n ≤ length σ.widths = omega (arith, length-sets π.widths π.number (8 ∷ [])) in
    ap (times_on n (laid (8 ∷ []))) (laid_all (8 ∷ []) π (omega arith)) ∙ times_eights n σ room ∙ sym (advance_append (8 ∷ []) (eights n) π)

-- what is read up to the end is bytes, and all of them
record Octets (end : ℕ) (j : ℕ) (t : Trace) : Type 0 where
  all : end ≤ j
  eight : trace_widths t ≡ eights (length t)

module _ (name : String) (env : Env) (f : ℕ → ℕ) (end : ℕ) where
  abbrev byte : ℕ → Reading
  byte k = read (fields (field 8 name ∷ []) done) env f end k

  -- one byte
  one_octet : (k : ℕ) → Gives (λ i t. t ≡ (field 8 name, num f k 8) ∷ []) (byte k)
  unfolding read values
  one_octet k = when_gives (leb (k + 8) end) (λ q. after_gives {P = λ i t. t ≡ []} _ (gives refl) (λ j t e. ap (λ (u : Trace). (field 8 name, num f k 8) ∷ u) e))

  step : (n k : ℕ) (b : Bool) → leb end k ≡ b → ((i : ℕ) → Gives (Octets end) (sweep n byte end i))
      → Gives (Octets end) (cond b (reached k []) (then (byte k) (λ j. cond (ltb k j) (sweep n byte end j) (broken 0))))
  step n k true q rest = gives (record { all = leb-true end k q; eight = refl })
  step n k false q rest =
      then_gives {Q = λ i. Octets end} (one_octet k) (λ i. when_gives (ltb k i) (λ c. rest i))
      (λ i j t u e h. subst (λ (w : Trace). Octets end j (w ++ u)) (sym e) (record { all = h.all; eight = ap (λ (l : List ℕ). 8 ∷ l) h.eight }))

  sweep_octets : (n k : ℕ) → Gives (Octets end) (sweep n byte end k)
  unfolding sweep
  sweep_octets zero k = when_gives (leb end k) (λ q. gives (record { all = leb-true end k q; eight = refl }))
  sweep_octets (suc n) k = step n k (leb end k) refl (sweep_octets n)

  read_octets : (k j : ℕ) (t : Trace) → read (bytes name) env f end k ≡ reached j t → Octets end j t
  unfolding read
  read_octets k j t e = given (then_gives {R = Octets end} {Q = λ i j u. (i ≡ j) × (u ≡ [])} (sweep_octets (end - k) k) (λ i. gives (refl, refl)) joined) e
    where
      joined : (i j : ℕ) (u w : Trace) → Octets end i u → (i ≡ j) × (w ≡ []) → Octets end j (u ++ w)
      joined i j u w h e = subst (λ (y : Trace). Octets end j (u ++ y)) (sym e.1) (subst (λ (n : ℕ). Octets end n (u ++ [])) e.0 (subst (Octets end i) (sym (append-nil u)) h))

-- they are laid out as so many bytes
eights_total : (n : ℕ) → total (eights n) ≡ 8 * n
eights_total zero = refl
eights_total (suc n) = omega (arith, eights_total n)

-- ---- the names that the command's table looks at

two_names : (a b : String) (x y : ℕ) (env env' : Env) → Agree (a ∷ b ∷ []) ((a, x) ∷ (b, y) ∷ env) ((a, x) ∷ (b, y) ∷ env')
two_names a b x y env env' n h = go (eqt a n) (eqt b n) h
  where
    go : (p q : Bool) → (p || (q || false)) ≡ true → cond p x (cond q y (value_of env n)) ≡ cond p x (cond q y (value_of env' n))
    go true q h = refl
    go false true h = refl
    go false false h = absurd (false≢true h)

-- ---- what the tables keep to

-- the command's table and the loop's look at no other name from outside, and nothing in them goes by where they end
sized_seen : scoped sized_command ("splice_command_type" ∷ "splice_command_length" ∷ []) ≡ true
unfolding scoped sized_command command splice_schedule schedule_event schedule_times avails break_duration avail_numbers splice_insert insert_times insert_component splice_time private_command
sized_seen = refl

sized_endless : endless sized_command ≡ true
unfolding endless sized_command command splice_schedule schedule_event schedule_times avails break_duration avail_numbers splice_insert insert_times insert_component splice_time private_command
sized_endless = refl

loop_seen : scoped descriptor_loop ("splice_command_type" ∷ "splice_command_length" ∷ []) ≡ true
unfolding scoped descriptor_loop splice_descriptor known_descriptor avail_descriptor dtmf_descriptor segmentation_descriptor delivery segmentation_components segmentation_end time_descriptor audio_descriptor
loop_seen = refl

loop_endless : endless descriptor_loop ≡ true
unfolding endless descriptor_loop
loop_endless = refl

-- ---- the section

-- what is asked of the numbers that stand there, for a section whose fields after the header are u
pub record Told (s s' x : List ℕ) (u : Trace) : Type 0 where
  pub sealed : source s' x 32 5 1 ≡ num (bit s) 32 1
  pub length : source s' x 92 10 12 ≡ num (bit s) 92 12
  pub told : Tells (source s' x) 104 11 u
  pub over : (n : ℕ) (π : Plan) → π.at + 8 * n ≡ 8 * (ListN.length s - 4) → π.number + n ≡ 11 + ListN.length u → left s' x π ≡ n

-- after the header's fields, where there is room for them
abbrev pub start : List ℕ → Plan
start m = record { at = 104; number = 11; widths = sets m 0 header_widths }

begun_start : (m : List ℕ) → 11 ≤ length m → begun m ≡ start m
unfolding begun advance
begun_start m h = laid_all header_widths (record { at = 12; number = 0; widths = m }) (omega arith)

module _ (s s' x m : List ℕ) where
  abbrev end : ℕ
  end = 8 * (length s - 4)

  abbrev v : Source
  v = source s' x

  abbrev known : Env
  known = bind header (bit s) 0 []

  -- a table from place k, laid out after π
  after-π : (p : Prog) (env : Env) (k j : ℕ) (t : Trace) (π : Plan) → Reads p env (bit s) end k j t → endless p ≡ true
      → π.at ≡ k → Tells v k π.number t → π.number + length t ≤ length π.widths → walk p env v 0 π ≡ advance (trace_widths t) π
  after-π p env k j t π q h e told room = any_end p h env v 0 end π ∙ lays_trace v p env (bit s) end k j t q.reads π e told room

  module _ (u : Trace) (told : Told s s' x u) where
    -- bytes up to CRC_32, the last fields of all
    last_bytes : (name : String) (env : Env) (k j : ℕ) (w : Trace) (π : Plan) → Reads (bytes name) env (bit s) end k j w → k ≤ end → π.at ≡ k
        → π.number + length w ≡ 11 + length u → π.number + length w ≤ length π.widths → rest s' x π ≡ advance (trace_widths w) π
    unfolding rest
    last_bytes name env k j w π q inside e count room =
        let octets = read_octets name env (bit s) end k j w q.reads in
        let within = ends_within (bytes name) env (bit s) end k j w q.reads inside in
        let far : j ≡ k + size w = covers (bytes name) env (bit s) end k j w q.reads in
        let bits : size w ≡ 8 * length w = sym (total_size w) ∙ ap total octets.eight ∙ eights_total (length w) in
        let all : π.at + 8 * length w ≡ end = omega (arith, octets.all, within.1, far, bits, e) in
        ap (λ (n : ℕ). times_on n (laid (8 ∷ [])) π) (told.over (length w) π all count)
        ∙ times_eights (length w) π room
        ∙ ap (λ (ws : List ℕ). advance ws π) (sym octets.eight)

    module _ (room : 11 + length u ≤ length m) (short : length m ≤ 32768) where
      -- all of it, by whether it is sealed
      abbrev whole : Bool → Plan
      whole b = rest s' x (cond b (start m) (walk opening (("splice_command_length", v 92 10 12) ∷ []) v 0 (start m)))

      opens : (b : Bool) → eqb (num (bit s) 32 1) 1 ≡ b → plan_of s' x m ≡ whole b
      unfolding plan_of
      opens b e =
          ap (λ (t : Bool). cond t (rest s' x (cond (eqb (v 32 5 1) 1) (begun m) (walk opening (("splice_command_length", v 92 10 12) ∷ []) v 0 (begun m)))) (record { at = 0; number = 0; widths = m })) (le-leb (length m) 32768 short)
          ∙ ap (λ (π : Plan). rest s' x (cond (eqb (v 32 5 1) 1) π (walk opening (("splice_command_length", v 92 10 12) ∷ []) v 0 π))) (begun_start m (omega arith))
          ∙ ap whole (ap (λ (n : ℕ). eqb n 1) told.sealed ∙ e)

      sealed_plan : (j : ℕ) → Reads (bytes "sealed_byte") known (bit s) end 104 j u → 104 ≤ end → eqb (num (bit s) 32 1) 1 ≡ true
          → plan_of s' x m ≡ advance (trace_widths u) (start m)
      sealed_plan j q inside e =
          opens true e
          ∙ last_bytes "sealed_byte" known 104 j u (start m) q inside refl refl (omega (arith, length-sets m 0 header_widths))

      -- the parts of an unsealed section after its header: type, command, loop, stuffing
      abbrev typed : Env
      typed = bind (field 8 "splice_command_type" ∷ []) (bit s) 104 known

      abbrev type : Trace
      type = values (field 8 "splice_command_type" ∷ []) (bit s) 104

      -- the two names that the tables up to the loop look at
      abbrev two : Env
      two = ("splice_command_type", num (bit s) 104 8) ∷ ("splice_command_length", num (bit s) 92 12) ∷ []

      seen : (p : Prog) (k j : ℕ) (t : Trace) → scoped p ("splice_command_type" ∷ "splice_command_length" ∷ []) ≡ true
          → Reads p typed (bit s) end k j t → Reads p two (bit s) end k j t
      seen p k j t h q =
          record {
            reads =
                sym (same_read p ("splice_command_type" ∷ "splice_command_length" ∷ []) typed two h
                (two_names "splice_command_type" "splice_command_length" (num (bit s) 104 8) (num (bit s) 92 12) (drop 1 known) []) (bit s) end k)
                ∙ q.reads;
          }

      -- the type, and then the command's table and the loop's
      opened : (m : List ℕ) → v 104 11 8 ≡ num (bit s) 104 8 → v 92 10 12 ≡ num (bit s) 92 12
          → walk opening (("splice_command_length", v 92 10 12) ∷ []) v 0 (start m)
          ≡ walk descriptor_loop two v 0 (walk sized_command two v 0 (laid (8 ∷ []) (start m)))
      unfolding opening walk
      opened m e h =
          ap₂ (λ (a b : ℕ).
          let env : Env = ("splice_command_type", a) ∷ ("splice_command_length", b) ∷ [] in
          walk descriptor_loop env v 0 (walk sized_command env v 0 (laid (8 ∷ []) (start m)))) e h

      module _ (j k i : ℕ) (command loop stuffing : Trace) (parts : u ≡ type ++ (command ++ (loop ++ stuffing)))
          (q : Reads sized_command typed (bit s) end 112 k command) (r : Reads descriptor_loop typed (bit s) end k i loop)
          (l : Reads (bytes "alignment_stuffing") typed (bit s) end i j stuffing) (inside : 112 ≤ end) where
        payload_plan : eqb (num (bit s) 32 1) 1 ≡ false → plan_of s' x m ≡ advance (trace_widths u) (start m)
        unfolding values advance rows_of
        payload_plan e =
            let whole : Tells v 104 11 (type ++ (command ++ (loop ++ stuffing))) = subst (Tells v 104 11) parts told.told in
            let t1 = tells_parts v 104 11 type (command ++ (loop ++ stuffing)) whole in
            let t2 = tells_parts v 112 12 command (loop ++ stuffing) t1.1 in
            let t3 = tells_parts v (112 + size command) (12 + length command) loop stuffing t2.1 in
            let count : length u ≡ 1 + (length command + (length loop + length stuffing)) =
            ap length parts ∙ omega (arith, length-append command (loop ++ stuffing), length-append loop stuffing) in
            let σ1 : Plan = advance (8 ∷ []) (start m) in
            let σ2 : Plan = advance (trace_widths command) σ1 in
            let σ3 : Plan = advance (trace_widths loop) σ2 in
            let m1 : length σ1.widths ≡ length m = length-sets (start m).widths 11 (8 ∷ []) ∙ length-sets m 0 header_widths in
            let m2 : length σ2.widths ≡ length m = length-sets σ1.widths 12 (trace_widths command) ∙ m1 in
            let m3 : length σ3.widths ≡ length m = length-sets σ2.widths σ2.number (trace_widths loop) ∙ m2 in
            let k-far : k ≡ 112 + size command = covers sized_command typed (bit s) end 112 k command q.reads in
            let i-far : i ≡ k + size loop = covers descriptor_loop typed (bit s) end k i loop r.reads in
            let k-in = ends_within sized_command typed (bit s) end 112 k command q.reads inside in
            let i-in = ends_within descriptor_loop typed (bit s) end k i loop r.reads k-in.1 in
            let at2 : σ2.at ≡ k = omega (arith, total_size command, k-far) in
            let at3 : σ3.at ≡ i = omega (arith, total_size loop, i-far, at2) in
            let n2 : σ2.number ≡ 12 + length command = omega (arith, length_widths command) in
            let n3 : σ3.number ≡ 12 + length command + length loop = omega (arith, length_widths loop, n2) in
            let told2 : Tells v k σ2.number loop =
            subst (λ (n : ℕ). Tells v k n loop) (sym n2) (subst (λ (p : ℕ). Tells v p (12 + length command) loop) (sym k-far) t3.0) in
            let first : laid (8 ∷ []) (start m) ≡ σ1 = laid_all (8 ∷ []) (start m) (omega (arith, length-sets m 0 header_widths, count)) in
            let second : walk sized_command two v 0 σ1 ≡ σ2 =
            after-π sized_command two 112 k command σ1 (seen sized_command 112 k command sized_seen q) sized_endless refl t2.0 (omega (arith, m1, count)) in
            let third : walk descriptor_loop two v 0 σ2 ≡ σ3 =
            after-π descriptor_loop two k i loop σ2 (seen descriptor_loop k i loop loop_seen r) loop_endless at2 told2 (omega (arith, m2, n2, count)) in
            let fourth : rest s' x σ3 ≡ advance (trace_widths stuffing) σ3 =
            last_bytes "alignment_stuffing" typed i j stuffing σ3 l i-in.1 at3 (omega (arith, n3, count)) (omega (arith, n3, m3, count)) in
            opens false e
            ∙ ap (rest s' x) (opened m t1.0.0 told.length ∙ ap (λ (π : Plan). walk descriptor_loop two v 0 (walk sized_command two v 0 π)) first
            ∙ ap (walk descriptor_loop two v 0) second ∙ third)
            ∙ fourth
            ∙ sym (advance_append (trace_widths loop) (trace_widths stuffing) σ2)
            ∙ sym (advance_append (trace_widths command) (trace_widths loop ++ trace_widths stuffing) σ1)
            ∙ sym (advance_append (8 ∷ []) (trace_widths command ++ (trace_widths loop ++ trace_widths stuffing)) (start m))
            ∙ ap (λ (ws : List ℕ). advance ws (start m))
            (ap (λ (l : List ℕ). 8 ∷ l) (ap (λ (l : List ℕ). trace_widths command ++ l) (sym (widths_append loop stuffing)) ∙ sym (widths_append command (loop ++ stuffing)))
            ∙ ap trace_widths (sym parts))

-- ---- every section that the grammar reads

-- what is read of the section s after its header
pub record Body (s : List ℕ) (j : ℕ) (t : Trace) : Type 0 where
  pub body : Trace
  pub whole : t ≡ values header (bit s) 0 ++ body
  -- nothing is left before CRC_32
  pub all : 8 * (length s - 4) ≤ j
  -- laid out by numbers that tell it, from its bits or from a sheet, it gives the same fields
  pub planned : (s' x m : List ℕ) → Told s s' x body → 11 + length body ≤ length m → length m ≤ 32768 → plan_of s' x m ≡ advance (trace_widths body) (start m)

module _ (s : List ℕ) (long : 20 ≤ length s) (j : ℕ) where
  abbrev stop : ℕ
  stop = 8 * (length s - 4)

  -- sealed, or not
  by_seal : (u : Trace) (b : Bool) → eqb (num (bit s) 32 1) 1 ≡ b
      → Reads (cond b (bytes "sealed_byte") payload) (bind header (bit s) 0 []) (bit s) stop 104 j u
      → (s' x m : List ℕ) → Told s s' x u → 11 + length u ≤ length m → length m ≤ 32768 → plan_of s' x m ≡ advance (trace_widths u) (start m)
  unfolding payload
  by_seal u true e q s' x m told room short = sealed_plan s s' x m u told room short j q (omega arith) e
  by_seal u false e q s' x m told room short =
      let rows = rows_parts q in
      let first = under_parts rows.1 in
      let second = under_parts first.went in
      let parts : u ≡ values (field 8 "splice_command_type" ∷ []) (bit s) 104 ++ (first.left ++ (second.left ++ second.right)) =
      rows.2 ∙ ap (λ (w : Trace). values (field 8 "splice_command_type" ∷ []) (bit s) 104 ++ w) (first.joined ∙ ap (λ (w : Trace). first.left ++ w) second.joined) in
      payload_plan s s' x m u told room short j first.mid second.mid first.left second.left second.right parts
      first.came second.came second.went (omega arith) e

  -- the last bytes go up to CRC_32
  by_end : (u : Trace) (b : Bool) → Reads (cond b (bytes "sealed_byte") payload) (bind header (bit s) 0 []) (bit s) stop 104 j u → stop ≤ j
  unfolding payload
  by_end u true q = (read_octets "sealed_byte" (bind header (bit s) 0 []) (bit s) stop 104 j u q.reads).all
  by_end u false q =
      let rows = rows_parts q in
      let second = under_parts (under_parts rows.1).went in
      (read_octets "alignment_stuffing" _ (bit s) stop second.mid j second.right second.went.reads).all

  pub body_of : (t : Trace) → read splice_info_section [] (bit s) stop 0 ≡ reached j t → Body s j t
  unfolding splice_info_section
  body_of t q =
      let top = rows_parts {rows = header} {p = branch (is "encrypted_packet" 1) (bytes "sealed_byte") payload done} (record { reads = q }) in
      let b : Bool = eqb (num (bit s) 32 1) 1 in
      record {
        body = top.0;
        whole = top.2;
        all = by_end top.0 b (arm_parts b top.1 refl);
        planned = by_seal top.0 b refl (arm_parts b top.1 refl);
      }
