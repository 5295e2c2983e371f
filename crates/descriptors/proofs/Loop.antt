-- The walk from a loop's first cursor gives exactly the loop's descriptors, in order: what the grammar reads of the loop is what it
-- reads of the descriptors that the walk finds, one after another.
-- Assumes nothing.
use mathlib.Core.Path.{◌≡◌, refl, sym, ap, ap₂, ◌∙◌}
use mathlib.Core.Bool.{Bool, cond, false≢true}
use mathlib.Core.List.{List, [], ◌++◌, append-nil}
use Prim.Native.Nat.{ℕ, zero, suc, ◌-◌, ◌*◌, ◌≤◌, ◌<◌}
use native.Mathlib.Omega.{arith}
use lib.ListN.{length}
use lib.Dec.{ltb}
use borrow.Author.Tests.{lt-ltb}
use Rattle.grammar.proofs.Readings.{reached_at}
use Rattle.bits.specs.Bits.{bit}
use Rattle.grammar.specs.Syntax.{Item, done, fill}
use Rattle.grammar.specs.Meaning.{Env, Reading, broken, reached, after, then, sweep, read, Outcome, ends, breach, end_of, run}
use Rattle.grammar.specs.Tables.{avail_descriptor, dtmf_descriptor, delivery, segmentation_components, segmentation_end, segmentation_descriptor, time_descriptor, audio_descriptor, known_descriptor, splice_descriptor}
use Rattle.grammar.specs.Traces.{trace_of}
use Rattle.grammar.proofs.Ends.{sweep_over, sweep_more}
use Rattle.descriptors.specs.declared.Cursor.{Cursor}
use Rattle.descriptors.specs.Walk.{Step, step_of}
use Rattle.std.specs.Prelude.{Some, None, Ok, Err}
use Rattle.descriptors.specs.Loop.{on_step, walk, walked, trace_at, traces_at}
use Rattle.descriptors.proofs.Walk.{stepped, stuck, at_end}
use Rattle.grammar.proofs.Scope.{scoped, same_read}

-- and one that breaks is broken
broken_at : (r : Reading) (n : ℕ) → end_of r ≡ breach n → r ≡ broken n
unfolding end_of
broken_at (broken m) n e =
    let same : m ≡ n = cc in
    ap broken same
broken_at (reached k t) n e = let z : ◌≡◌ {A = ℕ} 0 1 = cc in absurd (omega arith)

-- what follows a trace in a reading that reached its end
after_trace : (u : List (Item × ℕ)) (r : Reading) (j : ℕ) (t : List (Item × ℕ)) → after u r ≡ reached j t → (t ≡ u ++ trace_of r) × (r ≡ reached j (trace_of r))
unfolding after trace_of
after_trace u (broken n) j t e = let z : ◌≡◌ {A = ℕ} 0 1 = cc in absurd (omega arith)
after_trace u (reached k v) j t e =
    let place : k ≡ j = cc in
    let trace : u ++ v ≡ t = cc in
    (sym trace, ap (λ (x : ℕ). reached x v) place)

-- Table 17 reads the same in every environment
same_reading : (env : Env) (f : ℕ → ℕ) (end k : ℕ) → read splice_descriptor env f end k ≡ read splice_descriptor [] f end k
unfolding scoped avail_descriptor dtmf_descriptor delivery segmentation_components segmentation_end segmentation_descriptor time_descriptor audio_descriptor known_descriptor splice_descriptor
same_reading env f end k = same_read splice_descriptor [] env [] refl (λ n l. absurd (false≢true l)) f end k

module _ (s : List ℕ) (env : Env) (end : ℕ) (fits : end ≤ length s) where
  -- the body of the loop's sweep
  abbrev body : ℕ → Reading
  body j = read splice_descriptor env (bit s) (8 * end) j

  sweeping : Cursor → Reading
  sweeping c = sweep (8 * end - 8 * c.at) body (8 * end) (8 * c.at)

  -- at the end nothing more is read
  over : (c : Cursor) (j : ℕ) (t : List (Item × ℕ)) → end ≤ c.at → sweeping c ≡ reached j t → t ≡ []
  unfolding sweeping trace_of
  over c j t h e = ap trace_of (sym e ∙ sweep_over (8 * end - 8 * c.at) body (8 * end) (8 * c.at) (omega arith))

  -- before it, a descriptor that breaks its table ends the reading
  off : (c : Cursor) (j : ℕ) (t : List (Item × ℕ)) → c.at < end → run splice_descriptor env (bit s) (8 * end) (8 * c.at) ≡ breach 0
      → sweeping c ≡ reached j t → ⊥
  unfolding sweeping then end_of run
  off c j t h breaks e =
      let stops : sweep (8 * end - 8 * c.at) body (8 * end) (8 * c.at) ≡ broken 0 =
      sweep_more (8 * end - 8 * c.at) body (8 * end) (8 * c.at) (omega arith) (omega arith)
      ∙ ap (λ (r : Reading). then r (λ i. cond (ltb (8 * c.at) i) (sweep (8 * end - i) body (8 * end) i) (broken 0))) (broken_at (body (8 * c.at)) 0 breaks) in
      let z : ◌≡◌ {A = ℕ} 0 1 = cc in
      omega arith

  -- and any other is read, and then the rest
  on : (c : Cursor) (next : ℕ) (j : ℕ) (t : List (Item × ℕ)) → c.at < next → next ≤ end
      → run splice_descriptor env (bit s) (8 * end) (8 * c.at) ≡ ends (8 * next) → sweeping c ≡ reached j t
      → (rest : List (Item × ℕ)) × (t ≡ trace_of (body (8 * c.at)) ++ rest) × (sweep (8 * end - 8 * next) body (8 * end) (8 * next) ≡ reached j rest)
  unfolding sweeping then run
  on c next j t h l goes e =
      let rest : Reading = sweep (8 * end - 8 * next) body (8 * end) (8 * next) in
      let u : List (Item × ℕ) = trace_of (body (8 * c.at)) in
      let split : sweep (8 * end - 8 * c.at) body (8 * end) (8 * c.at) ≡ after u rest =
      sweep_more (8 * end - 8 * c.at) body (8 * end) (8 * c.at) (omega arith) (omega arith)
      ∙ ap (λ (r : Reading). then r (λ i. cond (ltb (8 * c.at) i) (sweep (8 * end - i) body (8 * end) i) (broken 0))) (reached_at (body (8 * c.at)) (8 * next) goes)
      ∙ ap (λ (b : Bool). after u (cond b rest (broken 0))) (lt-ltb (8 * c.at) (8 * next) (omega arith)) in
      let parts = after_trace u rest j t (sym split ∙ e) in
      (trace_of rest, parts.0, parts.1)

  -- what the sweep from a cursor reads is what the walk finds
  from : (n : ℕ) (c : Cursor) (j : ℕ) (t : List (Item × ℕ)) → c.end ≡ end → end - c.at ≤ n → sweeping c ≡ reached j t → t ≡ traces_at s (walk n s c)
  unfolding walk traces_at on_step trace_at sweeping
  from zero c j t same few e = over c j t (omega arith) e
  from (suc n) c j t same few e = go (from n) (step_of s c) refl
    where
      -- the run at the cursor, with the loop's end under its name here
      ran : (o : Outcome) → run splice_descriptor env (bit s) (8 * c.end) (8 * c.at) ≡ o → run splice_descriptor env (bit s) (8 * end) (8 * c.at) ≡ o
      ran o r = ap (λ (x : ℕ). run splice_descriptor env (bit s) (8 * x) (8 * c.at)) (sym same) ∙ r

      go : ((d : Cursor) (i : ℕ) (u : List (Item × ℕ)) → d.end ≡ end → end - d.at ≤ n → sweeping d ≡ reached i u → u ≡ traces_at s (walk n s d))
          → (σ : Step) → step_of s c ≡ σ → t ≡ traces_at s (on_step (step_of s c) c (walk n s))
      go rest (Ok None) q = over c j t (omega (arith, at_end s c q)) e ∙ sym (ap (λ (σ : Step). traces_at s (on_step σ c (walk n s))) q)
      go rest (Err refusal) q =
          let held = stuck s c refusal q (omega arith) in
          absurd (off c j t (omega (arith, held.before_end)) (ran (breach 0) (held.breaks env)) e)
      go rest (Ok (Some (kind, next))) q =
          let step = stepped s c kind next q in
          let parts = on c next.at j t step.further (omega (arith, step.inside)) (ran (ends (8 * next.at)) (step.runs_to env)) e in
          parts.1
          ∙ ap₂ ◌++◌
          (ap trace_of (same_reading env (bit s) (8 * end) (8 * c.at) ∙ ap (λ (x : ℕ). read splice_descriptor [] (bit s) (8 * x) (8 * c.at)) (sym same)))
          (rest next j parts.0 (step.same_end ∙ same) (omega (arith, step.further, step.inside)) parts.2)
          ∙ sym (ap (λ (σ : Step). traces_at s (on_step σ c (walk n s))) q)

-- nothing comes after the loop's sweep
then_done : (env : Env) (f : ℕ → ℕ) (end : ℕ) (r : Reading) → then r (λ j. read done env f end j) ≡ r
unfolding then after read
then_done env f end (broken n) = refl
then_done env f end (reached k u) = ap (reached k) (append-nil u)

-- the loop's trace is that of the descriptors that the walk finds
pub loop_trace : (s : List ℕ) (c : Cursor) (env : Env) (j : ℕ) (t : List (Item × ℕ)) → c.end ≤ length s
    → read (fill splice_descriptor done) env (bit s) (8 * c.end) (8 * c.at) ≡ reached j t → t ≡ traces_at s (walked s c)
unfolding walked sweeping read
loop_trace s c env j t fits e =
    from s env c.end fits (c.end - c.at) c j t refl (omega arith)
    (sym (then_done env (bit s) (8 * c.end) (sweep (8 * c.end - 8 * c.at) (λ i. read splice_descriptor env (bit s) (8 * c.end) i) (8 * c.end) (8 * c.at))) ∙ e)
