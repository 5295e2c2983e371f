-- Where a step finds a known descriptor, that descriptor stands: what Table 17 reads there is tag, length and identifier, and then
-- what the table of its kind reads.
-- Assumes nothing.
use mathlib.Core.Path.{◌≡◌, refl, sym, ap, ap₂, ◌∙◌}
use mathlib.Core.Bool.{Bool, true, false, cond}
use mathlib.Core.List.{List, [], ◌∷◌, ◌++◌}
use Prim.Native.Nat.{ℕ, ◌+◌, ◌*◌, ◌≤◌}
use native.Mathlib.Omega.{arith}
use lib.ListN.{length}
use lib.Dec.{eqb}
use Rattle.bits.specs.Bits.{bit, num, field_of}
use Rattle.bits.proofs.Within.{field_there}
use Rattle.grammar.specs.Syntax.{Test, Prog, field, is, done, branch}
use Rattle.grammar.specs.Meaning.{Env, value_of, values, bind, holds, read, run}
use Rattle.grammar.specs.Tables.{bytes, known_descriptor, splice_descriptor}
use Rattle.grammar.specs.Traces.{Trace}
use Rattle.grammar.proofs.Ends.{covers}
use Rattle.grammar.proofs.Readings.{Reads, rows_parts, arm_parts, frame_parts, reached_at}
use Rattle.descriptors.specs.declared.Cursor.{Cursor}
use Rattle.descriptors.specs.declared.Kind.{Kind}
use Rattle.descriptors.specs.Walk.{by_tag, kind_of, step_of, table_of}
use Rattle.descriptors.specs.Loop.{trace_at}
use Rattle.descriptors.proofs.Walk.{stepped}
use Rattle.known_walk.specs.Known.{is_known}
use Rattle.known_walk.specs.Places.{Stands}
use Rattle.std.specs.Prelude.{Some, Ok}

-- ---- the table of a descriptor's kind

module _ (env : Env) (f : ℕ → ℕ) (end k j : ℕ) (t : Trace) where
  -- a reading by p
  abbrev By : Prog → Type 0
  By p = Reads p env f end k j t

  -- a choice of kinds, as the branch picks it
  pick : {c : Test} {a b : Prog} (u : Bool) (a-kind b-kind : Kind) → By (branch c a b done) → holds c env end k ≡ u → (By a → By (table_of a-kind))
      → (By b → By (table_of b-kind)) → By (table_of (cond u a-kind b-kind))
  pick true a-kind b-kind q e h l = h (arm_parts true q e)
  pick false a-kind b-kind q e h l = l (arm_parts false q e)

  by_tag_lem : (v : ℕ) → value_of env "splice_descriptor_tag" ≡ v → By (known_descriptor (bytes "private_byte")) → By (table_of (by_tag v))
  unfolding known_descriptor by_tag table_of
  by_tag_lem v e q =
      let is-it : (w : ℕ) → eqb (value_of env "splice_descriptor_tag") w ≡ eqb v w = λ w. ap (λ (x : ℕ). eqb x w) e in
      pick (eqb v 0) Kind.Avail _ q (is-it 0) (λ q. q)
      (λ q. pick (eqb v 1) Kind.Dtmf _ q (is-it 1) (λ q. q)
      (λ q. pick (eqb v 2) Kind.Segmentation _ q (is-it 2) (λ q. q)
      (λ q. pick (eqb v 3) Kind.Time _ q (is-it 3) (λ q. q)
      (λ q. pick (eqb v 4) Kind.Audio Kind.Unknown q (is-it 4) (λ q. q) (λ q. q)))))

  by_kind : (s : List ℕ) (at : ℕ) → value_of env "identifier" ≡ num (bit s) (8 * (at + 2)) 32 → value_of env "splice_descriptor_tag" ≡ num (bit s) (8 * at) 8
      → By (branch (is "identifier" 0x43554549) (known_descriptor (bytes "private_byte")) (bytes "private_byte") done) → By (table_of (kind_of s at))
  unfolding kind_of table_of
  by_kind s at same tag q =
      pick (eqb (num (bit s) (8 * (at + 2)) 32) 0x43554549) (by_tag (num (bit s) (8 * at) 8)) Kind.Unknown q (ap (λ (x : ℕ). eqb x 0x43554549) same)
      (by_tag_lem (num (bit s) (8 * at) 8) tag) (λ q. q)

-- ---- the descriptor

-- what Table 17 reads from byte `at` on, up to byte `stop`
stands_read : (s : List ℕ) (at end stop : ℕ) (t : Trace) → length s ≤ 4096 → end ≤ length s → is_known (kind_of s at) ≡ true
    → Reads splice_descriptor [] (bit s) (8 * end) (8 * at) (8 * stop) t → Stands s at t
unfolding splice_descriptor
stands_read s at end stop t fits inside known q =
    let top = rows_parts q in
    let part = frame_parts top.1 in
    let inner = rows_parts part.0 in
    let last : 8 * stop ≡ 8 * at + 16 + 8 * num (bit s) (8 * at + 8) 8 = part.1 in
    let far = covers _ _ _ _ _ _ _ inner.1.reads in
    let low : at + 6 ≤ stop = omega arith in
    let within : stop ≤ length s = omega (arith, part.2) in
    let second : 8 * at + 8 ≡ 8 * (at + 1) = omega arith in
    let third : 8 * at + 16 ≡ 8 * (at + 2) = omega arith in
    let body : 8 * at + 16 + 32 ≡ 8 * (at + 6) = omega arith in
    let long : num (bit s) (8 * at + 8) 8 ≡ field_of s (8 * (at + 1)) 8 =
    ap (λ (k : ℕ). num (bit s) k 8) second ∙ sym (field_there s (8 * (at + 1)) 8 (omega arith) (omega arith)) in
    let env : Env =
    bind (field 32 "identifier" ∷ []) (bit s) (8 * at + 16) (bind (field 8 "splice_descriptor_tag" ∷ field 8 "descriptor_length" ∷ []) (bit s) (8 * at) []) in
    record {
      env = env;
      stop = stop;
      body = inner.0;
      fits = fits;
      known = known;
      ends = omega arith;
      low = low;
      inside = within;
      rows = top.2 ∙ ap (λ (v : Trace). values (field 8 "splice_descriptor_tag" ∷ field 8 "descriptor_length" ∷ []) (bit s) (8 * at) ++ v) inner.2;
      reads =
          ap₂ (λ (e k : ℕ). read (table_of (kind_of s at)) env (bit s) e k) last (sym body)
          ∙ (by_kind env (bit s) _ _ (8 * stop) inner.0 s at (ap (λ (k : ℕ). num (bit s) k 32) third) refl inner.1).reads;
    }

pub stands : (s : List ℕ) (c : Cursor) (kind : Kind) (next : Cursor) → length s ≤ 4096 → step_of s c ≡ Ok (Some (kind, next)) → is_known kind ≡ true
    → Stands s c.at (trace_at s c)
unfolding trace_at run
stands s c kind next fits e known =
    let step = stepped s c kind next e in
    stands_read s c.at c.end next.at (trace_at s c) fits step.within (ap is_known (sym step.kind_is) ∙ known)
    (record { reads = reached_at (read splice_descriptor [] (bit s) (8 * c.end) (8 * c.at)) (8 * next.at) (step.runs_to []) })
