-- What the tables of the standard keep to: each field has 1 to 48 bits, and a table that has no bytes up to an end lays out the
-- same whatever its end.
-- Assumes nothing.
use mathlib.Core.Path.{◌≡◌, refl, ap, ◌∙◌, fun_ext}
use mathlib.Core.Bool.{Bool, true, false, cond, ◌&&◌, false≢true}
use mathlib.Core.List.{List, [], ◌∷◌, ◌++◌}
use Prim.Native.Nat.{ℕ, zero, suc, ◌+◌, ◌*◌, ◌≤◌}
use native.Mathlib.Omega.{arith}
use lib.ListN.{length}
use lib.Dec.{leb, ltb, eqb}
use borrow.Author.Tests.{leb-true}
use Rattle.bits.proofs.Cases.{and_left, and_right}
use Rattle.grammar.specs.Syntax.{Item, Prog, done, stop, fields, branch, call, repeat, frame, fill, under}
use Rattle.grammar.specs.Meaning.{Env, value_of, width_of, width, values, bind, holds, Reading, reached, then, again, sweep, exactly, read}
use Rattle.grammar.specs.Traces.{Trace, rows_of, size}
use Rattle.grammar.specs.Tables.{splice_info_section, payload, sized_command, command, splice_schedule, schedule_event, schedule_times, avails, break_duration, avail_numbers, splice_insert, insert_times, insert_component, splice_time, private_command, descriptor_loop, splice_descriptor, known_descriptor, avail_descriptor, dtmf_descriptor, segmentation_descriptor, delivery, segmentation_components, segmentation_end, time_descriptor, audio_descriptor}
use Rattle.grammar.proofs.Endless.{asks_no_end, endless, same_test}
use Rattle.grammar.proofs.Ends.{Gives, breaks, gives, given, when_gives, after_gives, then_gives, numbered_gives}
use Rattle.fields.proofs.Room.{narrow, slim}
use Rattle.fields.specs.Fields.{Source, Plan, laid, widths_of, names, times_on, walk}

-- ---- the widths

abbrev pub Thin : Trace → Type 0
Thin [] = Unit {0}
Thin (x ∷ t) = (1 ≤ width_of x.0) × (width_of x.0 ≤ 48) × Thin t

pub thin_append : (t u : Trace) → Thin t → Thin u → Thin (t ++ u)
thin_append [] u a b = b
thin_append (x ∷ t) u a b = (a.0, a.1, thin_append t u a.2 b)

pub thin_values : (rows : List Item) (f : ℕ → ℕ) (k : ℕ) → narrow rows ≡ true → Thin (values rows f k)
unfolding values
thin_values [] f k h = tt
thin_values (i ∷ rows) f k h =
    let more = and_right (leb 1 (width_of i)) _ h in (
      leb-true 1 (width_of i) (and_left (leb 1 (width_of i)) (leb (width_of i) 48 && narrow rows) h),
      leb-true (width_of i) 48 (and_left (leb (width_of i) 48) _ more),
      thin_values rows f (k + width_of i) (and_right (leb (width_of i) 48) _ more),
    )

abbrev IsThin : ℕ → Trace → Type 0
IsThin j t = Thin t

on_thin : {r : Reading} {g : ℕ → Reading} → Gives IsThin r → ((i : ℕ) → Gives IsThin (g i)) → Gives IsThin (then r g)
on_thin a b = then_gives a b (λ i j t u. thin_append t u)

either : {a b : Reading} (t : Bool) → Gives IsThin a → Gives IsThin b → Gives IsThin (cond t a b)
either true x y = x
either false x y = y

part_thin : {r : Reading} (e : ℕ) → Gives IsThin r → Gives IsThin (exactly e r)
unfolding exactly
part_thin e breaks = breaks
part_thin e (gives {j = j} {t = t} h) = when_gives (eqb j e) (λ q. gives h)

none_thin : (k : ℕ) → Gives IsThin (reached k [])
none_thin k = gives tt

times_thin : {g : ℕ → Reading} → ((k : ℕ) → Gives IsThin (g k)) → (n k : ℕ) → Gives IsThin (again n g k)
unfolding again
times_thin l zero k = none_thin k
times_thin l (suc n) k = on_thin (l k) (times_thin l n)

sweep_thin : {g : ℕ → Reading} (end : ℕ) → ((k : ℕ) → Gives IsThin (g k)) → (n k : ℕ) → Gives IsThin (sweep n g end k)
unfolding sweep
sweep_thin end l zero k = either (leb end k) (none_thin k) breaks
sweep_thin end l (suc n) k = either (leb end k) (none_thin k) (on_thin (l k) (λ j. either (ltb k j) (sweep_thin end l n j) breaks))

thin : (p : Prog) → slim p ≡ true → (env : Env) (f : ℕ → ℕ) (end k : ℕ) → Gives IsThin (read p env f end k)
unfolding slim read
thin done h env f end k = none_thin k
thin stop h env f end k = breaks
thin (fields rows p) h env f end k =
    when_gives (leb (k + width rows) end)
    (λ m.
    after_gives (values rows f k) (thin p (and_right (narrow rows) _ h) (bind rows f k env) f end (k + width rows))
    (λ j u. thin_append (values rows f k) u (thin_values rows f k (and_left (narrow rows) (slim p) h))))
thin (branch t a b p) h env f end k =
    let rest = and_right (slim a) _ h in
    on_thin (either (holds t env end k) (thin a (and_left (slim a) _ h) env f end k) (thin b (and_left (slim b) _ rest) env f end k))
    (thin p (and_right (slim b) _ rest) env f end)
thin (call a p) h env f end k = on_thin (thin a (and_left (slim a) _ h) env f end k) (thin p (and_right (slim a) _ h) env f end)
thin (repeat n a p) h env f end k =
    on_thin (times_thin (thin a (and_left (slim a) _ h) env f end) (value_of env n) k) (thin p (and_right (slim a) _ h) env f end)
thin (frame n a p) h env f end k =
    let e : ℕ = k + 8 * value_of env n in
    when_gives (leb e end)
    (λ m. on_thin (part_thin e (thin a (and_left (slim a) _ h) env f e k)) (thin p (and_right (slim a) _ h) env f end))
thin (fill a p) h env f end k =
    on_thin (sweep_thin end (thin a (and_left (slim a) _ h) env f end) _ k) (thin p (and_right (slim a) _ h) env f end)
thin (under n a p) h env f end k =
    on_thin (numbered_gives n (thin a (and_left (slim a) _ h) env f end k)) (thin p (and_right (slim a) _ h) env f end)

-- so is each field of what it reads
pub trace_thin : (p : Prog) → slim p ≡ true → (env : Env) (f : ℕ → ℕ) (end k j : ℕ) (t : Trace) → read p env f end k ≡ reached j t → Thin t
trace_thin p h env f end k j t e = given (thin p h env f end k) e

-- and so it has no more fields than bits
pub thin_length : (t : Trace) → Thin t → length t ≤ size t
unfolding rows_of
thin_length [] h = omega arith
thin_length (x ∷ t) h = omega (arith, h.0, thin_length t h.2)

-- Table 5 and all that it calls
section_slim : slim splice_info_section ≡ true
unfolding slim splice_info_section payload sized_command command splice_schedule schedule_event schedule_times avails break_duration avail_numbers splice_insert insert_times insert_component splice_time private_command descriptor_loop splice_descriptor known_descriptor avail_descriptor dtmf_descriptor segmentation_descriptor delivery segmentation_components segmentation_end time_descriptor audio_descriptor
section_slim = refl

pub command_slim : slim sized_command ≡ true
unfolding slim sized_command command splice_schedule schedule_event schedule_times avails break_duration avail_numbers splice_insert insert_times insert_component splice_time private_command
command_slim = refl

pub loop_slim : slim descriptor_loop ≡ true
unfolding slim descriptor_loop splice_descriptor known_descriptor avail_descriptor dtmf_descriptor segmentation_descriptor delivery segmentation_components segmentation_end time_descriptor audio_descriptor
loop_slim = refl

pub section_thin : (f : ℕ → ℕ) (end j : ℕ) (t : Trace) → read splice_info_section [] f end 0 ≡ reached j t → Thin t
section_thin f end j t e = trace_thin splice_info_section section_slim [] f end 0 j t e

-- ---- the end

times_same : {g h : Plan → Plan} → ((π : Plan) → g π ≡ h π) → (n : ℕ) (π : Plan) → times_on n g π ≡ times_on n h π
times_same l n π = ap (λ (g : Plan → Plan). times_on n g π) (fun_ext l)

pub any_end : (p : Prog) → endless p ≡ true → (env : Env) (v : Source) (end end' : ℕ) (π : Plan) → walk p env v end π ≡ walk p env v end' π
unfolding endless walk
any_end done h env v end end' π = refl
any_end stop h env v end end' π = refl
any_end (fields rows p) h env v end end' π = any_end p h (names rows v π.at π.number env) v end end' (laid (widths_of rows) π)
any_end (branch t a b p) h env v end end' π =
    let arms = and_right (asks_no_end t) _ h in
    let rest = and_right (endless a) _ arms in
    let test = same_test t (and_left (asks_no_end t) (endless a && (endless b && endless p)) h) env end end' π.at π.at in
    let first = any_end a (and_left (endless a) _ arms) env v end end' π in
    let second = any_end b (and_left (endless b) _ rest) env v end end' π in
    any_end p (and_right (endless b) _ rest) env v end end' _ ∙ (λ i. walk p env v end' (cond (test i) (first i) (second i)))
any_end (call a p) h env v end end' π =
    any_end p (and_right (endless a) _ h) env v end end' _ ∙ ap (walk p env v end') (any_end a (and_left (endless a) _ h) env v end end' π)
any_end (repeat n a p) h env v end end' π =
    any_end p (and_right (endless a) _ h) env v end end' _
    ∙ ap (walk p env v end') (times_same (any_end a (and_left (endless a) _ h) env v end end') (value_of env n) π)
any_end (frame n a p) h env v end end' π = any_end p h env v end end' _
any_end (fill a p) h env v end end' π = absurd (false≢true h)
any_end (under n a p) h env v end end' π =
    any_end p (and_right (endless a) _ h) env v end end' _ ∙ ap (walk p env v end') (any_end a (and_left (endless a) _ h) env v end end' π)
