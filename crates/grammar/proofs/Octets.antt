-- A table whose branches agree on the place modulo 8 ends where that says: the command of a section ends at a whole byte.
-- Assumes nothing.
use mathlib.Core.Path.{◌≡◌, refl, ap, ◌∙◌}
use mathlib.Core.Bool.{Bool, true, false, cond, ◌&&◌}
use Prim.Native.Nat.{ℕ, zero, suc, ◌+◌, ◌-◌, ◌*◌, ◌%◌}
use native.Mathlib.Omega.{arith}
use lib.Dec.{leb, ltb, eqb}
use borrow.Author.Tests.{eqb-true}
use Rattle.grammar.specs.Syntax.{Prog, done, stop, fields, branch, call, repeat, frame, fill, under}
use Rattle.grammar.specs.Meaning.{Env, value_of, width, values, bind, holds, Reading, broken, reached, then, again, sweep, exactly, numbered, read}
use Rattle.grammar.specs.Tables.{splice_time, break_duration, avail_numbers, avails, schedule_times, schedule_event, splice_schedule, insert_component, insert_times, splice_insert, command, sized_command}
use Rattle.grammar.specs.Traces.{Trace}
use Rattle.grammar.proofs.Ends.{Gives, breaks, gives, given, when_gives, after_gives, numbered_gives}
use Rattle.bits.proofs.Cases.{and_left, and_right}

-- the place after it, modulo 8, from a place that is r modulo 8
unfoldable octet : Prog → ℕ → ℕ
octet done r = r
octet stop r = r
octet (fields rows p) r = octet p ((r + width rows) % 8)
octet (branch t a b p) r = octet p (octet a r)
octet (call a p) r = octet p (octet a r)
octet (repeat n a p) r = octet p r
octet (frame n a p) r = octet p r
octet (fill a p) r = octet p r
octet (under n a p) r = octet p (octet a r)

-- the arms of each branch agree on it, and the body of each loop keeps it
unfoldable even : Prog → ℕ → Bool
even done r = true
even stop r = true
even (fields rows p) r = even p ((r + width rows) % 8)
even (branch t a b p) r = eqb (octet b r) (octet a r) && (even a r && (even b r && even p (octet a r)))
even (call a p) r = even a r && even p (octet a r)
even (repeat n a p) r = eqb (octet a r) r && (even a r && even p r)
even (frame n a p) r = even p r
even (fill a p) r = eqb (octet a r) r && (even a r && even p r)
even (under n a p) r = even a r && even p (octet a r)

-- where a reading reached a place, that is r modulo 8
abbrev At : ℕ → Reading → Type 0
At r x = Gives (λ j t. j % 8 ≡ r) x

choose : (r : ℕ) (b : Bool) (x y : Reading) → At r x → At r y → At r (cond b x y)
choose r true x y h l = h
choose r false x y h l = l

then_at : (q r : ℕ) (x : Reading) (g : ℕ → Reading) → At q x → ((i : ℕ) → i % 8 ≡ q → At r (g i)) → At r (then x g)
unfolding then
then_at q r (broken n) g h l = breaks
then_at q r (reached i u) g h l = after_gives u (l i (given h refl)) (λ j v m. m)

again_at : (r n : ℕ) (g : ℕ → Reading) → ((i : ℕ) → i % 8 ≡ r → At r (g i)) → (k : ℕ) → k % 8 ≡ r → At r (again n g k)
unfolding again
again_at r zero g l k h = gives h
again_at r (suc n) g l k h = then_at r r (g k) (again n g) (l k h) (again_at r n g l)

sweep_at : (r n : ℕ) (g : ℕ → Reading) (end : ℕ) → ((i : ℕ) → i % 8 ≡ r → At r (g i)) → (k : ℕ) → k % 8 ≡ r → At r (sweep n g end k)
unfolding sweep
sweep_at r zero g end l k h = choose r (leb end k) _ _ (gives h) breaks
sweep_at r (suc n) g end l k h =
    choose r (leb end k) _ _ (gives h)
    (then_at r r (g k) _ (l k h) (λ j m. choose r (ltb k j) _ _ (sweep_at r n g end l j m) breaks))

-- a part that is used up ends where the part does
exactly_at : (r e : ℕ) (x : Reading) → e % 8 ≡ r → At r (exactly e x)
unfolding exactly
exactly_at r e (broken n) h = breaks
exactly_at r e (reached j t) h = when_gives (eqb j e) (λ q. gives (ap (λ (i : ℕ). i % 8) (eqb-true j e q) ∙ h))

-- another name for the same place
alike : (q r : ℕ) (x : Reading) → q ≡ r → At q x → At r x
alike q r (broken n) e h = breaks
alike q r (reached j t) e h = gives (given h refl ∙ e)

at_octet : (p : Prog) (r : ℕ) → even p r ≡ true → (env : Env) (f : ℕ → ℕ) (end k : ℕ) → k % 8 ≡ r → At (octet p r) (read p env f end k)
unfolding octet even read
at_octet done r h env f end k m = gives m
at_octet stop r h env f end k m = breaks
at_octet (fields rows p) r h env f end k m =
    choose _ (leb (k + width rows) end) _ _
    (after_gives (values rows f k) (at_octet p ((r + width rows) % 8) h (bind rows f k env) f end (k + width rows) (omega arith)) (λ j v q. q))
    breaks
at_octet (branch t a b p) r h env f end k m =
    let arms = and_right (eqb (octet b r) (octet a r)) _ h in
    let rest = and_right (even a r) _ arms in
    let same = eqb-true (octet b r) (octet a r) (and_left (eqb (octet b r) (octet a r)) (even a r && (even b r && even p (octet a r))) h) in
    then_at (octet a r) _ (cond (holds t env end k) (read a env f end k) (read b env f end k)) _
    (choose _ (holds t env end k) _ _ (at_octet a r (and_left (even a r) _ arms) env f end k m)
    (alike _ _ (read b env f end k) same (at_octet b r (and_left (even b r) _ rest) env f end k m)))
    (at_octet p (octet a r) (and_right (even b r) _ rest) env f end)
at_octet (call a p) r h env f end k m =
    then_at (octet a r) _ (read a env f end k) _ (at_octet a r (and_left (even a r) _ h) env f end k m)
    (at_octet p (octet a r) (and_right (even a r) _ h) env f end)
at_octet (repeat n a p) r h env f end k m =
    let rest = and_right (eqb (octet a r) r) _ h in
    let same = eqb-true (octet a r) r (and_left (eqb (octet a r) r) (even a r && even p r) h) in
    then_at r _ (again (value_of env n) (λ j. read a env f end j) k) _
    (again_at r (value_of env n) (λ j. read a env f end j) (λ i q. alike _ _ (read a env f end i) same (at_octet a r (and_left (even a r) _ rest) env f end i q)) k m)
    (at_octet p r (and_right (even a r) _ rest) env f end)
at_octet (frame n a p) r h env f end k m =
    choose _ (leb (k + 8 * value_of env n) end) _ _
    (then_at r _ (exactly (k + 8 * value_of env n) (read a env f (k + 8 * value_of env n) k)) _ (exactly_at r (k + 8 * value_of env n) _ (omega arith))
    (at_octet p r h env f end))
    breaks
at_octet (fill a p) r h env f end k m =
    let rest = and_right (eqb (octet a r) r) _ h in
    let same = eqb-true (octet a r) r (and_left (eqb (octet a r) r) (even a r && even p r) h) in
    then_at r _ (sweep (end - k) (λ j. read a env f end j) end k) _
    (sweep_at r (end - k) (λ j. read a env f end j) end (λ i q. alike _ _ (read a env f end i) same (at_octet a r (and_left (even a r) _ rest) env f end i q)) k m)
    (at_octet p r (and_right (even a r) _ rest) env f end)
at_octet (under n a p) r h env f end k m =
    then_at (octet a r) _ (numbered n (read a env f end k)) _ (numbered_gives n (at_octet a r (and_left (even a r) _ h) env f end k m))
    (at_octet p (octet a r) (and_right (even a r) _ h) env f end)

-- the command of a section
pub command_octets : (env : Env) (f : ℕ → ℕ) (end k j : ℕ) (t : Trace) → k % 8 ≡ 0 → read sized_command env f end k ≡ reached j t → j % 8 ≡ 0
unfolding octet even splice_time break_duration avail_numbers avails schedule_times schedule_event splice_schedule insert_component insert_times splice_insert command sized_command
command_octets env f end k j t h e = given (at_octet sized_command 0 refl env f end k h) e
