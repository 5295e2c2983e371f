-- What a table lays out, step by step: a law for each way in which a table goes on, as the code of its function follows it.
-- Assumes nothing.
use mathlib.Core.Path.{◌≡◌, refl, sym, ap, ◌∙◌}
use mathlib.Core.Bool.{Bool, true, false, cond}
use mathlib.Core.List.{List}
use Prim.Native.Nat.{ℕ, suc, ◌+◌, ◌-◌, ◌*◌}
use native.Mathlib.Omega.{arith}
use Prim.Native.String.{String}
use Rattle.grammar.specs.Syntax.{Item, Test, Prog, done, stop, fields, branch, call, repeat, frame, fill, under}
use Rattle.grammar.specs.Meaning.{Env, value_of, holds}
use Rattle.fields.specs.Fields.{Source, Plan, laid, widths_of, names, times_on, sweep_on, walk, roomy, kept, Lays}

pub finished : {env : Env} {v : Source} {end : ℕ} {π ρ : Plan} → π ≡ ρ → Lays done env v end π ρ
unfolding walk
finished e = record { lays = e }

pub stopped : {env : Env} {v : Source} {end : ℕ} {π ρ : Plan} → π ≡ ρ → Lays stop env v end π ρ
unfolding walk
stopped e = record { lays = e }

-- rows, then on from there
pub pass : {rows : List Item} {p : Prog} {env : Env} {v : Source} {end : ℕ} {π σ ρ : Plan} → σ ≡ laid (widths_of rows) π
    → Lays p (names rows v π.at π.number env) v end σ ρ → Lays (fields rows p) env v end π ρ
unfolding walk
pass {rows} {p} {env} {v} {end} {π} e l =
    record { lays = ap (walk p (names rows v π.at π.number env) v end) (sym e) ∙ l.lays }

-- the same where nothing comes after
pub pass_last : {rows : List Item} {env : Env} {v : Source} {end : ℕ} {π σ : Plan} → σ ≡ laid (widths_of rows) π
    → Lays (fields rows done) env v end π σ
pass_last e = pass e (finished refl)

-- the test holds; it does not
pub yes : {t : Test} {a b p : Prog} {env : Env} {v : Source} {end : ℕ} {π σ ρ : Plan} → holds t env end π.at ≡ true
    → Lays a env v end π σ → Lays p env v end σ ρ → Lays (branch t a b p) env v end π ρ
unfolding walk
yes {t} {a} {b} {p} {env} {v} {end} {π} h x y =
    record {
      lays =
          ap (λ (u : Bool). walk p env v end (cond u (walk a env v end π) (walk b env v end π))) h
          ∙ ap (walk p env v end) x.lays ∙ y.lays;
    }

pub no : {t : Test} {a b p : Prog} {env : Env} {v : Source} {end : ℕ} {π σ ρ : Plan} → holds t env end π.at ≡ false
    → Lays b env v end π σ → Lays p env v end σ ρ → Lays (branch t a b p) env v end π ρ
unfolding walk
no {t} {a} {b} {p} {env} {v} {end} {π} h x y =
    record {
      lays =
          ap (λ (u : Bool). walk p env v end (cond u (walk a env v end π) (walk b env v end π))) h
          ∙ ap (walk p env v end) x.lays ∙ y.lays;
    }

pub yes_last : {t : Test} {a b : Prog} {env : Env} {v : Source} {end : ℕ} {π ρ : Plan} → holds t env end π.at ≡ true
    → Lays a env v end π ρ → Lays (branch t a b done) env v end π ρ
yes_last h x = yes h x (finished refl)

pub no_last : {t : Test} {a b : Prog} {env : Env} {v : Source} {end : ℕ} {π ρ : Plan} → holds t env end π.at ≡ false
    → Lays b env v end π ρ → Lays (branch t a b done) env v end π ρ
no_last h x = no h x (finished refl)

-- a branch lays out the table that a choice by the same test names, where each of its arms does
pub chosen : {A : Type 0} {test : Test} {p q : Prog} {env : Env} {v : Source} {end : ℕ} {π ρ : Plan} (table : A → Prog) (t : Bool) (a b : A)
    → holds test env end π.at ≡ t → (Lays (table a) env v end π ρ → Lays p env v end π ρ) → (Lays (table b) env v end π ρ → Lays q env v end π ρ)
    → Lays (table (cond t a b)) env v end π ρ → Lays (branch test p q done) env v end π ρ
chosen table true a b e first second r = yes_last e (first r)
chosen table false a b e first second r = no_last e (second r)

pub called : {a p : Prog} {env : Env} {v : Source} {end : ℕ} {π σ ρ : Plan} → Lays a env v end π σ → Lays p env v end σ ρ
    → Lays (call a p) env v end π ρ
unfolding walk
called {a} {p} {env} {v} {end} x y = record { lays = ap (walk p env v end) x.lays ∙ y.lays }

pub ruled : {n : ℕ} {a p : Prog} {env : Env} {v : Source} {end : ℕ} {π σ ρ : Plan} → Lays a env v end π σ → Lays p env v end σ ρ
    → Lays (under n a p) env v end π ρ
unfolding walk
ruled {n} {a} {p} {env} {v} {end} x y = record { lays = ap (walk p env v end) x.lays ∙ y.lays }

pub repeated : {n : String} {a p : Prog} {env : Env} {v : Source} {end : ℕ} {π σ ρ : Plan} (m : ℕ) → value_of env n ≡ m
    → times_on m (walk a env v end) π ≡ σ → Lays p env v end σ ρ → Lays (repeat n a p) env v end π ρ
unfolding walk
repeated {n} {a} {p} {env} {v} {end} {π} m e x y =
    record { lays = ap (λ (i : ℕ). walk p env v end (times_on i (walk a env v end) π)) e ∙ ap (walk p env v end) x ∙ y.lays }

-- rows so many times
pub many : {n : String} {rows : List Item} {p : Prog} {env : Env} {v : Source} {end : ℕ} {π σ ρ : Plan} (m : ℕ) → value_of env n ≡ m
    → σ ≡ times_on m (laid (widths_of rows)) π → Lays p env v end σ ρ → Lays (repeat n (fields rows done) p) env v end π ρ
unfolding walk
many {env = env} {v = v} {end = end} m e x y = repeated m e (sym x) y

pub framed : {n : String} {a p : Prog} {env : Env} {v : Source} {end : ℕ} {π σ ρ : Plan} (e : ℕ) → π.at + 8 * value_of env n ≡ e
    → Lays a env v e π σ → Lays p env v end σ ρ → Lays (frame n a p) env v end π ρ
unfolding walk
framed {n} {a} {p} {env} {v} {end} {π} e same x y =
    record { lays = ap (λ (i : ℕ). walk p env v end (walk a env v i π)) same ∙ ap (walk p env v end) x.lays ∙ y.lays }

pub filled : {a p : Prog} {env : Env} {v : Source} {end : ℕ} {π σ ρ : Plan} → sweep_on (end - π.at) (walk a env v end) end π ≡ σ
    → Lays p env v end σ ρ → Lays (fill a p) env v end π ρ
unfolding walk
filled {a} {p} {env} {v} {end} x y = record { lays = ap (walk p env v end) x ∙ y.lays }

-- what is laid out where there is room
pub lays_kept : {p : Prog} {env : Env} {v : Source} {end : ℕ} {π ρ : Plan} → roomy π ≡ true → Lays p env v end π ρ → ρ ≡ kept (walk p env v end) π
unfolding kept
lays_kept {p} {env} {v} {end} {π} r l = sym (ap (λ (b : Bool). cond b (walk p env v end π) π) r ∙ l.lays)

-- ---- so many times, one by one

pub times_over : (n : ℕ) (g : Plan → Plan) (π : Plan) → n ≡ 0 → times_on n g π ≡ π
unfolding times_on
times_over n g π e = ap (λ (m : ℕ). times_on m g π) e

pub times_next : (n m : ℕ) (g : Plan → Plan) (π : Plan) {σ : Plan} → n ≡ m + 1 → σ ≡ g π → times_on n g π ≡ times_on m g σ
unfolding times_on
times_next n m g π e q =
    let one : n ≡ suc m = omega arith in
    ap (λ (i : ℕ). times_on i g π) one ∙ ap (times_on m g) (sym q)
