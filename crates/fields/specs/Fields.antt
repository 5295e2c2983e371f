-- Which fields the tables lay out, one after another, by the numbers that stand there: the section's bits, or a sheet's numbers.
-- Nothing is refused here: where the numbers break a table, the fields go on as if they did not, and who asks has to refuse.
-- Places and ends are counted in bits.
-- Assumes nothing.
use Rattle.std.specs.Prelude.{ℕ, zero, suc, ◌+◌, ◌-◌, ◌*◌, ◌^◌, ◌≤◌, ◌≡◌, Bool, cond, ◌&&◌, List, [], ◌∷◌, length, get_or, leb, ltb, eqb}
use Rattle.std.proofs.lemmas.List.Edits.{sets}
use Rattle.bits.specs.Bits.{field_of}
use Rattle.grammar.specs.Syntax.{Item, Prog, done, stop, fields, branch, call, repeat, frame, fill, under}
use Rattle.grammar.specs.Meaning.{Env, value_of, width_of, bind_one, holds}
use Rattle.fields.specs.declared.Place.{Place}

-- ---- the numbers that stand there

-- the number of the field at a place, which is field number i and so many bits wide
abbrev pub Source : Type 0
Source = ℕ → ℕ → ℕ → ℕ

-- a number that the bits hold, or else 0
unfoldable pub held : ℕ → ℕ → ℕ
held x w = cond (ltb x (2 ^ w)) x 0

-- number i of the sheet x; where there is no sheet, the bits of the section s
unfoldable pub source : List ℕ → List ℕ → Source
source s x k i w = cond (eqb (length x) 0) (field_of s k w) (held (get_or x i 0) w)

-- ---- what is laid out

-- the place after the fields, how many they are, and their widths at the front of lent memory
pub record Plan : Type 0 where
  pub at : ℕ
  pub number : ℕ
  pub widths : List ℕ

-- a place, and the memory beside it
abbrev pub plan : Place → List ℕ → Plan
plan p ws = record { at = p.at; number = p.number; widths = ws }

-- how many bits fields of these widths have
abbrev pub total : List ℕ → ℕ
total [] = 0
total (w ∷ ws) = w + total ws

-- fields of these widths more
unfoldable pub advance : List ℕ → Plan → Plan
advance ws π = record { at = π.at + total ws; number = π.number + length ws; widths = sets π.widths π.number ws }

-- the same where the memory has room for them all, or else none
unfoldable pub laid : List ℕ → Plan → Plan
laid ws π = cond (leb (π.number + length ws) (length π.widths)) (advance ws π) π

-- ---- what a table lays out

-- the widths of a table's rows
abbrev pub widths_of : List Item → List ℕ
widths_of [] = []
widths_of (i ∷ rows) = width_of i ∷ widths_of rows

-- the rows' values by name, the first at place k under number i
abbrev pub names : List Item → Source → ℕ → ℕ → Env → Env
names [] v k i env = env
names (x ∷ rows) v k i env = names rows v (k + width_of x) (i + 1) (bind_one x (v k i (width_of x)) env)

-- so many times
unfoldable pub times_on : ℕ → (Plan → Plan) → Plan → Plan
times_on zero g π = π
times_on (suc n) g π = times_on n g (g π)

-- up to the end, as long as it goes on
unfoldable pub sweep_on : ℕ → (Plan → Plan) → ℕ → Plan → Plan
sweep_on zero g end π = π
sweep_on (suc n) g end π = cond (leb end π.at) π (cond (ltb π.at (g π).at) (sweep_on n g end (g π)) (g π))

-- by a table, within a part that ends at `end`
unfoldable pub walk : Prog → Env → Source → ℕ → Plan → Plan
walk done env v end π = π
walk stop env v end π = π
walk (fields rows p) env v end π = walk p (names rows v π.at π.number env) v end (laid (widths_of rows) π)
walk (branch t a b p) env v end π = walk p env v end (cond (holds t env end π.at) (walk a env v end π) (walk b env v end π))
walk (call a p) env v end π = walk p env v end (walk a env v end π)
walk (repeat n a p) env v end π = walk p env v end (times_on (value_of env n) (walk a env v end) π)
walk (frame n a p) env v end π = walk p env v end (walk a env v (π.at + 8 * value_of env n) π)
walk (fill a p) env v end π = walk p env v end (sweep_on (end - π.at) (walk a env v end) end π)
walk (under n a p) env v end π = walk p env v end (walk a env v end π)

-- bytes up to an end, as long as there is room for them
unfoldable pub bytes_to : ℕ → Plan → Plan
bytes_to end π = sweep_on (end - π.at) (laid (8 ∷ [])) end π

-- ---- plans with room

-- a plan whose memory has room for it and is not longer than any section needs, and whose place is one that its fields come to:
-- a machine can count on from there
unfoldable pub roomy : Plan → Bool
roomy π = leb (length π.widths) 32768 && (leb π.number (length π.widths) && leb π.at (104 + 255 * π.number))

-- what is made of a plan that has room; any other stays as it is
unfoldable pub kept : (Plan → Plan) → Plan → Plan
kept g π = cond (roomy π) (g π) π

-- ---- for private functions

-- the facts that `roomy` tests
abbrev pub Has : Plan → Type 0
Has π = (π.number ≤ length π.widths) × (π.at ≤ 104 + 255 * π.number) × (length π.widths ≤ 32768)

-- the same of a place, and the memory beside it
abbrev pub Room : Place → List ℕ → Type 0
Room p m = Has (plan p m)

-- p lays out ρ from π on
pub record Lays (p : Prog) (env : Env) (v : Source) (end : ℕ) (π ρ : Plan) : Type 0 where
  pub lays : walk p env v end π ≡ ρ
