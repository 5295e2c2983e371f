-- Where a known descriptor stands.
-- Assumes nothing.
use Rattle.std.specs.Prelude.{◌≡◌, ℕ, ◌+◌, ◌*◌, ◌≤◌, true, List, [], ◌∷◌, ◌++◌, length, Option, Some, None}
use Rattle.bits.specs.Bits.{bit, field_of}
use Rattle.grammar.specs.Syntax.{field}
use Rattle.grammar.specs.Meaning.{Env, values, reached, read}
use Rattle.grammar.specs.Traces.{Trace}
use Rattle.descriptors.specs.declared.Cursor.{Cursor}
use Rattle.descriptors.specs.Walk.{kind_of, table_of}
use Rattle.known_walk.specs.Known.{is_known, known_cursors, numbered, known_trace}

-- ---- a descriptor of the standard's stands at byte `at`

-- its rows t are tag, length and identifier, and then what the table of its kind reads
pub record Stands (s : List ℕ) (at : ℕ) (t : Trace) : Type 0 where
  pub env : Env
  pub stop : ℕ
  pub body : Trace
  pub fits : length s ≤ 4096
  pub known : is_known (kind_of s at) ≡ true
  pub ends : stop ≡ at + 2 + field_of s (8 * (at + 1)) 8
  pub low : at + 6 ≤ stop
  pub inside : stop ≤ length s
  pub rows :
      t
      ≡ values (field 8 "splice_descriptor_tag" ∷ field 8 "descriptor_length" ∷ []) (bit s) (8 * at)
      ++ (values (field 32 "identifier" ∷ []) (bit s) (8 * at + 16) ++ body)
  pub reads : read (table_of (kind_of s at)) env (bit s) (8 * stop) (8 * (at + 6)) ≡ reached (8 * stop) body

-- the descriptor with the rows t stands at byte `at`, and that is the answer; or there are no rows
abbrev pub PlacedAt : List ℕ → ℕ → Trace → Option ℕ → Type 0
PlacedAt s at t None = t ≡ []
PlacedAt s at t (Some k) = (k ≡ at) × Stands s k t

-- known descriptor n
abbrev pub Placed : List ℕ → Cursor → ℕ → Option ℕ → Type 0
Placed s c n = PlacedAt s (numbered (known_cursors s c) n).at (known_trace s c n)
