use Rattle.std.proofs.Common.{◌≡◌, ℕ, ◌+◌, ◌*◌, ◌≤◌, List, length, drop}
use Rattle.lines.specs.Turns.{line_length}
use Rattle.lines.proofs.line_end.Given as goal

-- the line that starts at `from` goes on to `at`
abbrev pub Goes : List ℕ → ℕ → ℕ → Type 0
Goes input from at = (at ≤ length input) × (from + line_length (drop from input) ≡ at + line_length (drop at input))

abbrev pub invariant-loop-chunk : goal.invariant-loop-chunk
invariant-loop-chunk l = (l.at ≡ l.from + 32 * l.chunk-index) × Goes l.input l.from l.at
