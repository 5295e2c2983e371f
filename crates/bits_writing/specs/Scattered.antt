-- For a private function: bytes of which some were stored.
-- Assumes nothing.
use Rattle.std.specs.Prelude.{◌≡◌, List, ℕ, ◌+◌, ◌-◌, ◌*◌, ◌/◌, ◌%◌, ◌^◌, ◌≤◌, ◌<◌, length, get_or}

-- t is s with the last n bytes of a word from byte i on
pub record Scattered (s : List ℕ) (i n word : ℕ) (t : List ℕ) : Type 0 where
  pub long : length t ≡ length s
  pub here : (k : ℕ) → k < n → get_or t (i + k) 0 ≡ word / 2 ^ (8 * (n - 1 - k)) % 256
  pub before : (k : ℕ) → k < i → get_or t k 0 ≡ get_or s k 0
  pub after : (k : ℕ) → i + n ≤ k → get_or t k 0 ≡ get_or s k 0
