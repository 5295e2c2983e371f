-- A text four characters at a time: what a group of them makes, and which of its characters is padding.
-- Assumes nothing.
use Rattle.std.specs.Prelude.{ℕ, zero, suc, ◌+◌, ◌*◌, cond, List, get_or, ltb}
use Rattle.base64_rules.specs.Base64.{six}

-- character i of the text; from place n on, where the padding stands, the character of six bits of 0
unfoldable pub plain : List ℕ → ℕ → ℕ → ℕ
plain t n i = cond (ltb i n) (get_or t i 0) 65

-- what k characters from place `at` on make, six bits each: 2 ^ 24 or more where one of up to four is outside the alphabet
unfoldable pub worth : (ℕ → ℕ) → ℕ → ℕ → ℕ
worth f at zero = 0
worth f at (suc k) = worth f at k * 64 + six (f (at + k))
