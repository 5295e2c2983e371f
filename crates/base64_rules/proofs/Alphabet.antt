-- The alphabet, range by range: the value that a character stands for, and the character that stands for a value; and that each undoes the other.
-- Assumes nothing.
use mathlib.Core.Path.{◌≡◌, refl}
use mathlib.Core.Bool.{true, false, ◌&&◌, ◌||◌}
use Prim.Native.Nat.{ℕ, ◌+◌, ◌-◌, ◌<◌, ◌≤◌}
use native.Mathlib.Omega.{arith}
use native.Mathlib.Decide.{dec_lt}
use lib.Dec.{leb, eqb}
use borrow.Author.Tests.{lt-ltb, le-ltb, le-leb, lt-leb, ne_eqb, leb-true, eqb-true}
use Rattle.bits.proofs.Cases.{is_false, and_left, and_right, all_below}
use Rattle.base64_rules.specs.Base64.{character, sextet}

-- ---- from a character

within : (a b c : ℕ) → a ≤ c → c ≤ b → (leb a c && leb c b) ≡ true
within a b c h k = rw (le-leb a c h, le-leb c b k)

without : (a b c : ℕ) → (a ≤ c → c ≤ b → ⊥) → (leb a c && leb c b) ≡ false
without a b c h =
    is_false (leb a c && leb c b)
    (λ e. h (leb-true a c (and_left (leb a c) (leb c b) e)) (leb-true c b (and_right (leb a c) (leb c b) e)))

pub upper : (c : ℕ) → 65 ≤ c → c ≤ 90 → sextet c ≡ c - 65
unfolding sextet
upper c h k = rw (within 65 90 c h k)

pub lower : (c : ℕ) → 97 ≤ c → c ≤ 122 → sextet c ≡ c - 97 + 26
unfolding sextet
lower c h k = rw (without 65 90 c (omega arith), within 97 122 c h k)

pub digit : (c : ℕ) → 48 ≤ c → c ≤ 57 → sextet c ≡ c - 48 + 52
unfolding sextet
digit c h k = rw (without 65 90 c (omega arith), without 97 122 c (omega arith), within 48 57 c h k)

pub plus : sextet 43 ≡ 62
unfolding sextet
plus = refl

pub slash : sextet 47 ≡ 63
unfolding sextet
slash = refl

-- in none of the alphabet's ranges
abbrev pub Outside : ℕ → Type 0
Outside c = (65 ≤ c → c ≤ 90 → ⊥) × (97 ≤ c → c ≤ 122 → ⊥) × (48 ≤ c → c ≤ 57 → ⊥) × (c ≡ 43 → ⊥) × (c ≡ 47 → ⊥)

pub outside : (c : ℕ) → Outside c → sextet c ≡ 64
unfolding sextet
outside c o =
    rw (without 65 90 c o.0, without 97 122 c o.1, without 48 57 c o.2, ne_eqb c 43 o.3, ne_eqb c 47 o.4)

-- ---- from a value

pub character_upper : (v : ℕ) → v < 26 → character v ≡ v + 65
unfolding character
character_upper v h = rw (lt-ltb v 26 h)

pub character_lower : (v : ℕ) → 26 ≤ v → v < 52 → character v ≡ v - 26 + 97
unfolding character
character_lower v h k = rw (le-ltb v 26 h, lt-ltb v 52 k)

pub character_digit : (v : ℕ) → 52 ≤ v → v < 62 → character v ≡ v - 52 + 48
unfolding character
character_digit v h k = rw (le-ltb v 26 (omega arith), le-ltb v 52 h, lt-ltb v 62 k)

pub character_plus : character 62 ≡ 43
unfolding character
character_plus = refl

pub character_slash : character 63 ≡ 47
unfolding character
character_slash = refl

-- ---- there and back, by a test computed at each value and at each character up to the alphabet's last

pub sextet_character : (v : ℕ) → v < 64 → sextet (character v) ≡ v
unfolding character sextet
sextet_character v h =
    eqb-true _ _ (all_below (λ (k : ℕ). eqb (sextet (character k)) k) 64 refl v h)

back : (c : ℕ) → sextet c < 64 → c < 123 → character (sextet c) ≡ c
unfolding character sextet
back c h l =
    eqb-true _ _
    (rw (lt-leb 64 (sextet c) h) at
    (all_below (λ (k : ℕ). leb 64 (sextet k) || eqb (character (sextet k)) k) 123 refl c l))

pub character_sextet : (c : ℕ) → sextet c < 64 → character (sextet c) ≡ c
character_sextet c h =
    elim (dec_lt c 123) [
      | yes l ↦ back c h l
      | no n ↦ absurd (omega (arith, outside c (omega arith)))
    ]
