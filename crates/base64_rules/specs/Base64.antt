-- Base64 as RFC 4648 section 4 has it, both ways.
-- Assumes nothing.
use Rattle.std.specs.Prelude.{ℕ, ◌+◌, ◌-◌, ◌*◌, ◌/◌, ◌%◌, ◌^◌, Bool, true, cond, ◌&&◌, List, [], ◌∷◌, length, get_or, leb, ltb, eqb}
use Rattle.bits.specs.Bits.{bit, num, run, bytes_of}

-- the character that stands for six bits: A to Z, a to z, 0 to 9, + and /
unfoldable pub character : ℕ → ℕ
character v =
    cond (ltb v 26) (v + 65)
    (cond (ltb v 52) (v - 26 + 97)
    (cond (ltb v 62) (v - 52 + 48)
    (cond (eqb v 62) 43 47)))

-- the six bits that a character stands for, or 64 for a character outside the alphabet
unfoldable pub sextet : ℕ → ℕ
sextet c =
    cond (leb 65 c && leb c 90) (c - 65)
    (cond (leb 97 c && leb c 122) (c - 97 + 26)
    (cond (leb 48 c && leb c 57) (c - 48 + 52)
    (cond (eqb c 43) 62
    (cond (eqb c 47) 63 64))))

-- the same, but 2 ^ 24 for a character outside the alphabet: more than the bits of four characters make
unfoldable pub six : ℕ → ℕ
six c = cond (ltb (sextet c) 64) (sextet c) (2 ^ 24)

-- how many `=` end the text as padding: one in the last place, and one more before it when the last is `=` too
unfoldable pub padding : List ℕ → ℕ
padding t = cond (eqb (get_or t (length t - 1) 0) 61) (cond (eqb (get_or t (length t - 2) 0) 61) 2 1) 0

-- how many characters stand before the padding
unfoldable pub before : List ℕ → ℕ
before t = length t - padding t

-- bit k of the text: six bits a character, most significant first
unfoldable pub text_bit : List ℕ → ℕ → ℕ
text_bit t k = sextet (get_or t (k / 6) 0) / 2 ^ (5 - k % 6) % 2

-- how many whole bytes those bits make
unfoldable pub count : List ℕ → ℕ
count t = 6 * before t / 8

-- the bytes of the text
unfoldable pub decoded : List ℕ → List ℕ
decoded t = bytes_of (text_bit t) (count t)

-- every one of these characters is of the alphabet
unfoldable pub all_of : List ℕ → Bool
all_of [] = true
all_of (c ∷ cs) = ltb (sextet c) 64 && all_of cs

-- the number that the spare bits make, those after the last whole byte
unfoldable pub spare : List ℕ → ℕ
spare t = num (text_bit t) (8 * count t) (6 * before t % 8)

-- how many characters the text of the bytes s has
unfoldable pub text_length : List ℕ → ℕ
text_length s = (length s + 2) / 3 * 4

-- character i of the text: six bits of s, zeros after its end, or `=` where no bit of s is left
unfoldable pub character_at : List ℕ → ℕ → ℕ
character_at s i = cond (ltb (6 * i) (8 * length s)) (character (num (bit s) (6 * i) 6)) 61

-- the text of the bytes s
unfoldable pub encoded : List ℕ → List ℕ
encoded s = run (character_at s) 0 (text_length s)
