-- The bits of a byte list, the number that a field of them makes, and the bytes after a field was written.
-- Assumes nothing.
use Rattle.std.specs.Prelude.{ℕ, zero, suc, ◌+◌, ◌-◌, ◌*◌, ◌/◌, ◌%◌, ◌^◌, Bool, true, cond, ◌&&◌, List, [], ◌∷◌, length, get_or, leb, ltb, eqb}

-- bit k of the bytes s: bit 0 is the most significant bit of the first byte, and past the end every bit is 0
unfoldable pub bit : List ℕ → ℕ → ℕ
bit s k = get_or s (k / 8) 0 / 2 ^ (7 - k % 8) % 2

-- the number that the w bits of f from place k on make, most significant first
unfoldable pub num : (ℕ → ℕ) → ℕ → ℕ → ℕ
num f k zero = 0
num f k (suc w) = num f k w * 2 + f (k + w)

-- a field that this library reads: at most 48 bits wide, and all of it within s
unfoldable pub within : List ℕ → ℕ → ℕ → Bool
within s at w = leb w 48 && leb (at + w) (8 * length s)

-- the field of w bits at place `at`; 0 where it is wider than 48 bits or runs past the end
unfoldable pub field_of : List ℕ → ℕ → ℕ → ℕ
field_of s at w = cond (within s at w) (num (bit s) at w) 0

-- the bit at place `at` is 1
abbrev pub flag_of : List ℕ → ℕ → Bool
flag_of s at = eqb (field_of s at 1) 1

-- the bits of f, but for the w bits from `at` on, which are those of the number v
unfoldable pub patched : (ℕ → ℕ) → ℕ → ℕ → ℕ → ℕ → ℕ
patched f at w v k = cond (leb at k && ltb k (at + w)) (v / 2 ^ (at + w - (k + 1)) % 2) (f k)

-- the n values of g from place i on
unfoldable pub run : (ℕ → ℕ) → ℕ → ℕ → List ℕ
run g i zero = []
run g i (suc n) = g i ∷ run g (suc i) n

-- byte i of the bits of f
unfoldable pub byte_of : (ℕ → ℕ) → ℕ → ℕ
byte_of f i = num f (8 * i) 8

-- the first n bytes that the bits of f make
unfoldable pub bytes_of : (ℕ → ℕ) → ℕ → List ℕ
bytes_of f n = run (byte_of f) 0 n

-- a field that this library writes: one that it reads, and whose bits hold the value
unfoldable pub writable : List ℕ → ℕ → ℕ → ℕ → Bool
writable s at w v = within s at w && ltb v (2 ^ w)

-- the bytes after a field was written: its bits get the value and all other bits stay, and a field that cannot be written changes nothing
unfoldable pub written_of : List ℕ → ℕ → ℕ → ℕ → List ℕ
written_of s at w v = cond (writable s at w v) (bytes_of (patched (bit s) at w v) (length s)) s

-- ---- fields one after another: a field is its width and its value

-- the bytes after each field was written where the one before it ended, the first at place `at`
unfoldable pub write_all : List ℕ → ℕ → List (ℕ × ℕ) → List ℕ
write_all s at [] = s
write_all s at (x ∷ xs) = write_all (written_of s at x.0 x.1) (at + x.0) xs

-- each of them can be written there
unfoldable pub all_writable : List ℕ → ℕ → List (ℕ × ℕ) → Bool
all_writable s at [] = true
all_writable s at (x ∷ xs) = writable s at x.0 x.1 && all_writable s (at + x.0) xs

-- the values of fields of these widths, one after another from place `at` on
unfoldable pub read_all : List ℕ → ℕ → List ℕ → List ℕ
read_all s at [] = []
read_all s at (w ∷ ws) = field_of s at w ∷ read_all s (at + w) ws
