-- The test vectors of RFC 4648 section 10, and a text for each way in which rows 12 to 14 refuse; each is computed.
-- Assumes nothing.
use mathlib.Core.Path.{◌≡◌, refl}
use mathlib.Core.List.{[], ◌∷◌}
use lib.ListN.{replicate}
use Rattle.bits.specs.Bits.{bit, num, run}
use Rattle.text.specs.Text.{character, sextet, padding, before, text_bit, count, all_of, spare, read_row, text_length, character_at, encoded}

-- "", "f", "fo", "foo", "foob", "fooba", "foobar"
pub rfc : (encoded [] ≡ [])
    × (encoded (102 ∷ []) ≡ 90 ∷ 103 ∷ 61 ∷ 61 ∷ [])
    × (encoded (102 ∷ 111 ∷ []) ≡ 90 ∷ 109 ∷ 56 ∷ 61 ∷ [])
    × (encoded (102 ∷ 111 ∷ 111 ∷ []) ≡ 90 ∷ 109 ∷ 57 ∷ 118 ∷ [])
    × (encoded (102 ∷ 111 ∷ 111 ∷ 98 ∷ []) ≡ 90 ∷ 109 ∷ 57 ∷ 118 ∷ 89 ∷ 103 ∷ 61 ∷ 61 ∷ [])
    × (encoded (102 ∷ 111 ∷ 111 ∷ 98 ∷ 97 ∷ []) ≡ 90 ∷ 109 ∷ 57 ∷ 118 ∷ 89 ∷ 109 ∷ 69 ∷ 61 ∷ [])
    × (encoded (102 ∷ 111 ∷ 111 ∷ 98 ∷ 97 ∷ 114 ∷ []) ≡ 90 ∷ 109 ∷ 57 ∷ 118 ∷ 89 ∷ 109 ∷ 70 ∷ 121 ∷ [])
unfolding encoded run character_at character num bit text_length
rfc = (refl, refl, refl, refl, refl, refl, refl)

-- `AAA`; `A===`, `AA=A`, `AA A`; `AB==`, `AAB=`; and `AA==` with no room and with room
pub rows : (read_row (65 ∷ 65 ∷ 65 ∷ []) 9 ≡ 12)
    × (read_row (65 ∷ 61 ∷ 61 ∷ 61 ∷ []) 9 ≡ 13)
    × (read_row (65 ∷ 65 ∷ 61 ∷ 65 ∷ []) 9 ≡ 13)
    × (read_row (65 ∷ 65 ∷ 32 ∷ 65 ∷ []) 9 ≡ 13)
    × (read_row (65 ∷ 66 ∷ 61 ∷ 61 ∷ []) 9 ≡ 14)
    × (read_row (65 ∷ 65 ∷ 66 ∷ 61 ∷ []) 9 ≡ 14)
    × (read_row (65 ∷ 65 ∷ 61 ∷ 61 ∷ []) 0 ≡ 11)
    × (read_row (65 ∷ 65 ∷ 61 ∷ 61 ∷ []) 1 ≡ 0)
unfolding read_row all_of before padding sextet spare count num text_bit
rows = (refl, refl, refl, refl, refl, refl, refl, refl)

-- 5,464 characters give 4,098 bytes; 5,468 are too many
pub limits : (read_row (replicate 5464 65) 4098 ≡ 0) × (read_row (replicate 5464 65) 4097 ≡ 11) × (read_row (replicate 5468 65) 4101 ≡ 12)
unfolding read_row all_of before padding sextet spare count num text_bit
limits = (refl, refl, refl)
