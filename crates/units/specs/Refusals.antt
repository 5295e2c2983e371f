-- The refusals of paper 01, by name and by number, and the first row of a table that applies.
-- Assumes nothing.
use Rattle.std.specs.Prelude.{ℕ, zero, suc, ◌-◌, Bool, cond, List, [], ◌∷◌, get_or}
use Rattle.units.specs.declared.refusals.Refusal.{Refusal}
use Rattle.units.specs.declared.refusals.Refusal.TheVariants.{Short, Table, Syntax, Size, Crc, Version, Crypt, Command, Loop, Descriptor, Room, TextLen, TextChar, TextBits, Sheet, NotHere, Sealed}

-- the paper's number for each refusal
abbrev pub number_of : Refusal → ℕ
number_of Short = 1
number_of Table = 2
number_of Syntax = 3
number_of Size = 4
number_of Crc = 5
number_of Version = 6
number_of Crypt = 7
number_of Command = 8
number_of Loop = 9
number_of Descriptor = 10
number_of Room = 11
number_of TextLen = 12
number_of TextChar = 13
number_of TextBits = 14
number_of Sheet = 15
number_of NotHere = 16
number_of Sealed = 17

-- the refusals in the order of the paper's table
abbrev pub table : List Refusal
table =
    Short ∷ Table ∷ Syntax ∷ Size ∷ Crc ∷ Version ∷ Crypt ∷ Command ∷ Loop ∷ Descriptor ∷ Room ∷ TextLen ∷ TextChar
    ∷ TextBits ∷ Sheet ∷ NotHere ∷ Sealed ∷ []

-- the refusal with the paper's number n, which is from 1 to 17
abbrev pub named : ℕ → Refusal
named n = get_or table (n - 1) Short

-- the number of the first row whose test holds, in the order given; 0 where none does
abbrev pub first : List (Bool × ℕ) → ℕ
first [] = 0
first (row ∷ rows) = cond row.0 row.1 (first rows)

-- the first of two rows that applies
abbrev pub or_else : ℕ → ℕ → ℕ
or_else zero b = b
or_else (suc a) b = suc a
