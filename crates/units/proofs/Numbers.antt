-- Each refusal has a number of its own, from 1 to 17, and the table names it back.
-- Assumes nothing.
use mathlib.Core.Path.{◌≡◌, refl, sym, ap, ◌∙◌}
use Prim.Native.Nat.{◌≤◌}
use lib.Dec.{lit≤}
use Rattle.units.specs.declared.refusals.Refusal.{Refusal}
use Rattle.units.specs.declared.refusals.Refusal.TheVariants.{Short, Table, Syntax, Size, Crc, Version, Crypt, Command, Loop, Descriptor, Room, TextLen, TextChar, TextBits, Sheet, NotHere, Sealed}
use Rattle.units.specs.Refusals.{number_of, named}

pub named_back : (r : Refusal) → named (number_of r) ≡ r
named_back Short = refl
named_back Table = refl
named_back Syntax = refl
named_back Size = refl
named_back Crc = refl
named_back Version = refl
named_back Crypt = refl
named_back Command = refl
named_back Loop = refl
named_back Descriptor = refl
named_back Room = refl
named_back TextLen = refl
named_back TextChar = refl
named_back TextBits = refl
named_back Sheet = refl
named_back NotHere = refl
named_back Sealed = refl

pub number_only : (r s : Refusal) → number_of r ≡ number_of s → r ≡ s
number_only r s e = sym (named_back r) ∙ ap named e ∙ named_back s

pub number_at_most : (r : Refusal) → number_of r ≤ 17
number_at_most Short = lit≤ tt
number_at_most Table = lit≤ tt
number_at_most Syntax = lit≤ tt
number_at_most Size = lit≤ tt
number_at_most Crc = lit≤ tt
number_at_most Version = lit≤ tt
number_at_most Crypt = lit≤ tt
number_at_most Command = lit≤ tt
number_at_most Loop = lit≤ tt
number_at_most Descriptor = lit≤ tt
number_at_most Room = lit≤ tt
number_at_most TextLen = lit≤ tt
number_at_most TextChar = lit≤ tt
number_at_most TextBits = lit≤ tt
number_at_most Sheet = lit≤ tt
number_at_most NotHere = lit≤ tt
number_at_most Sealed = lit≤ tt
