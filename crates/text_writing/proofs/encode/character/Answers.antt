-- `text_writing::encode::character` meets its contract: each arm has the character that the definition computes to at its value.
-- Assumes nothing.
use Rattle.std.proofs.Common.{◌≡◌, ℕ, arith, ap, sym}
use Rattle.base64_rules.specs.Base64.{character}
use Rattle.text_writing.proofs.encode.character.Goals as goal

arm : (k v : ℕ) → v ≡ k → character k ≡ character v
arm k v e = ap character (sym e)

pub returns-in-0 : goal.returns-in-0
unfolding character
returns-in-0 c = arm 0 _ c.in-0.is

pub returns-in-1 : goal.returns-in-1
unfolding character
returns-in-1 c = arm 1 _ c.in-1.is

pub returns-in-2 : goal.returns-in-2
unfolding character
returns-in-2 c = arm 2 _ c.in-2.is

pub returns-in-3 : goal.returns-in-3
unfolding character
returns-in-3 c = arm 3 _ c.in-3.is

pub returns-in-4 : goal.returns-in-4
unfolding character
returns-in-4 c = arm 4 _ c.in-4.is

pub returns-in-5 : goal.returns-in-5
unfolding character
returns-in-5 c = arm 5 _ c.in-5.is

pub returns-in-6 : goal.returns-in-6
unfolding character
returns-in-6 c = arm 6 _ c.in-6.is

pub returns-in-7 : goal.returns-in-7
unfolding character
returns-in-7 c = arm 7 _ c.in-7.is

pub returns-in-8 : goal.returns-in-8
unfolding character
returns-in-8 c = arm 8 _ c.in-8.is

pub returns-in-9 : goal.returns-in-9
unfolding character
returns-in-9 c = arm 9 _ c.in-9.is

pub returns-in-10 : goal.returns-in-10
unfolding character
returns-in-10 c = arm 10 _ c.in-10.is

pub returns-in-11 : goal.returns-in-11
unfolding character
returns-in-11 c = arm 11 _ c.in-11.is

pub returns-in-12 : goal.returns-in-12
unfolding character
returns-in-12 c = arm 12 _ c.in-12.is

pub returns-in-13 : goal.returns-in-13
unfolding character
returns-in-13 c = arm 13 _ c.in-13.is

pub returns-in-14 : goal.returns-in-14
unfolding character
returns-in-14 c = arm 14 _ c.in-14.is

pub returns-in-15 : goal.returns-in-15
unfolding character
returns-in-15 c = arm 15 _ c.in-15.is

pub returns-in-16 : goal.returns-in-16
unfolding character
returns-in-16 c = arm 16 _ c.in-16.is

pub returns-in-17 : goal.returns-in-17
unfolding character
returns-in-17 c = arm 17 _ c.in-17.is

pub returns-in-18 : goal.returns-in-18
unfolding character
returns-in-18 c = arm 18 _ c.in-18.is

pub returns-in-19 : goal.returns-in-19
unfolding character
returns-in-19 c = arm 19 _ c.in-19.is

pub returns-in-20 : goal.returns-in-20
unfolding character
returns-in-20 c = arm 20 _ c.in-20.is

pub returns-in-21 : goal.returns-in-21
unfolding character
returns-in-21 c = arm 21 _ c.in-21.is

pub returns-in-22 : goal.returns-in-22
unfolding character
returns-in-22 c = arm 22 _ c.in-22.is

pub returns-in-23 : goal.returns-in-23
unfolding character
returns-in-23 c = arm 23 _ c.in-23.is

pub returns-in-24 : goal.returns-in-24
unfolding character
returns-in-24 c = arm 24 _ c.in-24.is

pub returns-in-25 : goal.returns-in-25
unfolding character
returns-in-25 c = arm 25 _ c.in-25.is

pub returns-in-26 : goal.returns-in-26
unfolding character
returns-in-26 c = arm 26 _ c.in-26.is

pub returns-in-27 : goal.returns-in-27
unfolding character
returns-in-27 c = arm 27 _ c.in-27.is

pub returns-in-28 : goal.returns-in-28
unfolding character
returns-in-28 c = arm 28 _ c.in-28.is

pub returns-in-29 : goal.returns-in-29
unfolding character
returns-in-29 c = arm 29 _ c.in-29.is

pub returns-in-30 : goal.returns-in-30
unfolding character
returns-in-30 c = arm 30 _ c.in-30.is

pub returns-in-31 : goal.returns-in-31
unfolding character
returns-in-31 c = arm 31 _ c.in-31.is

pub returns-in-32 : goal.returns-in-32
unfolding character
returns-in-32 c = arm 32 _ c.in-32.is

pub returns-in-33 : goal.returns-in-33
unfolding character
returns-in-33 c = arm 33 _ c.in-33.is

pub returns-in-34 : goal.returns-in-34
unfolding character
returns-in-34 c = arm 34 _ c.in-34.is

pub returns-in-35 : goal.returns-in-35
unfolding character
returns-in-35 c = arm 35 _ c.in-35.is

pub returns-in-36 : goal.returns-in-36
unfolding character
returns-in-36 c = arm 36 _ c.in-36.is

pub returns-in-37 : goal.returns-in-37
unfolding character
returns-in-37 c = arm 37 _ c.in-37.is

pub returns-in-38 : goal.returns-in-38
unfolding character
returns-in-38 c = arm 38 _ c.in-38.is

pub returns-in-39 : goal.returns-in-39
unfolding character
returns-in-39 c = arm 39 _ c.in-39.is

pub returns-in-40 : goal.returns-in-40
unfolding character
returns-in-40 c = arm 40 _ c.in-40.is

pub returns-in-41 : goal.returns-in-41
unfolding character
returns-in-41 c = arm 41 _ c.in-41.is

pub returns-in-42 : goal.returns-in-42
unfolding character
returns-in-42 c = arm 42 _ c.in-42.is

pub returns-in-43 : goal.returns-in-43
unfolding character
returns-in-43 c = arm 43 _ c.in-43.is

pub returns-in-44 : goal.returns-in-44
unfolding character
returns-in-44 c = arm 44 _ c.in-44.is

pub returns-in-45 : goal.returns-in-45
unfolding character
returns-in-45 c = arm 45 _ c.in-45.is

pub returns-in-46 : goal.returns-in-46
unfolding character
returns-in-46 c = arm 46 _ c.in-46.is

pub returns-in-47 : goal.returns-in-47
unfolding character
returns-in-47 c = arm 47 _ c.in-47.is

pub returns-in-48 : goal.returns-in-48
unfolding character
returns-in-48 c = arm 48 _ c.in-48.is

pub returns-in-49 : goal.returns-in-49
unfolding character
returns-in-49 c = arm 49 _ c.in-49.is

pub returns-in-50 : goal.returns-in-50
unfolding character
returns-in-50 c = arm 50 _ c.in-50.is

pub returns-in-51 : goal.returns-in-51
unfolding character
returns-in-51 c = arm 51 _ c.in-51.is

pub returns-in-52 : goal.returns-in-52
unfolding character
returns-in-52 c = arm 52 _ c.in-52.is

pub returns-in-53 : goal.returns-in-53
unfolding character
returns-in-53 c = arm 53 _ c.in-53.is

pub returns-in-54 : goal.returns-in-54
unfolding character
returns-in-54 c = arm 54 _ c.in-54.is

pub returns-in-55 : goal.returns-in-55
unfolding character
returns-in-55 c = arm 55 _ c.in-55.is

pub returns-in-56 : goal.returns-in-56
unfolding character
returns-in-56 c = arm 56 _ c.in-56.is

pub returns-in-57 : goal.returns-in-57
unfolding character
returns-in-57 c = arm 57 _ c.in-57.is

pub returns-in-58 : goal.returns-in-58
unfolding character
returns-in-58 c = arm 58 _ c.in-58.is

pub returns-in-59 : goal.returns-in-59
unfolding character
returns-in-59 c = arm 59 _ c.in-59.is

pub returns-in-60 : goal.returns-in-60
unfolding character
returns-in-60 c = arm 60 _ c.in-60.is

pub returns-in-61 : goal.returns-in-61
unfolding character
returns-in-61 c = arm 61 _ c.in-61.is

pub returns-in-62 : goal.returns-in-62
unfolding character
returns-in-62 c = arm 62 _ c.in-62.is

pub returns-in_default : goal.returns-in_default
unfolding character
returns-in_default c = arm 63 c.args.v (omega arith)
