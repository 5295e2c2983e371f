-- A grammar as data: what a table of the standard says, row by row.
-- Assumes nothing.
use Rattle.std.specs.Prelude.{ℕ, List}
use Prim.Native.String.{String}

-- one row of a table: a field of so many bits under its name, or so many reserved bits
pub data Item : Type 0 where
  field : ℕ → String → Item
  reserved : ℕ → Item

-- what an `if` of a table asks: a field has this value, or one of these, or the part that a length gave is not used up yet
pub data Test : Type 0 where
  is : String → ℕ → Test
  among : String → List ℕ → Test
  more : Test

-- a table: what stands one after another
pub data Prog : Type 0 where
  -- nothing more
  done : Prog
  -- nothing is allowed here
  stop : Prog
  -- these rows, then on
  fields : List Item → Prog → Prog
  -- if the test holds the first, else the second, then on
  branch : Test → Prog → Prog → Prog → Prog
  -- another table, then on
  call : Prog → Prog → Prog
  -- a body as often as the field of that name says, then on
  repeat : String → Prog → Prog → Prog
  -- a part of as many bytes as the field of that name says, all of it there and used up exactly by the body, then on
  frame : String → Prog → Prog → Prog
  -- a body as often as it takes to reach the end of the part, then on
  fill : Prog → Prog → Prog
  -- a body whose breach goes out under that number, unless it has one already, then on
  under : ℕ → Prog → Prog → Prog
