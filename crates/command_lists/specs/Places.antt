-- For private functions: a component of an insert by the byte at which it stands.
-- Assumes nothing.
use Rattle.std.specs.Prelude.{ℕ, ◌+◌, ◌*◌, Bool, cond, List}
use Rattle.bits.specs.Bits.{field_of}
use Rattle.command_reading.specs.declared.answers.SpliceTime.{SpliceTime}
use Rattle.command_reading.specs.declared.answers.InsertComponent.{InsertComponent}
use Rattle.command_reading.specs.Places.{time_at}

-- the component of an insert from byte `at` on
unfoldable pub insert_component_at : List ℕ → ℕ → Bool → InsertComponent
insert_component_at s at immediate =
    record { component_tag = field_of s (8 * at) 8; time = cond immediate SpliceTime.Immediate (time_at s (at + 1)) }
