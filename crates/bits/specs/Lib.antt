pub use Rattle.bit_fields.specs.Bits
