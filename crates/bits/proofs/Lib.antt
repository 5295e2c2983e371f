pub use Rattle.bit_fields.proofs.Cases
pub use Rattle.bit_fields.proofs.Num
pub use Rattle.bit_fields.proofs.Digits
pub use Rattle.bit_fields.proofs.Bytes
pub use Rattle.bit_fields.proofs.Within
pub use Rattle.bit_fields.proofs.Parts
pub use Rattle.bit_fields.proofs.Patch
pub use Rattle.bit_fields.proofs.Fields
