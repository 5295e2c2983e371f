pub mod Fields
pub mod SoFar
