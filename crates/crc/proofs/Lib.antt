pub mod Register
pub mod Ahead
pub mod Words
pub mod Begun
pub mod Gathered
pub mod Residue
pub mod Known
