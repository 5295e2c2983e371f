pub mod Xor
pub mod Steps
pub mod Bytes
pub mod Arms
