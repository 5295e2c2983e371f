pub mod Descriptor
pub mod Places
