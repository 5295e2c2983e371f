pub mod Stream
pub mod Turns
