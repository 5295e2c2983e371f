pub mod Stored
pub mod Word
