pub mod Command
pub mod Places
