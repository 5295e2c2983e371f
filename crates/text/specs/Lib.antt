pub mod Groups
pub mod Text
