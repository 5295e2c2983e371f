pub mod Types
pub mod One
