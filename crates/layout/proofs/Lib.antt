pub mod Follows
pub mod Shape
pub mod Planned
