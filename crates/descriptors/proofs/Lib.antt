pub mod ByKind
pub mod Walk
mod Ways
pub mod Loop
pub mod Filled
