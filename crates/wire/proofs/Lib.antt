pub mod Placed
pub mod Given
pub mod Handed
pub mod Short
