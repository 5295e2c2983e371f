pub mod Wire
pub mod Given
pub mod Put
