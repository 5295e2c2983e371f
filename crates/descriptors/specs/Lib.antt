pub mod Walk
pub mod Loop
