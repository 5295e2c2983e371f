pub mod Billing
pub mod Timing
pub mod Turns
