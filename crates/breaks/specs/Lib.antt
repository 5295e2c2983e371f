pub mod Signals
pub mod Breaks
pub mod Dash
