pub mod Groups
pub mod RoundTrip
pub mod Rows
pub mod Vectors
