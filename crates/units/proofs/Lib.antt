pub mod One
pub mod Times
pub mod Numbers
pub mod Rows
pub mod Put
