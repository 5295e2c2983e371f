pub mod Table
pub mod Rows
pub mod Times
pub mod EventEnd
pub mod Inserts
pub mod Private
pub mod Said
pub mod Nothing
