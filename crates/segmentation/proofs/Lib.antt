pub mod Ends
mod FromId
mod FromUpid
