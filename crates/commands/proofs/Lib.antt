pub mod Events
pub mod Types
pub mod Lists
