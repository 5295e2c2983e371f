pub mod LastFirst
pub mod Letters
pub mod WriteRows
