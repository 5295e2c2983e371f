pub mod Event
pub mod EventAt
