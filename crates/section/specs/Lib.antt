pub mod Accept
pub mod Judge
