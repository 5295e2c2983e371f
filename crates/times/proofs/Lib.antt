pub mod Header
pub mod Others
