pub mod Start
pub mod First
pub mod Asked
