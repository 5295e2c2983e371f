pub mod Refusals
pub mod Answers
pub mod Clock
pub mod Put
