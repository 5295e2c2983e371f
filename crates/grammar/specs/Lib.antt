pub mod Syntax
pub mod Meaning
pub mod Tables
pub mod Ended
pub mod Traces
pub mod Writing
pub mod Names
pub mod Left
