pub mod Turning
pub mod Holding
pub mod Moving
pub mod Streams
