pub mod Left
pub mod Longest
pub mod OtherKinds
pub mod Standing
pub mod Opened
