pub mod Cases
pub mod Num
pub mod Digits
pub mod Bytes
pub mod Within
pub mod Parts
pub mod Patch
pub mod Fields
