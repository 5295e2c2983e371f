pub mod KnownAmong
pub mod Stands
pub mod Placed
pub mod EachStands
pub mod StandingRows
