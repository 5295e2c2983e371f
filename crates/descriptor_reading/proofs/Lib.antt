pub mod Rows
pub mod SegmentationNames
pub mod SegmentationRows
pub mod SegmentationTold
pub mod Small
pub mod Tags
pub mod Told
pub mod UpidPart
