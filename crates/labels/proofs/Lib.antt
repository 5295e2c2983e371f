pub mod LabelPart
pub mod LabelBytes
pub mod Left
