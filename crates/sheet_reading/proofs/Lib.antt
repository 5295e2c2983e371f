pub mod Trace
pub mod Plans
pub mod SheetRows
