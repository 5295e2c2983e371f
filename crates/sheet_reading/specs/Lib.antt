pub mod SheetOf
