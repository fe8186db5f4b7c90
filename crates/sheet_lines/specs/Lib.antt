pub mod SheetText
pub mod Summable
