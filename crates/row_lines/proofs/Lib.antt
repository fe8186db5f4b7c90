pub mod RowLine
pub mod Rows
