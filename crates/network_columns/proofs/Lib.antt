pub mod Columns
pub mod Storing
