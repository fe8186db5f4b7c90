pub mod Log
pub mod Finding
pub mod Record
pub mod Columns
