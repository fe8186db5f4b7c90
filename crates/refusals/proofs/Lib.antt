pub mod Positive
pub mod Table
