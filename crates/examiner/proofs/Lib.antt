pub mod Reading
pub mod Demand2
