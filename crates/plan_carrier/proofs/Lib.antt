pub mod Carrying
pub mod Longest
