pub mod Write
pub mod Longest
pub mod Answer
