pub mod Filling
pub mod Found
pub mod Planning
pub mod Shape
pub mod Stored
pub mod Zeros
