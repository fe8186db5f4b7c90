pub mod Decomposed
pub mod Fills
pub mod Found
