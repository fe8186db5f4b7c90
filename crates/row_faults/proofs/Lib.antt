pub mod Looked
pub mod Sizes
