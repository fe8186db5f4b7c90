pub mod Fits
pub mod Input
pub mod Adding
pub mod Examined
