pub mod Ceiling
pub mod Turns
