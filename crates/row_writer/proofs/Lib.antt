pub mod Each
pub mod Part
