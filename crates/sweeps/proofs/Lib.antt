pub mod Begun
pub mod InOrder
