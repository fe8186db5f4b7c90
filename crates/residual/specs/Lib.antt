pub mod Residual
pub mod Tree
pub mod Relax
pub mod Index
