pub mod Trails
pub mod Idle
pub mod Shape
pub mod Along
pub mod Still
pub mod Turn
