pub mod Leb128
pub mod Field
pub mod Numbered
pub mod Position
pub mod Writing
