pub mod Answer
pub mod Examine
pub mod Told
