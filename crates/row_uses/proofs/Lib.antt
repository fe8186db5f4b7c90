pub mod Given
pub mod Chain
pub mod Filing
pub mod Entries
